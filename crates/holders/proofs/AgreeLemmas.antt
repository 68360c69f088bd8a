-- Holders that were brought what covers the other's hold the same.
use Rattle.std.proofs.Common.{◌≡◌, Bool, true, List, ◌++◌, sym, subst, Contains}
use Rattle.std.specs.List.{flat_map}
use Rattle.std.proofs.lemmas.List.Elements.{Contains-append_left, Contains-append_right}
use Rattle.ds_names.specs.declared.key.Key.{Key}
use Rattle.ds_entry.specs.Item.{item_cmp}
use Rattle.ds_entry.specs.ItemCovers.{covers}
use Rattle.ds_entry.specs.Under.{under}
use Rattle.ds_entry.specs.declared.item.Item.{Item}
use Rattle.ds_entry.proofs.Members.{Contains-flat_map}
use Rattle.ds_entry.proofs.ItemLemmas.{covers-trans, items_total}
use Rattle.ds_entry.proofs.OrderedLemmas.{same_members}
use Rattle.ds_join.specs.ItemTop.{CoversAll, IsPartOf, IsTop}
use Rattle.ds_join.proofs.ItemTopLemmas.{held_apart}
use Rattle.ds_machine.specs.Reached.{AreExact}
use Rattle.ds_replica.proofs.SentLemmas.{Contains-under, Contains-from_under}
use Rattle.ds_replica.proofs.HoldingLemmas.{top_under_query}
use Rattle.holders.specs.Holding.{HolderRecord, Knows, all_held}
use Rattle.holders.specs.Agree.{AllAgree, Brought, HeldCoversKnown, TwoAgree, TwoAgreeByHeld}
use Rattle.holders.proofs.KnownLemmas.{held_is_top_of_known}

-- ---- the tops of two lists that cover each other
module _ (all xs ys held too : List Item) (exact : AreExact all) (left : IsPartOf held all) (right : IsPartOf too all) (t : IsTop held xs)
    (u : IsTop too ys) where
  in_second : CoversAll ys xs → CoversAll xs ys → IsPartOf held too
  in_second there here i h =
      let j = there i (t.among i h) in
      let k = u.greatest j.0 j.1 in
      let m = here k.0 (u.among k.0 k.1) in
      let n = t.greatest m.0 m.1 in
      let up : covers k.0 i ≡ true = covers-trans k.0 j.0 i k.2 j.2 in
      let down : covers n.0 k.0 ≡ true = covers-trans n.0 m.0 k.0 n.2 m.2 in
      let same : n.0 ≡ i = held_apart held xs t i n.0 h n.1 (covers-trans n.0 k.0 i down up) in
      let back : covers i k.0 ≡ true = subst (λ (x : Item). covers x k.0 ≡ true) same down in
      let one : i ≡ k.0 = exact i k.0 (left i h) (right k.0 k.1) up back in
      subst (λ (x : Item). Contains too x) (sym one) k.1

pub two_tops : (all xs ys held too : List Item) → AreExact all → IsPartOf held all → IsPartOf too all → IsTop held xs → IsTop too ys →
    CoversAll ys xs → CoversAll xs ys → held ≡ too
two_tops all xs ys held too exact left right t u there here =
    same_members item_cmp items_total held too t.in_order u.in_order (in_second all xs ys held too exact left right t u there here)
    (in_second all ys xs too held exact right left u t here there)

-- ---- two holders

-- What is held under a query is the top of what was brought there.
abbrev top_there : (query : Key → Bool) (holder : HolderRecord) (known : List Item) → Knows holder known →
    IsTop (under query (all_held holder)) (under query known)
top_there query holder known k = top_under_query query known (all_held holder) (held_is_top_of_known holder known k)

pub two_agree_by_held : TwoAgreeByHeld
two_agree_by_held query one two known other k m exact cover =
    let xs : List Item = under query (all_held one) in
    let ys : List Item = under query (all_held two) in
    two_tops (xs ++ ys) (under query known) (under query other) xs ys exact (λ i h. Contains-append_left xs ys i h)
    (λ i h. Contains-append_right xs ys i h) (top_there query one known k) (top_there query two other m) cover.there cover.here

pub two_agree : TwoAgree
two_agree query one two known other k m exact cover =
    let xs : List Item = under query known in
    let ys : List Item = under query other in
    let t = top_there query one known k in
    let u = top_there query two other m in
    two_tops (xs ++ ys) xs ys (under query (all_held one)) (under query (all_held two)) exact
    (λ i h. Contains-append_left xs ys i (t.among i h)) (λ i h. Contains-append_right xs ys i (u.among i h)) t u cover.there cover.here

pub held_covers_known : HeldCoversKnown
held_covers_known query two known other k cover i h =
    let j = (top_under_query query other (all_held two) (held_is_top_of_known two other k)).greatest i h in
    let d = cover j.0 j.1 in
    (d.0, d.1, covers-trans d.0 j.0 i d.2 j.2)

-- ---- any number

module _ (query : Key → Bool) (holders : List Brought) where
  abbrev brought : List Item
  brought = under query (flat_map (λ (b : Brought). b.known) holders)

  among_all : (b : Brought) → Contains holders b → IsPartOf (under query b.known) brought
  among_all b h i k =
      let m = Contains-from_under query b.known i k in
      Contains-under query (flat_map (λ (c : Brought). c.known) holders) i (Contains-flat_map (λ (c : Brought). c.known) holders b i h m.0)
      m.1

pub all_agree : AllAgree
all_agree query holders exact cover b c h k =
    let t = top_there query b.holder b.known b.knows in
    let u = top_there query c.holder c.known c.knows in
    two_tops (brought query holders) (under query b.known) (under query c.known) (under query (all_held b.holder))
    (under query (all_held c.holder)) exact (λ i l. among_all query holders b h i (t.among i l))
    (λ i l. among_all query holders c k i (u.among i l)) t u (cover b c h k) (cover c b k h)
