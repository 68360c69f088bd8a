-- The facts about `covers` on items, and about their order, from those on changes.
use Rattle.std.proofs.Common.{◌≡◌, ◌<◌, ◌≤◌, not, ℕ, Bool, true, false, ◌&&◌, List, refl, sym, ap, ◌∙◌, subst, arith}
use Rattle.std.specs.declared.cmp.Ordering.{Ordering}
use Rattle.std.specs.declared.cmp.Ordering.TheVariants.{Less, Equal, Greater}
use Rattle.std.specs.Prelude.{nat_le}
use Rattle.std.specs.Ordering.{nat_cmp, eq_by_cmp, ordering_then, ordering_reverse, is_le, MatchOrdering}
use Rattle.std.specs.List.{Contains}
use Rattle.std.specs.Cmp.{IsTotalOrder}
use Rattle.std.proofs.lemmas.Bool.{leb-true, le-leb, leb-false, and_parts, and_from}
use Rattle.std.proofs.lemmas.Cmp.{nat_list_cmp_total, tied_itself, ranked}
use Rattle.std.proofs.lemmas.Map.Lookups.{exact_bytes}
use Rattle.ds_names.specs.declared.key.Key.{Key}
use Rattle.ds_names.specs.declared.version.Version.{Version}
use Rattle.ds_names.specs.Key.{name_cmp}
use Rattle.ds_entry.specs.Change.{ChangeRecord}
use Rattle.ds_entry.specs.Covers.{is_at_most}
use Rattle.ds_entry.specs.Item.{item_cmp}
use Rattle.ds_entry.specs.Void.{voids}
use Rattle.ds_entry.specs.ItemCovers.{covers, AreSingleNumbered}
use Rattle.ds_entry.specs.CoverLaws.{CoversIsReflexive, CoversIsTransitive, CoversKeepsQueries, CoversIsExact, CoversNoneHeld}
use Rattle.ds_entry.specs.declared.floor.Floor.{Floor}
use Rattle.ds_entry.specs.declared.item.Item.{Item}
use Rattle.ds_entry.specs.declared.item.Item.TheVariants.{Change as Changed, Floor as Floored}
use Rattle.ds_entry.proofs.CoversLemmas as changes
use Rattle.ds_entry.proofs.CoversLemmas.{same_name, same_name-refl, covers-key, covers-owner, covers-version, is_at_most-antisym}
use Rattle.ds_entry.proofs.CoversLemmas.{changes_total}
use Rattle.ds_entry.proofs.OrderedLemmas.{tied_once}
use Rattle.ds_names.specs.Kind.{is_label}

-- ---- of one owner, and not above

pub below : (owner other : List ℕ) (n m : ℕ) → eq_by_cmp name_cmp owner other && nat_le n m ≡ true → (owner ≡ other) × (n ≤ m)
below owner other n m h =
    let b = and_parts (eq_by_cmp name_cmp owner other) (nat_le n m) h in
    (same_name owner other b.0, leb-true n m b.1)

pub below-make : (owner other : List ℕ) (n m : ℕ) → owner ≡ other → n ≤ m → eq_by_cmp name_cmp owner other && nat_le n m ≡ true
below-make owner other n m e l = and_from (eq_by_cmp name_cmp owner other) (nat_le n m) (same_name-refl owner other e) (le-leb n m l)

-- ---- a change that is void

pub record Voids (f : Floor) (c : ChangeRecord) : Type 0 where
  pub kind : not (is_label c.key.kind) ≡ true
  pub owner : c.owner ≡ f.owner
  pub epoch : c.version.epoch ≤ f.generation

pub voids-is : (f : Floor) (c : ChangeRecord) → voids f c ≡ true → Voids f c
voids-is f c h =
    let b = and_parts (not (is_label c.key.kind)) (eq_by_cmp name_cmp c.owner f.owner && nat_le c.version.epoch f.generation) h in
    let o = below c.owner f.owner c.version.epoch f.generation b.1 in
    record { kind = b.0; owner = o.0; epoch = o.1 }

pub voids-make : (f : Floor) (c : ChangeRecord) → Voids f c → voids f c ≡ true
voids-make f c v =
    and_from (not (is_label c.key.kind)) (eq_by_cmp name_cmp c.owner f.owner && nat_le c.version.epoch f.generation) v.kind
    (below-make c.owner f.owner c.version.epoch f.generation v.owner v.epoch)

epoch_at_most : (v w : Version) → is_at_most v w ≡ true → v.epoch ≤ w.epoch
epoch_at_most v w h = by_order (nat_cmp v.epoch w.epoch) (nat_cmp v.seq w.seq) (ranked v.epoch w.epoch (nat_cmp v.epoch w.epoch) refl) h
  where
    by_order : (o p : Ordering) → MatchOrdering o (v.epoch < w.epoch) (v.epoch ≡ w.epoch) (w.epoch < v.epoch) →
        is_le (ordering_then o p) ≡ true → v.epoch ≤ w.epoch
    by_order Less p a h = omega arith
    by_order Equal p a h = omega arith
    by_order Greater p a h = cc

-- ---- the facts

pub covers-refl : CoversIsReflexive
covers-refl (Changed c) = changes.covers-refl c
covers-refl (Floored f) = below-make f.owner f.owner f.generation f.generation refl (omega arith)

pub covers-trans : CoversIsTransitive
covers-trans (Changed e) (Changed d) (Changed c) h k = changes.covers-trans e d c h k
covers-trans (Changed e) (Floored d) i h k = cc
covers-trans (Changed e) (Changed d) (Floored c) h k = cc
covers-trans (Floored e) (Changed d) (Floored c) h k = cc
covers-trans (Floored e) (Changed d) (Changed c) h k =
    let v = voids-is e d h in
    let low : c.version.epoch ≤ d.version.epoch = epoch_at_most c.version d.version (covers-version d c k) in
    let high : d.version.epoch ≤ e.generation = v.epoch in
    voids-make e c
    (record {
      kind = subst (λ (l : Key). not (is_label l.kind) ≡ true) (sym (covers-key d c k)) v.kind;
      owner =
          covers-owner d c k ∙ v.owner;
      epoch = omega arith;
    })
covers-trans (Floored e) (Floored d) (Changed c) h k =
    let v = voids-is d c k in
    let p = below d.owner e.owner d.generation e.generation h in
    let low : c.version.epoch ≤ d.generation = v.epoch in
    let high : d.generation ≤ e.generation = p.1 in
    voids-make e c (record { kind = v.kind; owner = v.owner ∙ p.0; epoch = omega arith })
covers-trans (Floored e) (Floored d) (Floored c) h k =
    let o = below c.owner d.owner c.generation d.generation k in
    let p = below d.owner e.owner d.generation e.generation h in
    let low : c.generation ≤ d.generation = o.1 in
    let high : d.generation ≤ e.generation = p.1 in
    below-make c.owner e.owner c.generation e.generation (o.0 ∙ p.0) (omega arith)

pub covers-query : CoversKeepsQueries
covers-query query (Changed d) (Changed c) h p = changes.covers-query query d c h p
covers-query query (Changed d) (Floored c) h p = cc
covers-query query (Floored d) i h p = refl

pub covers-same : CoversIsExact
covers-same items n (Changed c) (Changed d) h k e f =
    ap Changed (n.one_change c d h k (covers-key d c e)
    (is_at_most-antisym c.version d.version (covers-version d c e) (covers-version c d f)))
covers-same items n (Changed c) (Floored d) h k e f = cc
covers-same items n (Floored c) (Changed d) h k e f = cc
covers-same items n (Floored c) (Floored d) h k e f =
    let o = below c.owner d.owner c.generation d.generation e in
    let p = below d.owner c.owner d.generation c.generation f in
    let low : c.generation ≤ d.generation = o.1 in
    let high : d.generation ≤ c.generation = p.1 in
    let same : c.generation ≡ d.generation = omega arith in
    ap Floored (λ i. record { owner = o.0 i; generation = same i })

pub single_part : (part whole : List Item) → ((i : Item) → Contains part i → Contains whole i) → AreSingleNumbered whole →
    AreSingleNumbered part
single_part part whole sub n =
    record {
      one_change = λ c d h k e v. n.one_change c d (sub (Changed c) h) (sub (Changed d) k) e v;
      one_owner = λ c d h k e. n.one_owner c d (sub (Changed c) h) (sub (Changed d) k) e;
    }

-- ---- the order

item-antisymm : (x y : Item) → item_cmp x y ≡ ordering_reverse (item_cmp y x)
item-antisymm (Changed c) (Changed d) = changes_total.antisymm c d
item-antisymm (Changed c) (Floored g) = refl
item-antisymm (Floored f) (Changed d) = refl
item-antisymm (Floored f) (Floored g) = nat_list_cmp_total.antisymm f.owner g.owner

item-trans : (x y z : Item) → item_cmp x y ≡ Less → item_cmp y z ≡ Less → item_cmp x z ≡ Less
item-trans (Changed c) (Changed d) (Changed e) h k = changes_total.trans c d e h k
item-trans (Changed c) (Changed d) (Floored g) h k = cc
item-trans (Changed c) (Floored g) z h k = cc
item-trans (Floored f) (Changed d) (Changed e) h k = refl
item-trans (Floored f) (Changed d) (Floored g) h k = cc
item-trans (Floored f) (Floored g) (Changed e) h k = refl
item-trans (Floored f) (Floored g) (Floored e) h k = nat_list_cmp_total.trans f.owner g.owner e.owner h k

item-congr : (x y z : Item) → item_cmp x y ≡ Equal → item_cmp x z ≡ item_cmp y z
item-congr (Changed c) (Changed d) (Changed e) h = changes_total.congr c d e h
item-congr (Changed c) (Changed d) (Floored g) h = refl
item-congr (Changed c) (Floored g) z h = cc
item-congr (Floored f) (Changed d) z h = cc
item-congr (Floored f) (Floored g) (Changed e) h = refl
item-congr (Floored f) (Floored g) (Floored e) h = nat_list_cmp_total.congr f.owner g.owner e.owner h

pub items_total : IsTotalOrder item_cmp
items_total = record { antisymm = item-antisymm; trans = item-trans; congr = item-congr }

name_tied : (m n : List ℕ) → m ≡ n → name_cmp m n ≡ Equal
name_tied m n e = subst (λ (k : List ℕ). name_cmp m k ≡ Equal) e (tied_itself nat_list_cmp_total m)

-- What covers an item compares equal to it, or is a floor over a change.
pub covers-tied : (j i : Item) → ((f : Floor) (c : ChangeRecord) → j ≡ Floored f → i ≡ Changed c → voids f c ≡ false) → covers j i ≡ true →
    item_cmp i j ≡ Equal
covers-tied (Changed d) (Changed c) n h = changes.covers-tied d c h
covers-tied (Changed d) (Floored c) n h = cc
covers-tied (Floored d) (Changed c) n h = let t : true ≡ false = sym h ∙ n d c refl refl in absurd (cc)
covers-tied (Floored d) (Floored c) n h = name_tied c.owner d.owner (below c.owner d.owner c.generation d.generation h).0

-- of two floors of one owner, one covers the other
pub floors-total : (f g : Floor) → name_cmp f.owner g.owner ≡ Equal → covers (Floored g) (Floored f) ≡ false →
    covers (Floored f) (Floored g) ≡ true
floors-total f g q e = by_test (nat_le f.generation g.generation) refl
  where
    owner : f.owner ≡ g.owner
    owner = exact_bytes f.owner g.owner q

    by_test : (b : Bool) → nat_le f.generation g.generation ≡ b → covers (Floored f) (Floored g) ≡ true
    by_test true v = absurd (let t : covers (Floored g) (Floored f) ≡ true =
        below-make f.owner g.owner f.generation g.generation owner (leb-true f.generation g.generation v) in let x : true ≡ false =
        sym t ∙ e in cc)
    by_test false v = below-make g.owner f.owner g.generation f.generation (sym owner)
        (let l : g.generation < f.generation = leb-false f.generation g.generation v in omega arith)

-- no held item covers another
pub covers-apart : CoversNoneHeld
covers-apart held sorted none i j h k e =
    tied_once item_cmp items_total held i j sorted h k
    (covers-tied j i (λ f c is_floor is_change. none f c (subst (Contains held) is_floor k) (subst (Contains held) is_change h)) e)
