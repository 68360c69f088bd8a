-- What is held after one more item took effect.
use Rattle.std.proofs.Common.{◌≡◌, Bool, true, false, List, [], ◌∷◌, ◌++◌, refl, sym, ◌∙◌, subst, inl, inr, Contains}
use Rattle.std.specs.List.{list_any}
use Rattle.std.proofs.lemmas.List.Elements.{Contains-push, Contains-push_cases}
use Rattle.ds_entry.specs.Item.{item_cmp}
use Rattle.ds_entry.specs.ItemCovers.{covers}
use Rattle.ds_entry.specs.declared.item.Item.{Item}
use Rattle.ds_entry.proofs.Members.{Contains-from_list_any}
use Rattle.ds_entry.proofs.OrderedLemmas.{same_members}
use Rattle.ds_entry.proofs.ItemLemmas.{covers-refl, covers-trans, items_total}
use Rattle.ds_join.specs.ItemTop.{IsTop, IsPartOf, tops}
use Rattle.ds_join.proofs.ItemTopLemmas.{held_apart, top_of_top}
use Rattle.ds_machine.specs.State.{State, held, takes_effect}
use Rattle.ds_machine.specs.Reached.{IsReached, AreExact}
use Rattle.ds_machine.specs.Effect.{IsNews}
use Rattle.ds_machine.proofs.ReachedLemmas.{held_is_top, reached_more}

-- ---- a set in which no two items cover each other has one top
in_both : (set top other : List Item) → AreExact set → IsTop top set → IsTop other set → (i : Item) → Contains top i → Contains other i
in_both set top other exact t u i h =
    let j = u.greatest i (t.among i h) in
    let k = t.greatest j.0 (u.among j.0 j.1) in
    let same : k.0 ≡ i = held_apart top set t i k.0 h k.1 (covers-trans k.0 j.0 i k.2 j.2) in
    let back : covers i j.0 ≡ true = subst (λ (x : Item). covers x j.0 ≡ true) same k.2 in
    subst (λ (x : Item). Contains other x) (exact j.0 i (u.among j.0 j.1) (t.among i h) back j.2) j.1

pub top_is_one : (set top other : List Item) → AreExact set → IsTop top set → IsTop other set → top ≡ other
top_is_one set top other exact t u = same_members item_cmp items_total top other t.in_order u.in_order (in_both set top other exact t u)
    (in_both set other top exact u t)

-- ---- one more item
-- what a merge or a raise leaves is what the state holds then
pub held_more : (s : State) (i : Item) (new : List Item) → IsReached s → IsNews s.feed.accepted i → IsTop new (held s ++ i ∷ []) →
    new ≡ held (takes_effect s (i ∷ []))
held_more s i new r news t =
    let after = reached_more s i r news in
    top_is_one (s.feed.accepted ++ i ∷ []) new (tops (s.feed.accepted ++ i ∷ [])) after.exact
    (top_of_top s.feed.accepted (i ∷ []) (held s) new (held_is_top s r) t)
    (held_is_top (takes_effect s (i ∷ [])) after)

-- an item that is news isn't held
pub not_held : (s : State) (i : Item) → IsReached s → IsNews s.feed.accepted i → Contains (held s) i → ⊥
not_held s i r news h = let no : true ≡ false = sym (covers-refl i) ∙ news.newer i ((held_is_top s r).among i h) in absurd (cc)

-- it is held then
pub is_held_now : (s : State) (i : Item) (new : List Item) → IsReached s → IsNews s.feed.accepted i → IsTop new (held s ++ i ∷ []) →
    Contains new i
is_held_now s i new r news t =
    let over = t.greatest i (Contains-push (held s) i) in
    elim (Contains-push_cases (held s) i over.0 (t.among over.0 over.1)) [
      | inl k ↦ absurd (let no : true ≡ false = sym over.2 ∙ news.newer over.0 ((held_is_top s r).among over.0 k) in cc)
      | inr q ↦ subst (λ (x : Item). Contains new x) (sym q) over.1
    ]

-- nothing that was shown covers it
pub unshown : (accepted shown : List Item) (i : Item) → IsNews accepted i → IsPartOf shown accepted →
    list_any (λ j. covers j i) shown ≡ false
unshown accepted shown i news part = by_test (list_any (λ j. covers j i) shown) refl
  where
    by_test : (b : Bool) → list_any (λ j. covers j i) shown ≡ b → b ≡ false
    by_test true q =
        let at = Contains-from_list_any (λ (j : Item). covers j i) shown q in
        absurd (let no : true ≡ false = sym at.2 ∙ news.newer at.0 (part at.0 at.1) in cc)
    by_test false q = refl
