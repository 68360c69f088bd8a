-- A few items, and stores that accepted them.
use Rattle.std.proofs.Common.{◌≡◌, ℕ, Bool, true, false, List, [], ◌∷◌, sym, ap, ◌∙◌, subst, inl, inr}
use Rattle.std.specs.List.{Contains, AllByRecursion, list_any}
use Rattle.std.proofs.lemmas.List.Elements.{Contains-append_left, Contains-append_right}
use Rattle.ds_names.specs.declared.key.Key.{Key}
use Rattle.ds_names.specs.declared.kind.Kind.{Kind}
use Rattle.ds_names.specs.declared.kind.Kind.TheVariants.{Label, U32}
use Rattle.ds_entry.specs.Change.{ChangeRecord}
use Rattle.ds_entry.specs.declared.body.Value.TheVariants as values
use Rattle.ds_entry.specs.declared.body.Body.{Body}
use Rattle.ds_entry.specs.declared.body.Body.TheVariants.{Put, Gone}
use Rattle.ds_entry.specs.declared.item.Item.{Item}
use Rattle.ds_entry.specs.declared.item.Item.TheVariants.{Change as Changed, Floor as Floored}
use Rattle.ds_entry.proofs.Members.{In, In-from_Contains, Contains-single, Contains-head, none_pass}
use Rattle.ds_entry.specs.ItemCovers.{AreSingleNumbered}
use Rattle.ds_join.specs.ItemTop.{IsTop, tops, HasOneOwnerInTurn}
use Rattle.ds_join.proofs.ItemExistLemmas.{tops_is_top}
use Rattle.ds_feed.specs.Feed.{Feed}

-- a change of the owner `o` in epoch 1
abbrev pub record_of : Kind → ℕ → ℕ → Body → ChangeRecord
record_of kind name seq body =
    record { key = record { name = name ∷ []; kind = kind }; owner = 111 ∷ []; version = record { epoch = 1; seq = seq }; body = body }

abbrev pub change : Kind → ℕ → ℕ → Body → Item
change kind name seq body = Changed (record_of kind name seq body)

-- numbers under `a`, `b` and `c`
abbrev pub a1 : Item
a1 = change U32 97 1 Gone

abbrev pub a1' : Item
a1' = change U32 97 1 (Put (values.U32 0))

abbrev pub a2 : Item
a2 = change U32 97 2 Gone

abbrev pub b1 : Item
b1 = change U32 98 1 Gone

abbrev pub c1 : Item
c1 = change U32 99 1 Gone

-- A label, which no floor voids.
abbrev pub l1 : Item
l1 = change Label 97 1 Gone

-- The floor that voids numbers of `o` in epoch 1.
abbrev pub floor1 : Item
floor1 = Floored (record { owner = 111 ∷ []; generation = 1 })

-- A store that accepted exactly these, from position 0 on.
abbrev pub feed_of : List Item → Feed
feed_of accepted = record { accepted = accepted; first = 0; ring = 8; incarnation = 0 }

abbrev pub all : Key → Bool
all key = true

abbrev pub none : Key → Bool
none key = false

abbrev pub key_of : Kind → ℕ → Key
key_of kind name = record { name = name ∷ []; kind = kind }

-- An item isn't among those that a test distinguishes from it.
pub not_among : (test : Item → Bool) (items : List Item) (i : Item) → test i ≡ true → list_any test items ≡ false → Contains items i → ⊥
not_among test items i e n h = let differ : true ≡ false = sym e ∙ none_pass test items i n h in cc

-- ---- what is held of such items

-- the item is a floor, or of this owner
abbrev pub IsOf : List ℕ → Item → Type 0
IsOf owner (Changed c) = c.owner ≡ owner
IsOf owner (Floored f) = Unit {0}

of_one : (owner : List ℕ) (items : List Item) (i : Item) → AllByRecursion (IsOf owner) items → In i items → IsOf owner i
of_one owner [] i a h = absurd h
of_one owner (j ∷ js) i a (inl e) = subst (IsOf owner) (sym e) a.0
of_one owner (j ∷ js) i a (inr h) = of_one owner js i a.1 h

one_owner : (owner : List ℕ) (items : List Item) → AllByRecursion (IsOf owner) items → HasOneOwnerInTurn items
one_owner owner items a front back (Floored f) e = tt
one_owner owner items a front back (Changed c) e =
    λ d h v w q.
    let own : IsOf owner (Changed c) = of_one owner items (Changed c) a
    (In-from_Contains (Changed c) items (subst (λ (l : List Item). Contains l (Changed c)) (sym e)
    (Contains-append_right front (Changed c ∷ back) (Changed c) (Contains-head (Changed c) back)))) in
    let other : IsOf owner (Changed d) = of_one owner items (Changed d) a
    (In-from_Contains (Changed d) items (subst (λ (l : List Item). Contains l (Changed d)) (sym e)
    (Contains-append_left front (Changed c ∷ back) (Changed d) h))) in
    own ∙ sym other

-- what is held of items of one owner is their top
pub top_of_one : (owner : List ℕ) (items : List Item) → AllByRecursion (IsOf owner) items → IsTop (tops items) items
top_of_one owner items a = tops_is_top items (one_owner owner items a)

pub top_by : (items : List Item) → AllByRecursion (IsOf (111 ∷ [])) items → IsTop (tops items) items
top_by items a = top_of_one (111 ∷ []) items a

-- no item contradicts itself
pub one_single : (i : Item) → AreSingleNumbered (i ∷ [])
one_single i = record {
  one_change = λ c d h k e f. same c d (Contains-single i (Changed c) h) (Contains-single i (Changed d) k);
  one_owner = λ c d h k e. ap
      (λ (x : ChangeRecord). x.owner) (same c d (Contains-single i (Changed c) h) (Contains-single i (Changed d) k));
}
  where
    same : (c d : ChangeRecord) → Changed c ≡ i → Changed d ≡ i → c ≡ d
    same c d e f = let g : Changed c ≡ Changed d = e ∙ sym f in cc
