-- How many changes and floors are among items, before and after one more is held.
use Rattle.std.proofs.Common.{◌≡◌, ℕ, ◌+◌, ◌≤◌, Bool, true, false, cond, not, List, [], ◌∷◌, ◌++◌, length, fold, filter, refl, ap, sym, ◌∙◌}
use Rattle.std.proofs.Common.{inl, inr, arith, Contains}
use Rattle.std.specs.List.{list_any}
use Rattle.std.specs.Ordering.{is_lt}
use Rattle.ds_entry.specs.declared.item.Item.{Item}
use Rattle.ds_entry.specs.declared.item.Item.TheVariants.{Change as Changed, Floor as Floored}
use Rattle.ds_entry.specs.Item.{item_cmp}
use Rattle.ds_entry.specs.ItemCovers.{covers}
use Rattle.ds_entry.proofs.Members.{Contains-nil, Contains-cons}
use Rattle.ds_join.specs.ItemTop.{inserted, held_after}
use Rattle.ds_machine.specs.Parts.{changes_in, floors_in}

-- ---- how much of a kind is among items
unfoldable pub total : (Item → ℕ) → List Item → ℕ
total w [] = 0
total w (i ∷ items) = w i + total w items

unfoldable pub change_weight : Item → ℕ
change_weight (Changed c) = 1
change_weight (Floored f) = 0

unfoldable pub floor_weight : Item → ℕ
floor_weight (Changed c) = 0
floor_weight (Floored f) = 1

pub changes_total : (items : List Item) → length (changes_in items) ≡ total change_weight items
unfolding total change_weight
changes_total [] = refl
changes_total (Changed c ∷ items) = let rest = changes_total items in omega (arith, rest)
changes_total (Floored f ∷ items) = let rest = changes_total items in omega (arith, rest)

pub floors_total : (items : List Item) → length (floors_in items) ≡ total floor_weight items
unfolding total floor_weight
floors_total [] = refl
floors_total (Changed c ∷ items) = let rest = floors_total items in omega (arith, rest)
floors_total (Floored f ∷ items) = let rest = floors_total items in omega (arith, rest)

module _ (w : Item → ℕ) where
  total_inserted : (i : Item) (items : List Item) → total w (inserted i items) ≡ w i + total w items
  unfolding total
  total_inserted i [] = refl
  total_inserted i (j ∷ js) = by_test (is_lt (item_cmp i j)) (total_inserted i js)
    where
      by_test : (b : Bool) → total w (inserted i js) ≡ w i + total w js →
          total w (cond b (i ∷ j ∷ js) (j ∷ inserted i js)) ≡ w i + total w (j ∷ js)
      by_test true e = refl
      by_test false e = omega (arith, e)

  pub total_filter : (p : Item → Bool) (items : List Item) → total w (filter p items) ≤ total w items
  unfolding total
  total_filter p [] = omega arith
  total_filter p (i ∷ items) = by_test (p i) (total_filter p items)
    where
      by_test : (b : Bool) → total w (filter p items) ≤ total w items →
          total w (cond b (i ∷ filter p items) (filter p items)) ≤ total w (i ∷ items)
      by_test true e = omega (arith, e)
      by_test false e = omega (arith, e)

  -- what isn't kept is missing
  pub total_dropped : (p : Item → Bool) (items : List Item) (x : Item) → Contains items x → p x ≡ false →
      total w (filter p items) + w x ≤ total w items
  unfolding total
  total_dropped p [] x h e = absurd (Contains-nil x h)
  total_dropped p (i ∷ items) x h e = elim (Contains-cons i items x h) [
    | inl q ↦ here (p i) (sym (ap p q) ∙ e) (ap w q) (total_filter p items)
    | inr t ↦ there (p i) (total_dropped p items x t e)
  ]
    where
      here : (b : Bool) → b ≡ false → w x ≡ w i → total w (filter p items) ≤ total w items →
          total w (cond b (i ∷ filter p items) (filter p items)) + w x ≤ total w (i ∷ items)
      here true f g l = absurd (cc)
      here false f g l = omega (arith, g, l)

      there : (b : Bool) → total w (filter p items) + w x ≤ total w items →
          total w (cond b (i ∷ filter p items) (filter p items)) + w x ≤ total w (i ∷ items)
      there true l = omega (arith, l)
      there false l = omega (arith, l)

  pub most_after : (now : List Item) (i : Item) (most : ℕ) → total w now ≤ most →
      w i + total w (filter (λ j. not (covers i j)) now) ≤ most → total w (held_after now i) ≤ most
  most_after now i most l m = by_test (list_any (λ j. covers j i) now)
    where
      by_test : (b : Bool) → total w (cond b now (inserted i (filter (λ j. not (covers i j)) now))) ≤ most
      by_test true = l
      by_test false = let n = total_inserted i (filter (λ j. not (covers i j)) now) in omega (arith, n, m)

-- what is held after one more is what was held, with it
pub fold_push : {A B : Type 0} (f : A → B → A) (z : A) (xs : List B) (x : B) → fold f z (xs ++ x ∷ []) ≡ f (fold f z xs) x
fold_push f z [] x = refl
fold_push f z (y ∷ ys) x = fold_push f (f z y) ys x
