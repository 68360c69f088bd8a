-- Accounts whose rows are exact.
use Rattle.std.proofs.Common.{◌≡◌, ℕ, suc, ◌+◌, ◌*◌, ◌/◌, ◌%◌, ◌<◌, ◌==◌, ◌&&◌, Bool, true, false, Some, List, [], ◌∷◌, length, take, refl}
use Rattle.std.proofs.Common.{ap, subst, ◌∙◌, arith}
use Rattle.std.specs.List.{slice_get}
use Rattle.std.proofs.Math.ListN.{get_or}
use Rattle.std.proofs.lemmas.List.Folds.{list_all_at, list_all_more}
use Rattle.std.proofs.lemmas.Option.{get_or_from_slice_get, slice_get_within}
use Rattle.std.proofs.lemmas.Bool.Decides.{nat_tests}
use mathlib.Core.Option.{some, some-injective}
use lib.ListN.{get_elem?}
use Rattle.desk_rule.specs.declared.view.View.{View}
use Rattle.desk.specs.declared.account.Row.{Row}
use Rattle.desk.specs.declared.pass.Sight.{Ghosts}
use Rattle.desk.specs.Closing.{IsAccount}
use Rattle.desk.specs.Pass.{Pass}
use Rattle.ds_live.specs.Report.{are_exact, is_exact}

-- what each index tells of an element holds of all
all_by_index : (rows : List Row) → ((k : ℕ) → k < length rows → (r : Row) × (get_elem? rows k ≡ some r) × (is_exact r ≡ true)) →
    are_exact rows ≡ true
all_by_index [] each = refl
all_by_index (x ∷ rows) each =
    let first = each 0 (omega arith) in
    let here : is_exact x ≡ true = ap is_exact (some-injective x first.0 first.1) ∙ first.2 in
    let rest = all_by_index rows (λ k below. each (suc k) (omega (arith, below))) in
    cc

equal_numbers : (m n : ℕ) → m ≡ n → m == n ≡ true
equal_numbers m n e = grind (arith, nat_tests)

module _ {M C R : Type 0} {G : Ghosts (View M C R)} where
  pub account_exact : (passes : List (Pass M C R G)) (rows : List Row) → IsAccount passes rows → are_exact rows ≡ true
  account_exact passes rows is = all_by_index rows (λ k below.
      (let row = is.each (k / 8) (k % 8) (omega (arith, is.long, below)) (omega arith) in
      let at : 8 * (k / 8) + k % 8 ≡ k = omega arith in
      (row.0, subst (λ (j : ℕ). get_elem? rows j ≡ some row.0) at row.1, equal_numbers row.0.raises _ row.4)))

-- a row that isn't exact settles it
pub not_exact : (rows : List Row) (i : ℕ) (row : Row) → slice_get rows i ≡ Some row → is_exact row ≡ false → are_exact rows ≡ false
not_exact rows i row at wrong = list_all_at is_exact rows i row (slice_get_within rows i row at)
    (ap is_exact (get_or_from_slice_get rows i row row at) ∙ wrong)

-- one more that is
pub exact_more : (rows : List Row) (i : ℕ) (row : Row) → slice_get rows i ≡ Some row → is_exact row ≡ true →
    are_exact (take i rows) ≡ true → are_exact (take (i + 1) rows) ≡ true
exact_more rows i row at right before =
    let more = list_all_more is_exact rows i row (slice_get_within rows i row at) in
    let here : is_exact (get_or rows i row) ≡ true = ap is_exact (get_or_from_slice_get rows i row row at) ∙ right in
    more ∙ ap (λ (b : Bool). b && is_exact (get_or rows i row)) before ∙ here
