-- The passes of a new desk have seen nothing.
use Rattle.std.proofs.Common.{◌≡◌, ℕ, zero, suc, List, [], ◌∷◌, Some, ap, sym, ◌∙◌, subst}
use Rattle.std.specs.List.{AllByRecursion}
use Rattle.desk_rule.specs.declared.view.View.{View}
use Rattle.desk_rule.specs.declared.table.Opening.{Opening}
use Rattle.desk.specs.declared.desk.DeskOf.{DeskOf}
use Rattle.desk.specs.declared.desk.Made as made
use Rattle.desk.specs.declared.pass.Sight as sight
use Rattle.desk.specs.Desk.{first_call, identity, opened_with}
use Rattle.desk.specs.Opening.{AreNewPasses, IsNewPass}
use Rattle.desk.specs.Pass.{Pass}
use Rattle.c_desk.specs.Fresh.{IsFreshPass}

module _ {S V M C R Q : Type 0} {D : made.Ghosts (Opening M)} {G : sight.Ghosts (View M C R)} (desk : DeskOf S V (Opening M) Q D) (m : M)
    (first : ℕ) (o : opened_with desk ≡ m) (f : first_call desk ≡ first) where
  fresh : (n : ℕ) (p : Pass M C R G) → IsNewPass (identity desk) (Some m) first n p → IsFreshPass desk p
  fresh n p new = (
    new.desk,
    new.opened_with ∙ ap (λ (x : M). Some x) (sym o),
    new.first_is ∙
        sym f,
    new.no_history,
    new.no_calls,
    new.no_notices,
    new.no_order,
  )

  pub all_fresh : (n : ℕ) (ps : List (Pass M C R G)) → AreNewPasses (identity desk) (Some m) first n ps →
      AllByRecursion (IsFreshPass desk) ps
  all_fresh zero ps none = subst (λ (l : List (Pass M C R G)). AllByRecursion (IsFreshPass desk) l) (sym none) tt
  all_fresh (suc n) [] new = absurd new
  all_fresh (suc n) (p ∷ ps) new = (fresh n p new.0, all_fresh n ps new.1)
