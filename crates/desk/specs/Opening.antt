-- The passes of a new desk.
use Rattle.std.specs.Prelude.{◌≡◌, ◌⊎◌, ℕ, ◌<◌, ◌≤◌, ◌^◌, zero, suc, List, [], ◌∷◌, Option}
use Rattle.atomic_table.specs.Seated.{TableId}
use Rattle.desk_rule.specs.declared.view.View.{View}
use Rattle.desk.specs.declared.fault.DeskFault.{DeskFault}
use Rattle.desk.specs.declared.fault.DeskFault.TheVariants.{BadCount, BadFirst, NoRoom}
use Rattle.desk.specs.declared.pass.Sight.{Ghosts}
use Rattle.desk.specs.Pass.{calls, desk_of, first_place, history, notes_learnt, notes_made, notices, number, opening, order, Pass}

module _ {M C R : Type 0} {G : Ghosts (View M C R)} where
  -- Whether p is a pass of this number that has seen, called, posted, taken and noted nothing.
  pub record IsNewPass (id : TableId) (opened : Option M) (first n : ℕ) (p : Pass M C R G) : Type 0 where
    pub desk : desk_of p ≡ id
    pub opened_with : opening p ≡ opened
    pub first_is : first_place p ≡ first
    pub number_is : number p ≡ n
    pub no_history : history p ≡ []
    pub no_calls : calls p ≡ []
    pub no_notices : notices p ≡ []
    pub no_order : order p ≡ []
    pub no_notes : (notes_made p ≡ 0) × (notes_learnt p ≡ 0)

  -- Whether these are n new passes, numbered from n - 1 down to 0. So no two have the same number.
  abbrev pub AreNewPasses : TableId → Option M → ℕ → ℕ → List (Pass M C R G) → Type 0
  AreNewPasses id opened first zero passes = passes ≡ []
  AreNewPasses id opened first (suc n) [] = ⊥
  AreNewPasses id opened first (suc n) (p ∷ others) = IsNewPass id opened first n p × AreNewPasses id opened first n others

-- Whether the fault is the first that applies to a desk of `passes` passes and this first place.
abbrev pub IsDeskFault : DeskFault → ℕ → ℕ → Type 0
IsDeskFault BadCount passes first = (passes ≡ 0) ⊎ (64 < passes)
IsDeskFault BadFirst passes first = (0 < passes) × (passes ≤ 64) × (2 ^ 62 < first)
IsDeskFault NoRoom passes first = (0 < passes) × (passes ≤ 64) × (first ≤ 2 ^ 62)
IsDeskFault _ passes first = ⊥
