-- Passes that have seen nothing yet.
use Rattle.std.specs.Prelude.{◌≡◌, [], Some}
use Rattle.desk_rule.specs.declared.view.View.{View}
use Rattle.desk_rule.specs.declared.table.Opening.{Opening}
use Rattle.desk.specs.declared.desk.DeskOf.{DeskOf}
use Rattle.desk.specs.declared.desk.Made as made
use Rattle.desk.specs.declared.pass.Sight as sight
use Rattle.desk.specs.Desk.{first_call, identity, opened_with}
use Rattle.desk.specs.Pass.{calls, desk_of, first_place, history, notices, opening, order, Pass}

module _ {S V M C R Q : Type 0} {D : made.Ghosts (Opening M)} {G : sight.Ghosts (View M C R)} where
  -- Whether the pass is one of this desk, and has seen, called, posted and taken nothing.
  abbrev pub IsFreshPass : DeskOf S V (Opening M) Q D → Pass M C R G → Type 0
  IsFreshPass desk p =
      (desk_of p ≡ identity desk) × (opening p ≡ Some (opened_with desk)) × (first_place p ≡ first_call desk) × (history p ≡ [])
      × (calls p ≡ []) × (notices p ≡ []) × (order p ≡ [])
