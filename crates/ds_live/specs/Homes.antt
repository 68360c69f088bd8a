-- The desks of a run at their opening.
use Rattle.std.specs.Prelude.{◌≡◌, ℕ, Some}
use Rattle.atomic_table.specs.Seated.{TableId}
use Rattle.desk.specs.Desk.{identity, opened_with}
use Rattle.desk.specs.declared.desk.DeskOf.{DeskOf}
use Rattle.desk.specs.declared.desk.Made.{Ghosts}
use Rattle.desk_rule.specs.declared.table.Opening.{Opening}
use Rattle.desk_store.specs.Record.{Boxed, PassRecord}
use Rattle.ds_content.specs.Content.{ContentRecord}
use Rattle.ds_content.specs.Stands.{ContentStands}
use Rattle.ds_held.specs.Limits.{larger}
use Rattle.ds_machine.specs.State.{opening}

-- A desk's identity, and the content of its store when it was opened.
pub record Home : Type 0 where
  pub desk : TableId
  pub content : ContentRecord

abbrev pub home_of : {S V Q Z : Type 0} {G : Ghosts (Opening (Boxed Z))} → DeskOf S V (Opening (Boxed Z)) Q G → Home
home_of d = record { desk = identity d; content = (opened_with d).value }

-- Whether the pass is one of the desk's, whose first call has place 0, and made and learnt no note.
pub record IsOfHome (home : Home) (p : PassRecord) : Type 0 where
  pub desk_is : p.origin.desk ≡ home.desk
  pub content_is : p.opened ≡ Some home.content
  pub first_is : p.origin.first ≡ 0
  pub none_made : p.origin.made ≡ 0
  pub none_learnt : p.origin.learnt ≡ 0

-- Whether a desk was opened with a new store of this incarnation, whose journal keeps 256 items.
abbrev pub IsNewHome : ℕ → Home → Type 0
IsNewHome incarnation home = ContentStands home.content (opening incarnation 0 256 larger)
