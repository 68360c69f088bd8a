-- The properties of passes and notes.
use Rattle.std.specs.Prelude.{ℕ, List, Option}
use Rattle.atomic_table.specs.Seated.{TableId}
use Rattle.history.specs.declared.entry.Entry.{Entry}
use Rattle.desk_rule.specs.declared.notice.Notice.{Notice}
use Rattle.desk_rule.specs.declared.view.View.{View}
use Rattle.desk_rule.specs.declared.table.Home.{Home}
use Rattle.desk_rule.specs.Passes.{calls_of, notices_of, number_of}
use Rattle.desk.specs.declared.pass.Sight.{Ghosts}
use Rattle.desk.specs.declared.pass.PassOf.{PassOf}
use Rattle.desk.specs.declared.pass.NoteOf.{NoteOf}

abbrev pub Pass : (M C R : Type 0) → Ghosts (View M C R) → Type 0
Pass M C R G = PassOf (Option (Home M C R)) (View M C R) G

abbrev pub Note : (M C R : Type 0) → Ghosts (View M C R) → Type 0
Note M C R G = NoteOf (Option (Home M C R)) (View M C R) G

module _ {M C R : Type 0} {G : Ghosts (View M C R)} where
  -- The identity of a pass's desk.
  abbrev pub desk_of : Pass M C R G → TableId
  desk_of p = p.seat.table_id

  abbrev pub desk_of_note : Note M C R G → TableId
  desk_of_note n = n.seat.table_id

  abbrev pub number : Pass M C R G → ℕ
  number p = number_of p.seat.me.0.passes

  -- The pass's calls, in order.
  abbrev pub calls : Pass M C R G → List (Entry C R)
  calls p = calls_of p.seat.me.0.passes

  abbrev pub history : Pass M C R G → List (Entry C R)
  history p = p.seat.me.0.seen

  -- The pass's posts and takes, in order.
  abbrev pub notices : Pass M C R G → List Notice
  notices p = notices_of p.seat.me.0.passes

  -- The notices that the pass has seen, in their order.
  abbrev pub order : Pass M C R G → List Notice
  order p = p.seat.me.0.notices

  -- The history that the pass had seen when it made the note.
  abbrev pub told_by : Note M C R G → List (Entry C R)
  told_by n = n.seat.me.0.seen

  abbrev pub order_told_by : Note M C R G → List Notice
  order_told_by n = n.seat.me.0.notices

  -- The machine with which the pass's desk was opened.
  abbrev pub opening : Pass M C R G → Option M
  opening p = p.seat.me.0.opening

  abbrev pub first_place : Pass M C R G → ℕ
  first_place p = p.seat.me.0.first

  -- The number of notes that the pass made.
  abbrev pub notes_made : Pass M C R G → ℕ
  notes_made p = p.made

  abbrev pub notes_learnt : Pass M C R G → ℕ
  notes_learnt p = p.learnt
