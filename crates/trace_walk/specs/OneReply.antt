-- The first line of a reply determines its text.
use Rattle.std.specs.Prelude.{◌≡◌, ℕ, ◌<◌, ◌^◌, List, ◌++◌, Some, is_some}
use Rattle.ds_held.specs.Limits.{LimitsRecord}
use Rattle.line_io.specs.Lines.{EndsLine}
use Rattle.ds_machine.specs.Reached.{IsReached}
use Rattle.ds_machine.specs.State.{State}
use Rattle.ds_machine.specs.Within.{IsWithin}
use Rattle.ds_machine.specs.declared.command.Command.{Command}
use Rattle.ds_machine.specs.declared.reply.Reply.{Reply}
use Rattle.ds_replica.specs.CaughtUp.{AreItems}
use Rattle.script_answers.specs.Reply.{reply_lines}
use Rattle.ds_machine.specs.Given.{shown_by, done_by}
use Rattle.script_answers.specs.declared.wording.Wording.TheVariants.{AsOffer, AsMerge}
use Rattle.ds_machine.specs.OneStep.{room_wanted}
use Rattle.ds_machine.specs.Taken.{HasNoFloor}
use Rattle.trace_walk.specs.declared.asked.Asked.{Asked}
use Rattle.trace_walk.specs.declared.header.Format.{Format}
use Rattle.trace_walk.specs.declared.header.Format.TheVariants.{One, Two}
use Rattle.trace_walk.specs.Legal.{StepOf}
use Rattle.trace_walk.specs.Text.{MayAsk, command_asked, worded_as}

-- Whether two texts begin with the same line.
pub record HaveOneFirst (a b : List ℕ) : Type 0 where
  pub line : List ℕ
  pub ends : EndsLine line
  pub left : List ℕ
  pub right : List ℕ
  pub a_is : a ≡ line ++ left
  pub b_is : b ≡ line ++ right

-- Whether a reply's items are items and its count is below 2^64.
pub record IsSpelt (reply : Reply) : Type 0 where
  pub items : AreItems (shown_by reply)
  pub few : done_by reply < 2 ^ 64

-- The first line of a reply determines whether memory ran out, and after how many items; an offer's, only whether it
-- did.
abbrev pub FirstLinesTell : Type 0
FirstLinesTell =
    (limits : LimitsRecord) (reply other : Reply) →
    IsSpelt reply → IsSpelt other → HaveOneFirst (reply_lines AsMerge reply limits) (reply_lines AsMerge other limits) →
    room_wanted reply ≡ room_wanted other

abbrev pub OfferLinesTell : Type 0
OfferLinesTell =
    (limits : LimitsRecord) (reply other : Reply) →
    IsSpelt reply → IsSpelt other → HaveOneFirst (reply_lines AsOffer reply limits) (reply_lines AsOffer other limits) →
    is_some (room_wanted reply) ≡ is_some (room_wanted other)

-- ---- steps of a trace

-- Whether no floor was ever accepted, in format 1.
abbrev pub KeepsFloors : Format → State → Type 0
KeepsFloors One s = HasNoFloor s
KeepsFloors Two s = Unit {0}

-- Whether a trace may lead to the state: the machine reaches it, within its limits, and everything accepted is an item
-- of the format.
pub record IsTraced (format : Format) (s : State) : Type 0 where
  pub reached : IsReached s
  pub items : AreItems s.feed.accepted
  pub floors : KeepsFloors format s
  pub within : IsWithin s
  pub incarnation : s.feed.incarnation < 2 ^ 64

-- Two steps from one such state by one entry's command, with replies that begin with the same line, have replies of the
-- same text and lead to the same state.
abbrev pub ReplyIsOne : Type 0
ReplyIsOne =
    (format : Format) (limits : LimitsRecord) (pass : ℕ) (asked : Asked) (command : Command) (s t u : State) (reply other : Reply) →
    IsTraced format s → MayAsk format pass asked → command_asked asked ≡ Some command → StepOf format s command reply t →
    StepOf format s command other u →
    HaveOneFirst (reply_lines (worded_as asked) reply limits) (reply_lines (worded_as asked) other limits) →
    (reply_lines (worded_as asked) reply limits ≡ reply_lines (worded_as asked) other limits) × (t ≡ u)

-- A step from such a state, by an entry's command, leads to such a state.
abbrev pub TracedStays : Type 0
TracedStays =
    (format : Format) (pass : ℕ) (asked : Asked) (command : Command) (s t : State) (reply : Reply) →
    IsTraced format s → MayAsk format pass asked → command_asked asked ≡ Some command → StepOf format s command reply t → IsTraced format t
