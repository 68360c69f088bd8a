-- The parts of a walk, for all inputs and places. `from` and `to` are what the reader has before and after each.
use Rattle.std.specs.Prelude.{◌≡◌, ◌≢◌, ℕ, ◌<◌, ◌≤◌, true, List, [], ◌∷◌, ◌++◌, length, Option, IfSome}
use Rattle.ds_content.specs.Content.{ContentRecord}
use Rattle.ds_content.specs.Stands.{ContentStands}
use Rattle.ds_entry.specs.declared.item.Item.{Item}
use Rattle.line_io.specs.Lines.{HasLines, joined, with_newline}
use Rattle.line_io.specs.Reading.{LinesContent}
use Rattle.ds_machine.specs.Machine.{StopsForRoom}
use Rattle.ds_machine.specs.State.{State}
use Rattle.ds_machine.specs.declared.command.Command.{Command}
use Rattle.ds_machine.specs.declared.refusal.Refusal.TheVariants as refusals
use Rattle.ds_machine.specs.declared.reply.Reply.{Reply}
use Rattle.ds_machine.specs.declared.reply.Reply.TheVariants as replies
use Rattle.ds_names.specs.Limits.{most_items}
use Rattle.script_commands.specs.declared.command.ScriptCommand.{ScriptCommand}
use Rattle.ds_machine.specs.declared.command.Command.TheVariants as machine
use Rattle.script_commands.specs.declared.command.ScriptCommand.TheVariants as commands
use Rattle.script_answers.specs.Reply.{reply_lines, refused_noroom}
use Rattle.script_answers.specs.declared.wording.Wording.{Wording}
use Rattle.trace_walk.specs.declared.asked.Asked.{Asked}
use Rattle.trace_walk.specs.declared.asked.Asked.TheVariants as askeds
use Rattle.trace_walk.specs.declared.asked.Head.{Head}
use Rattle.trace_walk.specs.declared.header.Header.{Header}
use Rattle.trace_walk.specs.Legal.{opened_by}
use Rattle.trace_walk.specs.Noroom.{stopped_line}
use Rattle.trace_walk.specs.Text.{header_text, marked}
use Rattle.trace_walk.specs.Walk.{IsPlaceInEntry}
use Rattle.trace_walk.specs.declared.entry.EntryFault.{EntryFault}
use Rattle.trace_walk.specs.declared.fault.WalkFault.{WalkFault}
use Rattle.trace_walk.specs.declared.passed.Passed.{Passed}
use Rattle.trace_walk.specs.declared.sweep.Sweep.{Sweep}
use Rattle.trace_walk.specs.declared.walk.Walk.{Walk}
use Rattle.trace_walk.specs.Passing.{HasPassed, IsRefusedAs}
use Rattle.trace_walk.specs.Walking.{Spot, IsAt, HasLine, IsRead, IsLongFault, IsShort, Walks, IsFault, Heads}
use Rattle.trace_walk.specs.Walking.{HasAsked, Hears, IsEnded, IsThere, GoesOnSaying, IsToBeSaid, IsStopFault, IsForStore}

-- ---- lines

-- Whether the walk reached the next line.
abbrev pub ComesToLine : LinesContent → Option (List ℕ) → LinesContent → Option (List ℕ) → Type 0
ComesToLine old from new to =
    (bytes front : List ℕ) → IsAt bytes front old from → (line : List ℕ) × (new.line ≡ with_newline line) × HasLine bytes front line new to

-- Whether the next line is too long, or can't be read.
abbrev pub ComesToLong : LinesContent → Option (List ℕ) → EntryFault → Type 0
ComesToLong old from fault = (bytes front : List ℕ) → IsAt bytes front old from → IsLongFault bytes front fault

-- Whether there is no next line.
abbrev pub FindsNone : LinesContent → Option (List ℕ) → ℕ → Type 0
FindsNone old from number = (bytes front : List ℕ) → IsAt bytes front old from → IsRead bytes front number

-- Whether a reply line must follow, and none does.
abbrev pub MissesLine : LinesContent → Option (List ℕ) → WalkFault → Type 0
MissesLine old from fault =
    (start bytes front : List ℕ) → IsAt bytes front old from → IsPlaceInEntry start front true IsShort → IsFault start bytes fault

-- ---- the text of a reply

-- Whether all lines of the text are there; the first of them was reached already.
abbrev pub SaysAll : LinesContent → Option (List ℕ) → LinesContent → Option (List ℕ) → List ℕ → Type 0
SaysAll old from new to text =
    (bytes base here : List ℕ) → HasLine bytes base here old from → old.line ≡ with_newline here → IsEnded text → 0 < length text →
    IsAt bytes (base ++ marked text) new to

-- Whether the fault is the verdict on the input if some line of the text isn't there.
abbrev pub MissesReply : LinesContent → Option (List ℕ) → List ℕ → WalkFault → Type 0
MissesReply old from text fault =
    (start bytes base here : List ℕ) → HasLine bytes base here old from → old.line ≡ with_newline here → IsToBeSaid start base here text →
    IsFault start bytes fault

-- Whether the rest of the text follows the lines that were compared.
abbrev pub SaysRest : LinesContent → Option (List ℕ) → LinesContent → Option (List ℕ) → List ℕ → Type 0
SaysRest old from new to text =
    (bytes base whole given : List ℕ) →
    whole ≡ (given ++ 10 ∷ []) ++ text → IsEnded whole → IsAt bytes (base ++ marked (given ++ 10 ∷ [])) old from →
    IsAt bytes (base ++ marked whole) new to

-- Whether the fault is the verdict on the input if the rest of the text doesn't follow.
abbrev pub MissesRest : LinesContent → Option (List ℕ) → List ℕ → WalkFault → Type 0
MissesRest old from text fault =
    (start bytes base whole given : List ℕ) →
    whole ≡ (given ++ 10 ∷ []) ++ text → GoesOnSaying start base whole → IsAt bytes (base ++ marked (given ++ 10 ∷ [])) old from →
    IsFault start bytes fault

-- Whether the fault is the verdict on the input if the reply line `line` must be here, and another line is.
abbrev pub MissesSaid : LinesContent → List ℕ → WalkFault → Type 0
MissesSaid lines line fault =
    (start bytes base here : List ℕ) (remaining : Option (List ℕ)) →
    HasLine bytes base here lines remaining → lines.line ≡ with_newline here →
    IsPlaceInEntry start base true (IsThere here line) → IsFault start bytes fault

-- ---- entries

-- Whether the walk is at the spot.
abbrev pub WalksAt : Spot → Walk → Option (List ℕ) → Type 0
WalksAt b w remaining = Walks b w.entry.lines w.store w.header remaining

-- The spot after a header.
abbrev pub first_spot : List ℕ → Header → Spot
first_spot bytes h = record { bytes = bytes; front = header_text h; state = opened_by h; count = 0 }

-- Whether the walk is after the header of the reader's bytes, if these are known.
abbrev pub BeginsKnown : Option (List ℕ) → Walk → Option (List ℕ) → Type 0
BeginsKnown from w to = IfSome from (λ bytes. WalksAt (first_spot bytes w.header) w to)

-- Whether the fault is the verdict on the reader's bytes, if these are known: no front of them is a legal trace.
abbrev pub IsFaultOfKnown : Option (List ℕ) → WalkFault → Type 0
IsFaultOfKnown from fault = IfSome from (λ bytes. IsFault [] bytes fault)

-- Whether the walk passed one more entry.
abbrev pub GoesPast : Walk → Option (List ℕ) → Walk → Option (List ℕ) → Passed → Type 0
GoesPast old from new to passed = (b : Spot) → WalksAt b old from → HasPassed b old.header new to passed

-- Whether there is none: the whole input was passed.
abbrev pub EndsThere : Walk → Option (List ℕ) → Type 0
EndsThere old from = (b : Spot) → WalksAt b old from → (lines : List (List ℕ)) × HasLines b.bytes lines × (b.front ≡ joined lines)

-- Whether the fault is the verdict on the input: no front of it beyond the spot is a legal trace.
abbrev pub FailsFrom : Walk → Option (List ℕ) → WalkFault → Type 0
FailsFrom old from fault = (b : Spot) → WalksAt b old from → IsFault b.front b.bytes fault

-- ---- the command

-- Whether the walk is after the first line of an entry.
abbrev pub HeadsAt : Spot → Walk → Option (List ℕ) → ℕ → Head → Type 0
HeadsAt b w remaining pass head = Heads b w.entry.lines w.store w.header remaining pass head w.entry.text.items

-- Whether the walk is after an entry's command.
abbrev pub AsksAt : Spot → Walk → Option (List ℕ) → ℕ → Asked → Type 0
AsksAt b w remaining pass asked = HasAsked b w.entry.lines w.store w.header remaining pass asked w.entry.text.items

-- Whether the walk is at the first line of the reply.
abbrev pub HearsAt : Spot → Walk → Option (List ℕ) → ℕ → Asked → Type 0
HearsAt b w remaining pass asked = Hears b w.entry.lines w.store w.header remaining pass asked w.entry.text.items

-- Whether the walk read the first line of the next entry.
abbrev pub ReadsHead : Walk → Option (List ℕ) → Walk → Option (List ℕ) → ℕ × Head → Type 0
ReadsHead old from new to r = (new.header ≡ old.header) × ((b : Spot) → WalksAt b old from → HeadsAt b new to r.0 r.1)

-- Whether the rest of the command is read.
abbrev pub ReadsAsked : Walk → Option (List ℕ) → Head → Walk → Option (List ℕ) → Asked → Type 0
ReadsAsked old from head new to asked =
    (new.header ≡ old.header) × ((b : Spot) (pass : ℕ) → HeadsAt b old from pass head → AsksAt b new to pass asked)

abbrev pub FailsAfterHead : Walk → Option (List ℕ) → Head → WalkFault → Type 0
FailsAfterHead old from head fault = (b : Spot) (pass : ℕ) → HeadsAt b old from pass head → IsFault b.front b.bytes fault

-- ---- the reply

-- A sweep as an entry's command.
abbrev pub swept_line : Sweep → Asked
swept_line swept = askeds.Line (commands.Store (machine.Sweep swept.caller swept.owner swept.generation))

-- Whether all lines of the text are there, the first of which was reached already. The walk keeps the text, and is
-- otherwise unchanged.
pub record HasSaid (old : Walk) (from : Option (List ℕ)) (text : List ℕ) (new : Walk) (to : Option (List ℕ)) : Type 0 where
  pub says : SaysAll old.entry.lines from new.entry.lines to text
  pub store : new.store ≡ old.store
  pub header : new.header ≡ old.header
  pub asked : new.entry.text.items ≡ old.entry.text.items
  pub reply : new.reply.items ≡ text

-- Like `HasSaid`, for the text of a reply.
abbrev pub SaysReply : Wording → Reply → Walk → Option (List ℕ) → Walk → Option (List ℕ) → Type 0
SaysReply wording reply old from new to = HasSaid old from (reply_lines wording reply old.header.limits) new to

abbrev pub FailsToSay : Wording → Reply → Walk → Option (List ℕ) → WalkFault → Type 0
FailsToSay wording reply old from fault = MissesReply old.entry.lines from (reply_lines wording reply old.header.limits) fault

-- Whether the walk keeps the reply for out of memory, and is otherwise unchanged; `passed` is the entry in format 2.
pub record HasRefused (old : Walk) (asked : Asked) (new : Walk) (passed : Passed) : Type 0 where
  pub lines : new.entry.lines ≡ old.entry.lines
  pub store : new.store ≡ old.store
  pub header : new.header ≡ old.header
  pub asked_is : new.entry.text.items ≡ old.entry.text.items
  pub reply : new.reply.items ≡ refused_noroom
  pub becomes : IsRefusedAs old.header.format asked passed

-- Whether the walk, after a command, passes the reply.
abbrev pub GoesAfter : Walk → Option (List ℕ) → ℕ → Asked → Walk → Option (List ℕ) → Passed → Type 0
GoesAfter old from pass asked new to passed = (b : Spot) → AsksAt b old from pass asked → HasPassed b old.header new to passed

abbrev pub FailsAfter : Walk → Option (List ℕ) → ℕ → Asked → WalkFault → Type 0
FailsAfter old from pass asked fault = (b : Spot) → AsksAt b old from pass asked → IsFault b.front b.bytes fault

-- Like `GoesAfter`, from the first line of the reply.
abbrev pub GoesPastReply : Walk → Option (List ℕ) → ℕ → Asked → Walk → Option (List ℕ) → Passed → Type 0
GoesPastReply old from pass asked new to passed = (b : Spot) → HearsAt b old from pass asked → HasPassed b old.header new to passed

abbrev pub FailsAtReply : Walk → Option (List ℕ) → ℕ → Asked → WalkFault → Type 0
FailsAtReply old from pass asked fault = (b : Spot) → HearsAt b old from pass asked → IsFault b.front b.bytes fault

-- Like `GoesPastReply`, for a command on one line.
abbrev pub PassesLine : Walk → Option (List ℕ) → ℕ → ScriptCommand → Walk → Option (List ℕ) → Passed → Type 0
PassesLine old from pass command new to passed = GoesPastReply old from pass (askeds.Line command) new to passed

-- Like `PassesLine`, whatever the entry's pass.
abbrev pub PassesPlain : Walk → Option (List ℕ) → ScriptCommand → Walk → Option (List ℕ) → Passed → Type 0
PassesPlain old from command new to passed =
    (b : Spot) (pass : ℕ) → HearsAt b old from pass (askeds.Line command) → HasPassed b old.header new to passed

abbrev pub FailsAtPlain : Walk → Option (List ℕ) → ScriptCommand → WalkFault → Type 0
FailsAtPlain old from command fault = (b : Spot) (pass : ℕ) → HearsAt b old from pass (askeds.Line command) → IsFault b.front b.bytes fault

-- Like `GoesPastReply`, for a sweep.
abbrev pub PassesSweep : Walk → Option (List ℕ) → ℕ → Sweep → Walk → Option (List ℕ) → Passed → Type 0
PassesSweep old from pass swept new to passed = GoesPastReply old from pass (swept_line swept) new to passed

-- Like `GoesPastReply`, for a Merge, whatever the entry's pass.
abbrev pub PassesMerge : Walk → Option (List ℕ) → List Item → Walk → Option (List ℕ) → Passed → Type 0
PassesMerge old from items new to passed =
    (b : Spot) (pass : ℕ) → HearsAt b old from pass (askeds.Merge items) → HasPassed b old.header new to passed

abbrev pub FailsAtMerge : Walk → Option (List ℕ) → List Item → WalkFault → Type 0
FailsAtMerge old from items fault = (b : Spot) (pass : ℕ) → HearsAt b old from pass (askeds.Merge items) → IsFault b.front b.bytes fault

-- Like `GoesPastReply`, for any entry that has this command of the store.
abbrev pub PassesFor : Wording → Command → Walk → Option (List ℕ) → Walk → Option (List ℕ) → Passed → Type 0
PassesFor wording command old from new to passed =
    (b : Spot) (pass : ℕ) (asked : Asked) →
    IsForStore old.header.format asked wording command old.entry.lines.line → HearsAt b old from pass asked →
    HasPassed b old.header new to passed

abbrev pub FailsFor : Wording → Command → Walk → Option (List ℕ) → WalkFault → Type 0
FailsFor wording command old from fault =
    (b : Spot) (pass : ℕ) (asked : Asked) →
    IsForStore old.header.format asked wording command old.entry.lines.line → HearsAt b old from pass asked →
    IsFault b.front b.bytes fault

-- ---- a Merge that is stopped

-- Whether the line doesn't stop a Merge of `count` items after any of them.
abbrev pub StopsNowhere : List ℕ → ℕ → Type 0
StopsNowhere line count = (done : ℕ) → done < count → count ≤ most_items → line ≢ stopped_line done

-- Whether the reply is that of a Merge for which memory ran out after `done` items.
abbrev pub StopsMidway : ContentRecord → List Item → ℕ → Reply → ContentRecord → Type 0
StopsMidway old items done reply new =
    (s : State) → ContentStands old s → length items ≤ most_items → (t : State) × StopsForRoom s items reply t done × ContentStands new t

-- Whether the reply is to a Merge of those items alone that took them all, and `stopped` is the one for a Merge that
-- memory stopped after them.
abbrev pub EndsMidway : Reply → ℕ → Reply → Type 0
EndsMidway reply done stopped =
    (count taken stale owed : ℕ) ×
    (reply ≡ replies.Merged count taken stale owed) × (stopped ≡ replies.MergeStopped done refusals.NoRoom owed)

-- Whether the reply isn't `Merged`.
abbrev pub IsUnmerged : Reply → Type 0
IsUnmerged reply = (count taken stale owed : ℕ) → reply ≢ replies.Merged count taken stale owed

-- Why the Merge can't have stopped there: a refusal stops it earlier, or memory ran out.
abbrev pub FailsToStop : ContentRecord → List Item → (done number : ℕ) → WalkFault → Type 0
FailsToStop old items done number fault =
    (s : State) → ContentStands old s → length items ≤ most_items → IsStopFault s items done number fault
