-- The place of a walk in its input.
use Rattle.std.specs.Prelude.{◌≡◌, ◌≢◌, ℕ, suc, ◌<◌, ◌≤◌, true, List, [], ◌∷◌, ◌++◌, length, take, Option, Some, None}
use Rattle.ds_content.specs.Content.{ContentRecord}
use Rattle.ds_content.specs.Stands.{ContentStands}
use Rattle.ds_entry.specs.declared.item.Item.{Item}
use Rattle.ds_held.specs.Limits.{LimitsRecord}
use Rattle.line_io.specs.Lines.{HasLines, IsUnbroken, EndsLine, with_newline, joined}
use Rattle.line_io.specs.Reading.{LinesContent}
use Rattle.line_io.specs.Pulling.{left}
use Rattle.ds_machine.specs.Machine.{Step}
use Rattle.ds_machine.specs.Merging.{course}
use Rattle.ds_machine.specs.State.{State}
use Rattle.ds_machine.specs.declared.command.Command.{Command}
use Rattle.ds_machine.specs.declared.reply.Reply.{Reply as AReply}
use Rattle.script_answers.specs.declared.wording.Wording.{Wording}
use Rattle.trace_walk.specs.declared.asked.Asked.{Asked}
use Rattle.trace_walk.specs.declared.asked.Asked.TheVariants as askeds
use Rattle.trace_walk.specs.declared.asked.Head.{Head}
use Rattle.trace_walk.specs.declared.asked.AskedFault.{AskedFault}
use Rattle.trace_walk.specs.declared.asked.AskedFault.TheVariants as badly
use Rattle.trace_walk.specs.declared.header.Format.{Format}
use Rattle.trace_walk.specs.declared.header.Format.TheVariants.{One}
use Rattle.trace_walk.specs.declared.header.Header.{Header}
use Rattle.trace_walk.specs.declared.verdict.Verdict.{Verdict}
use Rattle.trace_walk.specs.declared.verdict.Verdict.TheVariants as verdicts
use Rattle.trace_walk.specs.Head.{MayHead, head_text}
use Rattle.trace_walk.specs.Legal.{StepOf}
use Rattle.trace_walk.specs.Noroom.{noroom_line, stopped_line}
use Rattle.trace_walk.specs.Text.{TraceEntry, MayAsk, asked_text, command_asked, entry_text}
use Rattle.trace_walk.specs.Text.{marked, worded_as}
use Rattle.trace_walk.specs.Upgrade.{BecomesAs}
use Rattle.trace_walk.specs.Verdict.{IsWrongAt, WantsReply}
use Rattle.trace_walk.specs.Walk.{IsAfterEntries, IsPlaceInEntry, NoneEnds}
use Rattle.trace_walk.specs.declared.fault.WalkFault.{WalkFault}
use Rattle.trace_walk.specs.declared.fault.WalkFault.TheVariants.{IllegalAt, BadLineAt, ReadFault, NoRoom}
use Rattle.trace_walk.specs.declared.entry.EntryFault.{EntryFault}
use Rattle.trace_walk.specs.declared.entry.EntryFault.TheVariants as entries

-- Whether the walk passed the lines of the front, and the other lines are left.
pub record IsAt (bytes front : List ℕ) (l : LinesContent) (remaining : Option (List ℕ)) : Type 0 where
  pub before : List (List ℕ)
  pub after : List (List ℕ)
  pub rest : List ℕ
  pub lines : HasLines bytes (before ++ after)
  pub past : HasLines rest after
  pub left_is : left l remaining ≡ Some rest
  pub front_is : front ≡ joined before
  pub counted : l.count ≡ length before

-- A place between two entries of a trace: the whole input, the front that was passed, the state that it leads to, and
-- how many entries it has.
pub record Spot : Type 0 where
  pub bytes : List ℕ
  pub front : List ℕ
  pub state : State
  pub count : ℕ

-- The place after one more entry.
abbrev pub spot_after : Spot → LimitsRecord → TraceEntry → State → Spot
spot_after b limits e t = record { bytes = b.bytes; front = b.front ++ entry_text limits e; state = t; count = suc b.count }

-- Whether the walk is at the spot, with a store that stands for its state.
pub record Walks (b : Spot) (l : LinesContent) (store : ContentRecord) (h : Header) (remaining : Option (List ℕ)) : Type 0 where
  pub at : IsAt b.bytes b.front l remaining
  pub stands : ContentStands store b.state
  pub past : IsAfterEntries b.front h b.state b.count

-- Whether the fault is a verdict on the input, and no legal trace ends after the start and before the wrong line.
abbrev pub IsFault : (start bytes : List ℕ) → WalkFault → Type 0
IsFault start bytes (IllegalAt number) = (front : List ℕ) × IsWrongAt bytes number front × WantsReply front × NoneEnds start front
IsFault start bytes (BadLineAt number) = (front : List ℕ) × IsWrongAt bytes number front × (¬ WantsReply front) × NoneEnds start front
IsFault start bytes ReadFault = Unit {0}
IsFault start bytes NoRoom = Unit {0}

-- Whether the line is the first after the front, and the walk just passed it.
pub record HasLine (bytes front line : List ℕ) (l : LinesContent) (remaining : Option (List ℕ)) : Type 0 where
  pub before : List (List ℕ)
  pub more : List (List ℕ)
  pub whole : IsUnbroken line
  pub lines : HasLines bytes (before ++ line ∷ more)
  pub front_is : front ≡ joined before
  pub counted : l.count ≡ suc (length before)
  pub then : IsAt bytes (front ++ with_newline line) l remaining

-- Whether the whole input was passed, and has `number` lines.
abbrev pub IsRead : List ℕ → List ℕ → ℕ → Type 0
IsRead bytes front number = (lines : List (List ℕ)) × HasLines bytes lines × (front ≡ joined lines) × (number ≡ length lines)

-- Whether the next line is above 4096 bytes, and has this number.
pub record IsLong (bytes front : List ℕ) (number : ℕ) : Type 0 where
  pub before : List (List ℕ)
  pub line : List ℕ
  pub more : List (List ℕ)
  pub whole : IsUnbroken line
  pub long : 4096 < length line
  pub lines : HasLines bytes (before ++ line ∷ more)
  pub front_is : front ≡ joined before
  pub counted : number ≡ suc (length before)

-- Why no line was reached.
abbrev pub IsLongFault : List ℕ → List ℕ → EntryFault → Type 0
IsLongFault bytes front (entries.BadLine number) = IsLong bytes front number
IsLongFault bytes front _ = Unit {0}

-- The fault of lines that can't be read on, before a reply and within one.
abbrev pub of_entry : EntryFault → WalkFault
of_entry (entries.BadLine number) = BadLineAt number
of_entry entries.ReadFault = ReadFault
of_entry entries.NoRoom = NoRoom

abbrev pub of_reply : EntryFault → WalkFault
of_reply (entries.BadLine number) = IllegalAt number
of_reply entries.ReadFault = ReadFault
of_reply entries.NoRoom = NoRoom

-- The fault of a line that can't be read.
abbrev pub of_line : AskedFault → ℕ → WalkFault
of_line badly.BadLine number = BadLineAt number
of_line badly.NoRoom number = NoRoom

-- The verdict for a fault.
abbrev pub verdict_of : WalkFault → Verdict
verdict_of (IllegalAt number) = verdicts.IllegalAt number
verdict_of (BadLineAt number) = verdicts.BadLineAt number
verdict_of ReadFault = verdicts.ReadFault
verdict_of NoRoom = verdicts.NoRoom

-- Whether the line has at most 4096 bytes before its newline.
abbrev pub IsShort : List ℕ → Type 0
IsShort line = length line ≤ 4097

-- ---- within an entry that begins at a spot. `kept` is the lines of its command so far.

-- Whether the walk is after the first line of an entry.
pub record Heads (b : Spot) (l : LinesContent) (store : ContentRecord) (h : Header) (remaining : Option (List ℕ))
    (pass : ℕ) (head : Head) (kept : List ℕ) : Type 0 where
  pub at : IsAt b.bytes (b.front ++ head_text pass head) l remaining
  pub stands : ContentStands store b.state
  pub past : IsAfterEntries b.front h b.state b.count
  pub pass_few : pass ≤ 63
  pub may : MayHead h.format head
  pub short : IsShort (head_text pass head)
  pub kept_is : kept ≡ head_text pass head

-- Whether the walk is after an entry's command.
pub record HasAsked (b : Spot) (l : LinesContent) (store : ContentRecord) (h : Header) (remaining : Option (List ℕ))
    (pass : ℕ) (asked : Asked) (kept : List ℕ) : Type 0 where
  pub at : IsAt b.bytes (b.front ++ asked_text pass asked) l remaining
  pub stands : ContentStands store b.state
  pub past : IsAfterEntries b.front h b.state b.count
  pub pass_few : pass ≤ 63
  pub may : MayAsk h.format pass asked
  pub kept_is : kept ≡ asked_text pass asked

-- Whether the walk is at the first line of the reply.
pub record Hears (b : Spot) (l : LinesContent) (store : ContentRecord) (h : Header) (remaining : Option (List ℕ))
    (pass : ℕ) (asked : Asked) (kept : List ℕ) : Type 0 where
  pub line : List ℕ
  pub here : HasLine b.bytes (b.front ++ asked_text pass asked) line l remaining
  pub line_is : l.line ≡ with_newline line
  pub stands : ContentStands store b.state
  pub past : IsAfterEntries b.front h b.state b.count
  pub pass_few : pass ≤ 63
  pub may : MayAsk h.format pass asked
  pub kept_is : kept ≡ asked_text pass asked

-- ---- the reply

-- Whether every line of the text has its newline.
abbrev pub IsEnded : List ℕ → Type 0
IsEnded text = (before last : List ℕ) → text ≡ before ++ last → IsUnbroken last → last ≡ []

-- Whether `line`, if it is the one here, is this line of a reply.
abbrev pub IsThere : (here next line : List ℕ) → Type 0
IsThere here next line = line ≡ with_newline here → line ≡ 60 ∷ 32 ∷ next

-- Whether, after some lines of the text, its next one must follow.
abbrev pub GoesOnSaying : (start base text : List ℕ) → Type 0
GoesOnSaying start base text =
    (given next left : List ℕ) → text ≡ (given ++ 10 ∷ []) ++ (next ++ left) → EndsLine next →
    IsPlaceInEntry start (base ++ marked (given ++ 10 ∷ [])) true (λ (line : List ℕ). line ≡ 60 ∷ 32 ∷ next) × (length next ≤ 4095)

-- Whether the text of the reply must begin at this line.
pub record IsToBeSaid (start base here text : List ℕ) : Type 0 where
  pub first : (next left : List ℕ) → text ≡ next ++ left → EndsLine next → IsPlaceInEntry start base true (IsThere here next)
  pub further : GoesOnSaying start base text

-- Whether the walk is after some lines of a reply's text, and `rest` is left of it.
pub record IsSaid (bytes base whole rest : List ℕ) (l : LinesContent) (remaining : Option (List ℕ)) : Type 0 where
  pub given : List ℕ
  pub whole_is : whole ≡ (given ++ 10 ∷ []) ++ rest
  pub at : IsAt bytes (base ++ marked (given ++ 10 ∷ [])) l remaining

-- Why a Merge wasn't stopped after `done` of its items.
abbrev pub IsStopFault : State → List Item → (done number : ℕ) → WalkFault → Type 0
IsStopFault s items done number (IllegalAt place) = (place ≡ number) × ((course s (take done items)).stop ≢ None)
IsStopFault s items done number (BadLineAt place) = ⊥
IsStopFault s items done number _ = Unit {0}

-- Whether the entry is the same in format 2: any command of format 1 except a sweep.
abbrev pub StaysUpgraded : Format → Asked → Type 0
StaysUpgraded format asked = format ≡ One → (s : State) (e : TraceEntry) → BecomesAs s e asked (e ∷ [])

-- Whether the store itself answers the command, and the line isn't one for out of memory.
pub record IsForStore (format : Format) (asked : Asked) (said : Wording) (command : Command) (line : List ℕ) : Type 0 where
  pub asks : command_asked asked ≡ Some command
  pub words : said ≡ worded_as asked
  pub steps : (s t : State) (reply : AReply) → Step s command reply t → StepOf format s command reply t
  pub stays : StaysUpgraded format asked
  pub room : line ≢ noroom_line
  pub stops : (items : List Item) (done : ℕ) → asked ≡ askeds.Merge items → done < length items → line ≢ stopped_line done
