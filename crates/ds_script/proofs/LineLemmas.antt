-- Lines, and the commands that are allowed on them.
use Rattle.std.proofs.Common.{◌≡◌, ◌≢◌, ℕ, zero, suc, ◌≤◌, ◌⊎◌, inl, inr, false, List, [], ◌∷◌, ◌++◌, length, Option, Some, Result, Ok, Err}
use Rattle.std.proofs.Common.{refl, sym, ap, subst, ◌∙◌, length-append, arith}
use Rattle.ds_entry.specs.declared.item.Item.{Item}
use Rattle.ds_line.specs.Part.{texts}
use Rattle.ds_line.specs.ItemSpelling.{item_parts}
use Rattle.script_commands.specs.Command.{IsCommand, CommandTakesMemory, IsFaultAmong, ReadsAs, is_offer}
use Rattle.line_io.specs.Lines.{with_newline}
use Rattle.script_answers.specs.Reply.{refused_noroom}
use Rattle.script_commands.specs.Later.{IsLater}
use Rattle.script_commands.specs.Fast.{IsOffer, OfPlaced}
use Rattle.script_commands.specs.declared.command.ScriptCommand.{ScriptCommand}
use Rattle.script_commands.specs.declared.command.ScriptCommand.TheVariants.{Offer, Show, All, Entries, Ring, Settings}
use Rattle.script_commands.specs.declared.fault.CommandFault.{CommandFault}
use Rattle.script_commands.specs.declared.fault.CommandFault.TheVariants.{BadLine, NoRoom}
use Rattle.ds_script.specs.Answer.{MayStand, AnswersAsEvent, AnswersLine, AnswersOrRefuses, AnswerTakesMemory, IsLineRefused, AppendsLine}
use Rattle.ds_script.specs.Progress.{IsUnendedFault, KeepsSession}
use Rattle.ds_script.specs.Session.{SessionContent}
use Rattle.ds_script.proofs.EventLemmas.{event_answers}

-- a command that is allowed on some line is a command
pub may_command : (before : ℕ) (command : ScriptCommand) → MayStand before command → IsCommand command
may_command zero command may = may
may_command (suc before) command may = may.0

-- ---- memory

-- a line with a text, a blob or a pattern takes memory
pub memory_room : (command : ScriptCommand) (session : SessionContent) → CommandTakesMemory command → AnswerTakesMemory command session
memory_room Show session takes = absurd takes
memory_room All session takes = absurd takes
memory_room (Entries map) session takes = absurd takes
memory_room (Ring ring) session takes = absurd takes
memory_room (Settings text) session takes = inl takes
memory_room command session takes = takes

-- a line without the word of an offer isn't an offer
pub offer_line : (before : ℕ) (bytes : List ℕ) (command : ScriptCommand) → ReadsAs (MayStand before) bytes (Ok command) → ¬ IsOffer bytes
    → is_offer command ≡ false
offer_line before bytes (Offer i) read none = absurd (none (texts (item_parts i), read.1))
offer_line before bytes command read none = refl

-- ---- the first line, and those after it

pub line_after : (before : ℕ) (bytes : List ℕ) (result : Result ScriptCommand CommandFault) →
    (before ≡ 0 → ReadsAs IsCommand bytes result) → (before ≢ 0 → ReadsAs IsLater bytes result) → ReadsAs (MayStand before) bytes result
line_after zero bytes result first later = first refl
line_after (suc before) bytes result first later = later (λ none. omega (arith, none))

-- what is read alike as a first and as a later line is read so after any number of lines
pub read_after : (before : ℕ) (bytes : List ℕ) (result : Result ScriptCommand CommandFault) → ReadsAs IsCommand bytes result →
    ReadsAs IsLater bytes result → ReadsAs (MayStand before) bytes result
read_after zero bytes result first later = first
read_after (suc before) bytes result first later = later

-- the item that is in the place is the one that is offered
pub offered_item : (Answers : Result ScriptCommand CommandFault → Type 0) (placed : Option Item) (i : Item) → placed ≡ Some i →
    OfPlaced CommandFault Answers (Ok tt) placed → Answers (Ok (Offer i))
offered_item Answers placed i is read = subst (λ (p : Option Item). OfPlaced CommandFault Answers (Ok tt) p) is read

-- ---- one line, and its answer

short_text : (bytes text : List ℕ) → length bytes ≤ 4097 → bytes ≡ with_newline text → length text ≤ 4096
short_text bytes text short is = omega (arith, short, ap length is, length-append text (10 ∷ []))

-- a command's line is answered as the command is
pub answered_after : (before : ℕ) (bytes out : List ℕ) (command : ScriptCommand) (old new : SessionContent) → length bytes ≤ 4097
    → ReadsAs (MayStand before) bytes (Ok command) → AnswersOrRefuses command old out new
    → (text : List ℕ) → bytes ≡ with_newline text → AnswersLine before old text out new
answered_after before bytes out command old new short read answers text is =
    (command, record { written = read.0; text = sym is ∙ read.1; short = short_text bytes text short is }, answers)

-- if memory runs out, it is refused
pub refused_after : (before : ℕ) (bytes : List ℕ) (session : SessionContent) → length bytes ≤ 4097
    → ReadsAs (MayStand before) bytes (Err NoRoom)
    → (text : List ℕ) → bytes ≡ with_newline text → AnswersLine before session text refused_noroom session
refused_after before bytes session short read text is = (
  read.0,
  record { written = read.1; text = sym is ∙ read.2; short = short_text bytes text short is },
  inl
      (memory_room read.0 session read.3, (refl, refl)),
)

-- a line that isn't a command is bad
pub bad_after : (before : ℕ) (bad : CommandFault) (bytes text : List ℕ) → length bytes ≤ 4097 → bytes ≡ with_newline text
    → ReadsAs (MayStand before) bytes (Err bad) → IsUnendedFault before bad text
bad_after before (BadLine place expected) bytes text short is fault =
    inr (short_text bytes text short is, subst (λ (b : List ℕ). IsFaultAmong (MayStand before) b place) is fault)
bad_after before NoRoom bytes text short is fault = tt

-- a line of which no command was read is refused if memory ran out
pub unread_after : (before : ℕ) (bytes had has : List ℕ) (fault : CommandFault) (session : SessionContent) → length bytes ≤ 4097
    → ReadsAs (MayStand before) bytes (Err fault) → (fault ≡ NoRoom) × (has ≡ had ++ refused_noroom) →
    AppendsLine before bytes had has session session
unread_after before bytes had has fault session short read answered = (
  refused_noroom,
  answered.1,
  refused_after before bytes session short (subst (λ (f : CommandFault). ReadsAs (MayStand before) bytes (Err f)) answered.0 read),
)

-- or its fault is returned
pub unread_fault : (before : ℕ) (fault told : CommandFault) (bytes : List ℕ) → length bytes ≤ 4097 →
    ReadsAs (MayStand before) bytes (Err fault) → told ≡ fault
    → (text : List ℕ) → bytes ≡ with_newline text → IsUnendedFault before told text
unread_fault before fault told bytes short read same text is =
    subst (λ (f : CommandFault). IsUnendedFault before f text) (sym same) (bad_after before fault bytes text short is read)

-- a session is kept by itself
pub keeps : (fault : CommandFault) (session : SessionContent) → KeepsSession fault session session
keeps (BadLine place expected) session = refl
keeps NoRoom session = tt

-- the line of a command that is an event is answered as the event is, or refused
pub event_after : (before : ℕ) (bytes out : List ℕ) (command : ScriptCommand) (old new : SessionContent) → length bytes ≤ 4097
    → ReadsAs IsCommand bytes (Ok command) → ReadsAs IsLater bytes (Ok command)
    → AnswersAsEvent command old out new ⊎ (AnswerTakesMemory command old × IsLineRefused old out new)
    → (text : List ℕ) → bytes ≡ with_newline text → AnswersLine before old text out new
event_after before bytes out command old new short first later answers =
    answered_after before bytes out command old new short (read_after before bytes (Ok command) first later)
    (event_answers command old out new answers)
