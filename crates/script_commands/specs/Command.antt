-- The lines of commands, part by part.
use Rattle.std.specs.Prelude.{◌≡◌, ◌≢◌, ℕ, ◌<◌, ◌≤◌, ◌⊎◌, Bool, true, false, List, [], ◌∷◌, length, Option, None, Some, Result, Ok, Err}
use Rattle.ds_names.specs.declared.kind.Kind.TheVariants.{U32}
use Rattle.ds_line.specs.Part.{Part, part, texts, Word}
use Rattle.ds_line.specs.FaultPlace.{IsFaultPlace}
use Rattle.ds_machine.specs.declared.command.Command.{Command}
use Rattle.ds_machine.specs.declared.command.Command.TheVariants.{Publish, Delete, Sweep, Retrieve, NameOf, Subscribe}
use Rattle.ds_machine.specs.declared.command.Command.TheVariants.{Check, Since, Snapshot, Page, Merge}
use Rattle.line_io.specs.Lines.{with_newline}
use Rattle.script_commands.specs.declared.fault.CommandFault.{CommandFault}
use Rattle.script_commands.specs.declared.fault.CommandFault.TheVariants.{BadLine, NoRoom}
use Rattle.script_commands.specs.declared.command.ScriptCommand.{ScriptCommand}
use Rattle.script_commands.specs.declared.command.ScriptCommand.TheVariants.{Offer, Show, All, Store, Map, Entries, Ring, Side}
use Rattle.script_commands.specs.declared.command.ScriptCommand.TheVariants.{Clear, Restart, Deliver, Settings, Service, Death}
use Rattle.script_commands.specs.declared.command.ScriptCommand.TheVariants.{Beat, Tick, Assign, Follow, Submit, Reply}
use Rattle.script_commands.specs.declared.word.Word.{Word as CommandWord}
use Rattle.script_commands.specs.declared.word.Word.TheVariants as words
use Rattle.script_commands.specs.Table.{slots_of, line_of, RowTakesMemory}
use Rattle.script_commands.specs.Words.{text_of}

-- The word of a command, and the contents of its slots. No line is a Merge, so its row is arbitrary.
abbrev pub row_for : ScriptCommand → (word : CommandWord) × (line_of word).Of
row_for (Offer i) = (words.Offer, i)
row_for Show = (words.Show, tt)
row_for All = (words.All, tt)
row_for (Store (Publish caller key version value overwrite)) = (words.Publish, (caller, (overwrite, (key, (version, value)))))
row_for (Store (Delete caller key version)) = (words.Delete, (caller, (key, (version, tt))))
row_for (Store (Sweep caller owner generation)) = (words.Sweep, (caller, (owner, (generation, tt))))
row_for (Store (Retrieve key)) = (words.Retrieve, (key, tt))
row_for (Store (NameOf endpoint)) = (words.NameOf, (endpoint, tt))
row_for (Store (Subscribe sub query initial overwrite)) = (words.Subscribe, (sub, (query.text, (query.kinds, (initial, (overwrite, tt))))))
row_for (Store (Check sub max)) = (words.Check, (sub, (max, tt)))
row_for (Map query) = (words.Map, (query.text, (query.kinds, tt)))
row_for (Entries map) = (words.Entries, (map, tt))
row_for (Ring ring) = (words.Ring, (ring, tt))
row_for (Side side) = (words.Side, (side, tt))
row_for (Clear map) = (words.Clear, (map, tt))
row_for (Restart side incarnation) = (words.Restart, (side, (incarnation, tt)))
row_for (Deliver message holder count) = (words.Deliver, (message, (holder, (count, tt))))
row_for (Store (Since scope cursor max)) = (words.Since, (scope, (cursor.incarnation, (cursor.position, (max, tt)))))
row_for (Store (Snapshot scope)) = (words.Snapshot, (scope, tt))
row_for (Store (Page scope after max)) = (words.Page, (scope, ((after, max), tt)))
row_for (Store (Merge items)) = (words.Show, tt)
row_for (Settings text) = (words.Settings, text)
row_for (Service request label tick) = (words.Service, (request, (label, (tick, tt))))
row_for (Death endpoint cause tick) = (words.Death, (endpoint, (cause, (tick, tt))))
row_for (Beat endpoint tick) = (words.Beat, (endpoint, (tick, tt)))
row_for (Tick tick) = (words.Tick, (tick, tt))
row_for (Assign device label) = (words.Assign, (device, (label, tt)))
row_for (Follow map) = (words.Follow, (map, tt))
row_for (Submit server id unit map) = (words.Submit, (server, (id, (unit, (map, tt)))))
row_for (Reply server endpoint id) = (words.Reply, (server, (endpoint, (id, tt))))

-- The word of a command.
abbrev pub command_word : ScriptCommand → CommandWord
command_word command = (row_for command).0

-- The contents of its slots.
abbrev pub fields_of : (command : ScriptCommand) → (line_of (command_word command)).Of
fields_of command = (row_for command).1

-- The text of its word.
abbrev pub word_of : ScriptCommand → List ℕ
word_of command = text_of (command_word command)

-- The parts after the word, slot by slot.
abbrev pub after_word : ScriptCommand → List Part
after_word command = (line_of (command_word command)).parts (fields_of command)

-- The parts of a command's line: its word, and the contents of its slots.
abbrev pub command_parts : ScriptCommand → List Part
command_parts command = part Word (word_of command) ∷ after_word command

-- The contents of the command's slots are valid. Only an offer's item must keep the rules of labels and of sequence
-- numbers here; the store judges what is published. No line is a Merge.
abbrev pub IsCommand : ScriptCommand → Type 0
IsCommand (Store (Merge items)) = ⊥
IsCommand command = (line_of (command_word command)).Can (fields_of command)

-- The command has a text, a blob, a pattern or bytes of settings, which isn't empty.
abbrev pub CommandTakesMemory : ScriptCommand → Type 0
CommandTakesMemory command = RowTakesMemory U32 (slots_of (command_word command)) (fields_of command)

-- The command that the line sends to a store, if any: an offer is a Merge of one item.
abbrev pub store_command : ScriptCommand → Option Command
store_command (Offer i) = Some (Merge (i ∷ []))
store_command (Store command) = Some command
store_command _ = None

-- Whether the line is an offer, the only line whose store command needs a list.
abbrev pub is_offer : ScriptCommand → Bool
is_offer (Offer i) = true
is_offer _ = false

-- ---- a line with its newline, where some commands are allowed

-- The bytes are the line of no allowed command, and their first bad part begins at the place.
pub record IsFaultAmong (May : ScriptCommand → Type 0) (bytes : List ℕ) (place : ℕ) : Type 0 where
  pub none : (command : ScriptCommand) → May command → bytes ≢ texts (command_parts command)
  pub first : IsFaultPlace May command_parts bytes place

-- The answer of a line's reader, newline included; memory can run out only for texts, blobs, patterns and settings.
abbrev pub ReadsAs : (ScriptCommand → Type 0) → List ℕ → Result ScriptCommand CommandFault → Type 0
ReadsAs May bytes (Ok command) = May command × (bytes ≡ texts (command_parts command))
ReadsAs May bytes (Err (BadLine place expected)) = IsFaultAmong May bytes place
ReadsAs May bytes (Err NoRoom) =
    (command : ScriptCommand) × May command × (bytes ≡ texts (command_parts command)) × CommandTakesMemory command

-- The bytes aren't a command's line.
abbrev pub IsCommandFault : List ℕ → ℕ → Type 0
IsCommandFault bytes place = IsFaultAmong IsCommand bytes place

-- Like `ReadsAs`, for any command.
abbrev pub ReadsCommand : List ℕ → Result ScriptCommand CommandFault → Type 0
ReadsCommand bytes result = ReadsAs IsCommand bytes result

-- ---- lines

-- The line, without its newline, is that of the command, which is allowed.
pub record IsLineAs (May : ScriptCommand → Type 0) (command : ScriptCommand) (line : List ℕ) : Type 0 where
  pub written : May command
  pub text : with_newline line ≡ texts (command_parts command)
  pub short : length line ≤ 4096

-- A line above 4096 bytes is bad at place 4096, whatever it holds.
abbrev pub IsBadLineAs : (ScriptCommand → Type 0) → List ℕ → ℕ → Type 0
IsBadLineAs May line place = ((4096 < length line) × (place ≡ 4096)) ⊎ ((length line ≤ 4096) × IsFaultAmong May (with_newline line) place)

abbrev pub IsLineOf : ScriptCommand → List ℕ → Type 0
IsLineOf command line = IsLineAs IsCommand command line

abbrev pub IsBadLine : List ℕ → ℕ → Type 0
IsBadLine line place = IsBadLineAs IsCommand line place

-- Why a line isn't read: it is bad, or it is a command's, and memory ran out for the command's text, blob, pattern or
-- settings.
abbrev pub IsCommandLineFault : CommandFault → List ℕ → Type 0
IsCommandLineFault (BadLine place expected) line = IsBadLine line place
IsCommandLineFault NoRoom line = (command : ScriptCommand) × IsLineOf command line × CommandTakesMemory command
