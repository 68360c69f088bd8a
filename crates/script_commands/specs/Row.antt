-- The answer of a line's reader, which reads the slots of the line's word in order.
use Rattle.std.specs.Prelude.{◌≡◌, List, [], ◌∷◌, ℕ, Result, Ok, Err, MatchResult, IsErrAnd}
use Rattle.ds_names.specs.declared.kind.Kind.{Kind}
use Rattle.ds_names.specs.declared.kind.Kind.TheVariants.{U32}
use Rattle.ds_entry.specs.declared.item.Item.{Item}
use Rattle.ds_entry.specs.Item.{ItemCopyTakesMemory}
use Rattle.ds_line.specs.Piece.{Found}
use Rattle.ds_line.specs.declared.part_fault.PartFault.{PartFault}
use Rattle.ds_line.specs.declared.part_fault.PartFault.TheVariants.{NoRoom}
use Rattle.ds_machine.specs.declared.command.Command.TheVariants.{Publish, Delete, Sweep, Retrieve, NameOf}
use Rattle.ds_machine.specs.declared.command.Command.TheVariants.{Subscribe, Check, Since, Snapshot, Page}
use Rattle.ds_pattern.specs.Under.{query_of}
use Rattle.script_commands.specs.declared.command.ScriptCommand.{ScriptCommand}
use Rattle.script_commands.specs.declared.command.ScriptCommand.TheVariants.{Offer, Show, All, Store, Map, Entries, Ring, Side}
use Rattle.script_commands.specs.declared.command.ScriptCommand.TheVariants.{Clear, Restart, Deliver, Settings, Service, Death}
use Rattle.script_commands.specs.declared.command.ScriptCommand.TheVariants.{Beat, Tick, Assign, Follow, Submit, Reply}
use Rattle.script_commands.specs.declared.slot.Slot.{Slot}
use Rattle.script_commands.specs.declared.slot.Slot.TheVariants as slots
use Rattle.script_commands.specs.declared.word.Word.{Word}
use Rattle.script_commands.specs.declared.word.Word.TheVariants as words
use Rattle.script_commands.specs.Command.{CommandTakesMemory}
use Rattle.script_commands.specs.Pieces.{ValueTakesMemory}
use Rattle.script_commands.specs.Reads.{ReadsOr}
use Rattle.script_commands.specs.Table.{an_item, slots_of, piece_of, kind_after, row_of, line_of}

-- ---- the command of a word and of its slots' contents

abbrev pub command_in : (w : Word) → (line_of w).Of → ScriptCommand
command_in words.Offer x = Offer x
command_in words.Show x = Show
command_in words.All x = All
command_in words.Publish x = Store (Publish x.0 x.1.1.0 x.1.1.1.0 x.1.1.1.1 x.1.0)
command_in words.Delete x = Store (Delete x.0 x.1.0 x.1.1.0)
command_in words.Sweep x = Store (Sweep x.0 x.1.0 x.1.1.0)
command_in words.Retrieve x = Store (Retrieve x.0)
command_in words.NameOf x = Store (NameOf x.0)
command_in words.Subscribe x = Store (Subscribe x.0 (query_of x.1.0 x.1.1.0) x.1.1.1.0 x.1.1.1.1.0)
command_in words.Check x = Store (Check x.0 x.1.0)
command_in words.Map x = Map (query_of x.0 x.1.0)
command_in words.Entries x = Entries x.0
command_in words.Ring x = Ring x.0
command_in words.Side x = Side x.0
command_in words.Clear x = Clear x.0
command_in words.Restart x = Restart x.0 x.1.0
command_in words.Deliver x = Deliver x.0 x.1.0 x.1.1.0
command_in words.Since x = Store (Since x.0 (record { incarnation = x.1.0; position = x.1.1.0 }) x.1.1.1.0)
command_in words.Snapshot x = Store (Snapshot x.0)
command_in words.Page x = Store (Page x.0 x.1.0.0 x.1.0.1)
command_in words.Settings x = Settings x
command_in words.Service x = Service x.0 x.1.0 x.1.1.0
command_in words.Death x = Death x.0 x.1.0 x.1.1.0
command_in words.Beat x = Beat x.0 x.1.0
command_in words.Tick x = Tick x.0
command_in words.Assign x = Assign x.0 x.1.0
command_in words.Follow x = Follow x.0
command_in words.Submit x = Submit x.0 x.1.0 x.1.1.0 x.1.1.1.0
command_in words.Reply x = Reply x.0 x.1.0 x.1.1.0

-- ---- slot by slot

-- An item that takes memory comes next.
abbrev pub ItemTakesMemory : List ℕ → Type 0
ItemTakesMemory bytes = (i : Item) × (rest : List ℕ) × Found an_item i bytes rest × ItemCopyTakesMemory i

-- What comes next if memory runs out for the slot.
abbrev pub slot_wants : Kind → Slot → List ℕ → Type 0
slot_wants k slots.Item bytes = ItemTakesMemory bytes
slot_wants k slots.Value bytes = ValueTakesMemory k bytes
slot_wants k s bytes = ⊥

-- Whether the slots are read in order, up to the first bad one, and `done` holds of their contents, or `failed` of the
-- reason.
abbrev pub ReadsRow : (k : Kind) (ss : List Slot) → List ℕ → ((row_of k ss).Of → Type 0) → (PartFault → Type 0) → Type 0
ReadsRow k [] bytes done failed = done tt
ReadsRow k (s ∷ []) bytes done failed =
    (r : Result (piece_of k s).Of PartFault) × (rest : List ℕ) × ReadsOr (slot_wants k s bytes) (piece_of k s) bytes r rest
    × MatchResult r done failed
ReadsRow k (s ∷ t ∷ ss) bytes done failed =
    (r : Result (piece_of k s).Of PartFault) × (rest : List ℕ) × ReadsOr (slot_wants k s bytes) (piece_of k s) bytes r rest
    × MatchResult r (λ x. ReadsRow (kind_after k s x) (t ∷ ss) rest (λ y. done (x, y)) failed) failed

-- Whether the answer is the command, or memory ran out for it.
abbrev pub GivesCommand : ScriptCommand → Result ScriptCommand PartFault → Type 0
GivesCommand command (Ok given) = command ≡ given
GivesCommand command (Err stop) = (stop ≡ NoRoom) × CommandTakesMemory command

-- Whether the reader of a word's line reads its slots, and answers the command that they make, or why the first bad one
-- can't be read.
unfoldable pub TakesRow : Word → List ℕ → Result ScriptCommand PartFault → Type 0
TakesRow w bytes result =
    ReadsRow U32 (slots_of w) bytes (λ (x : (line_of w).Of). GivesCommand (command_in w x) result)
    (λ (stop : PartFault). IsErrAnd result (λ (it : PartFault). it ≡ stop))
