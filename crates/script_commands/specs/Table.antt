-- The grammar of commands as a table: for each word, the slots after it.
use Rattle.std.specs.Prelude.{◌≢◌, List, [], ◌∷◌, ◌++◌}
use Rattle.ds_names.specs.declared.kind.Kind.{Kind}
use Rattle.ds_names.specs.declared.kind.Kind.TheVariants.{U32}
use Rattle.ds_entry.specs.declared.item.Item.{Item}
use Rattle.ds_entry.specs.Change.{ValueCopyTakesMemory}
use Rattle.ds_entry.specs.Item.{IsItem, ItemCopyTakesMemory}
use Rattle.ds_line.specs.Spelling.{space}
use Rattle.ds_line.specs.ItemSpelling.{item_parts}
use Rattle.ds_line.specs.Piece.{Piece}
use Rattle.script_commands.specs.declared.slot.Slot.{Slot}
use Rattle.script_commands.specs.declared.slot.Slot.TheVariants as slots
use Rattle.script_commands.specs.declared.word.Word.{Word}
use Rattle.script_commands.specs.declared.word.Word.TheVariants as words
use Rattle.script_commands.specs.Page.{a_range}
use Rattle.script_commands.specs.Pieces.{an_endpoint, a_mode, an_initial, a_name, a_key, a_generation, a_version}
use Rattle.script_commands.specs.Pieces.{a_number, a_place, a_kinds, a_pattern, a_value, an_end}
use Rattle.script_commands.specs.Scope.{a_scope, ScopeTakesMemory}
use Rattle.script_commands.specs.ServicePieces.{a_device, a_request, a_server, a_text, a_unit}
use Rattle.script_commands.specs.WorldPieces.{a_ring, a_side, a_holder, a_count}

-- The slots after a word.
abbrev pub slots_of : Word → List Slot
slots_of words.Offer = slots.Item ∷ []
slots_of words.Show = slots.End ∷ []
slots_of words.All = slots.End ∷ []
slots_of words.Publish = slots.Caller ∷ slots.Mode ∷ slots.Key ∷ slots.Version ∷ slots.Value ∷ []
slots_of words.Delete = slots.Caller ∷ slots.Key ∷ slots.Version ∷ slots.End ∷ []
slots_of words.Sweep = slots.Caller ∷ slots.Owner ∷ slots.Generation ∷ slots.End ∷ []
slots_of words.Retrieve = slots.Key ∷ slots.End ∷ []
slots_of words.NameOf = slots.Endpoint ∷ slots.End ∷ []
slots_of words.Subscribe = slots.Sub ∷ slots.Pattern ∷ slots.Kinds ∷ slots.Initial ∷ slots.Mode ∷ slots.End ∷ []
slots_of words.Check = slots.Sub ∷ slots.Max ∷ slots.End ∷ []
slots_of words.Map = slots.Pattern ∷ slots.Kinds ∷ slots.End ∷ []
slots_of words.Entries = slots.Map ∷ slots.End ∷ []
slots_of words.Ring = slots.Ring ∷ slots.End ∷ []
slots_of words.Side = slots.Side ∷ slots.End ∷ []
slots_of words.Clear = slots.Map ∷ slots.End ∷ []
slots_of words.Restart = slots.Side ∷ slots.Incarnation ∷ slots.End ∷ []
slots_of words.Deliver = slots.Message ∷ slots.Holder ∷ slots.Count ∷ slots.End ∷ []
slots_of words.Since = slots.Scope ∷ slots.Incarnation ∷ slots.Position ∷ slots.Max ∷ slots.End ∷ []
slots_of words.Snapshot = slots.Scope ∷ slots.End ∷ []
slots_of words.Page = slots.Scope ∷ slots.Range ∷ slots.End ∷ []
slots_of words.Settings = slots.Text ∷ []
slots_of words.Service = slots.Request ∷ slots.Label ∷ slots.Tick ∷ slots.End ∷ []
slots_of words.Death = slots.Endpoint ∷ slots.Cause ∷ slots.Tick ∷ slots.End ∷ []
slots_of words.Beat = slots.Endpoint ∷ slots.Tick ∷ slots.End ∷ []
slots_of words.Tick = slots.Tick ∷ slots.End ∷ []
slots_of words.Assign = slots.Device ∷ slots.Label ∷ slots.End ∷ []
slots_of words.Follow = slots.Map ∷ slots.End ∷ []
slots_of words.Submit = slots.Server ∷ slots.Id ∷ slots.Unit ∷ slots.Map ∷ slots.End ∷ []
slots_of words.Reply = slots.Server ∷ slots.Endpoint ∷ slots.Id ∷ slots.End ∷ []

-- An item, which ends with its newline.
abbrev pub an_item : Piece
an_item = record { Of = Item; Can = IsItem; parts = λ (i : Item). space ∷ item_parts i }

-- The piece of a slot, after a key of the kind.
abbrev pub piece_of : Kind → Slot → Piece
piece_of k slots.Item = an_item
piece_of k slots.Caller = an_endpoint
piece_of k slots.Mode = a_mode
piece_of k slots.Key = a_key
piece_of k slots.Version = a_version
piece_of k slots.Value = a_value k
piece_of k slots.Owner = a_name
piece_of k slots.Generation = a_generation
piece_of k slots.Endpoint = an_endpoint
piece_of k slots.Sub = a_number
piece_of k slots.Pattern = a_pattern
piece_of k slots.Kinds = a_kinds
piece_of k slots.Initial = an_initial
piece_of k slots.Max = a_number
piece_of k slots.Map = a_place
piece_of k slots.Ring = a_ring
piece_of k slots.Side = a_side
piece_of k slots.Incarnation = a_place
piece_of k slots.Position = a_place
piece_of k slots.Message = a_place
piece_of k slots.Holder = a_holder
piece_of k slots.Count = a_count
piece_of k slots.Scope = a_scope
piece_of k slots.Range = a_range
piece_of k slots.Text = a_text
piece_of k slots.Request = a_request
piece_of k slots.Label = a_name
piece_of k slots.Tick = a_place
piece_of k slots.Cause = a_place
piece_of k slots.Device = a_device
piece_of k slots.Server = a_server
piece_of k slots.Id = a_place
piece_of k slots.Unit = a_unit
piece_of k slots.End = an_end

-- The kind of the last key, after the slot.
abbrev pub kind_after : (k : Kind) (s : Slot) → (piece_of k s).Of → Kind
kind_after k slots.Key key = key.kind
kind_after k s x = k

-- The piece of one piece and then another, which may depend on the first.
abbrev pub and_then : (p : Piece) → (p.Of → Piece) → Piece
and_then p q = record {
  Of = (a : p.Of) × (q a).Of;
  Can = λ x. p.Can x.0 × (q x.0).Can x.1;
  parts = λ x. p.parts x.0 ++ (q x.0).parts x.1;
}

-- The pieces of a row of slots, in order; a row is never empty.
abbrev pub row_of : Kind → List Slot → Piece
row_of k [] = an_end
row_of k (s ∷ []) = piece_of k s
row_of k (s ∷ t ∷ ss) = and_then (piece_of k s) (λ (x : (piece_of k s).Of). row_of (kind_after k s x) (t ∷ ss))

-- The piece after the word. No value comes before a key, so any kind will do at its start.
abbrev pub line_of : Word → Piece
line_of w = row_of U32 (slots_of w)

-- Whether the contents of a row take memory. At most one of its slots can: an item, a value or the text of settings,
-- which end the line, or a pattern or a scope. What is empty takes none.
abbrev pub RowTakesMemory : (k : Kind) (ss : List Slot) → (row_of k ss).Of → Type 0
RowTakesMemory k [] x = ⊥
RowTakesMemory k (slots.Item ∷ []) i = ItemCopyTakesMemory i
RowTakesMemory k (slots.Value ∷ []) value = ValueCopyTakesMemory value
RowTakesMemory k (slots.Text ∷ []) text = text ≢ []
RowTakesMemory k (s ∷ []) x = ⊥
RowTakesMemory k (slots.Pattern ∷ t ∷ ss) x = x.0 ≢ []
RowTakesMemory k (slots.Scope ∷ t ∷ ss) x = ScopeTakesMemory x.0
RowTakesMemory k (s ∷ t ∷ ss) x = RowTakesMemory (kind_after k s x.0) (t ∷ ss) x.1
