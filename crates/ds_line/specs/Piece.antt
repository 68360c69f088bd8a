-- Pieces: consecutive parts that form one thing, such as a key or a version. Here are the answers of their readers, too.
use Rattle.std.specs.Prelude.{◌≡◌, ℕ, suc, List, [], ◌∷◌, length}
use Rattle.ds_names.specs.declared.kind.Kind.{Kind}
use Rattle.ds_entry.specs.declared.body.Value.{Value}
use Rattle.ds_entry.specs.Change.{kind_of, IsValue, ValueCopyTakesMemory}
use Rattle.ds_line.specs.Part.{Part}
use Rattle.ds_line.specs.Spelling.{newline, value_part}
use Rattle.ds_line.specs.FaultPlace.{Stand}
use Rattle.ds_line.specs.declared.part_fault.PartFault.{PartFault}
use Rattle.ds_line.specs.declared.part_fault.PartFault.TheVariants.{BadPart, NoRoom}

-- A sort of things: their type, which of them are valid, and the parts of each.
pub record Piece : Type 1 where
  pub Of : Type 0
  pub Can : Of → Type 0
  pub parts : Of → List Part

-- Whether the bytes are all parts of the thing and then the rest.
pub record Found (p : Piece) (thing : p.Of) (bytes rest : List ℕ) : Type 0 where
  pub can : p.Can thing
  pub front : Stand (length (p.parts thing)) (p.parts thing) bytes rest

-- Like `StopsAt`, for things of the piece, none of which has all its parts at the front.
pub record Breaks (p : Piece) (bytes rest : List ℕ) : Type 0 where
  pub count : ℕ
  pub thing : p.Of
  pub can : p.Can thing
  pub front : Stand count (p.parts thing) bytes rest
  pub most : (other : p.Of) (after : List ℕ) → p.Can other → ¬ Stand (suc count) (p.parts other) bytes after
  pub none : (other : p.Of) (after : List ℕ) → p.Can other → ¬ Stand (length (p.parts other)) (p.parts other) bytes after

-- The meaning of a fault: `left` bytes are left from the first part on that can't be read, or all parts can be read, and
-- memory ran out for the thing.
abbrev pub StopsIn : Piece → PartFault → List ℕ → Type 0
StopsIn p (BadPart left) bytes = (rest : List ℕ) × Breaks p bytes rest × (length rest ≡ left)
StopsIn p NoRoom bytes = (thing : p.Of) × (rest : List ℕ) × Found p thing bytes rest

-- Whether the value is of the kind and in its range.
pub record IsValueOf (kind : Kind) (value : Value) : Type 0 where
  pub valid : IsValue value
  pub of : kind_of value ≡ kind

-- A value of the kind and the newline after it, as a piece.
abbrev pub last_value : Kind → Piece
last_value kind = record { Of = Value; Can = IsValueOf kind; parts = λ (value : Value). value_part value ∷ newline ∷ [] }

-- The meaning of a fault of a value's reader. Only texts and blobs that aren't empty run out of memory.
abbrev pub StopsValue : Kind → PartFault → List ℕ → Type 0
StopsValue kind (BadPart left) bytes = StopsIn (last_value kind) (BadPart left) bytes
StopsValue kind NoRoom bytes = (value : Value) × (rest : List ℕ) × Found (last_value kind) value bytes rest × ValueCopyTakesMemory value
