-- The place of the first part that can't be read, for anything that consists of parts, such as a change or a command.
use Rattle.std.specs.Prelude.{◌≡◌, ◌≢◌, ℕ, zero, suc, ◌+◌, List, [], ◌∷◌, ◌++◌, length}
use Rattle.ds_names.specs.Run.{Begins}
use Rattle.ds_entry.specs.Change.{ChangeRecord, IsChange, BodyCopyTakesMemory}
use Rattle.ds_line.specs.Part.{Part, run_of}
use Rattle.ds_line.specs.Spelling.{change_parts, spelling}
use Rattle.ds_line.specs.declared.fault.LineFault.{LineFault}
use Rattle.ds_line.specs.declared.fault.LineFault.TheVariants.{BadLine, NoRoom}

-- Whether the bytes are the first `count` parts and then the rest, and no part is followed by a byte that would make it
-- longer.
abbrev pub Stand : ℕ → List Part → List ℕ → List ℕ → Type 0
Stand zero parts bytes rest = bytes ≡ rest
Stand (suc count) [] bytes rest = ⊥
Stand (suc count) (p ∷ parts) bytes rest = (after : List ℕ) × Begins (run_of p.class) bytes p.text after × Stand count parts after rest

-- Whether the bytes begin with the first `count` parts of some member.
pub record CanRead {T : Type 0} (IsMember : T → Type 0) (parts : T → List Part) (count : ℕ) (bytes rest : List ℕ) : Type 0 where
  pub member : T
  pub is : IsMember member
  pub front : Stand count (parts member) bytes rest

-- Whether the rest begins after as many parts of a member as can be read.
pub record StopsAt {T : Type 0} (IsMember : T → Type 0) (parts : T → List Part) (bytes rest : List ℕ) : Type 0 where
  pub count : ℕ
  pub read : CanRead IsMember parts count bytes rest
  pub most : (after : List ℕ) → ¬ CanRead IsMember parts (suc count) bytes after

-- Whether the first part that can't be read begins at the place.
pub record IsFaultPlace {T : Type 0} (IsMember : T → Type 0) (parts : T → List Part) (bytes : List ℕ) (place : ℕ) : Type 0 where
  pub rest : List ℕ
  pub stops : StopsAt IsMember parts bytes rest
  pub begins : place + length rest ≡ length bytes

-- Whether the bytes don't begin with a change's line.
abbrev pub HasNoLine : List ℕ → Type 0
HasNoLine bytes = (c : ChangeRecord) (rest : List ℕ) → IsChange c → bytes ≢ spelling c ++ rest

-- Whether the bytes don't begin with a change's line, and the first part of a change that can't be read begins at the
-- place.
pub record IsLineFault (bytes : List ℕ) (place : ℕ) : Type 0 where
  pub none : HasNoLine bytes
  pub first : IsFaultPlace IsChange change_parts bytes place

-- Whether the bytes begin with the whole line of a put of a text or a blob that isn't empty, whose value takes memory.
pub record ItemLineTakesMemory (bytes : List ℕ) : Type 0 where
  pub change : ChangeRecord
  pub rest : List ℕ
  pub line : IsChange change
  pub value : BodyCopyTakesMemory change.body
  pub front : bytes ≡ spelling change ++ rest

-- The meaning of a fault of a change's reader.
abbrev pub IsFaultIn : LineFault → List ℕ → Type 0
IsFaultIn (BadLine place) bytes = IsLineFault bytes place
IsFaultIn NoRoom bytes = ItemLineTakesMemory bytes
