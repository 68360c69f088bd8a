-- The answer of a reader of floors.
use Rattle.std.specs.Prelude.{◌≡◌, ℕ, List, length, Result, Ok, Err}
use Rattle.ds_entry.specs.Floor.{IsFloor}
use Rattle.ds_entry.specs.declared.floor.Floor.{Floor}
use Rattle.ds_line.specs.ItemSpelling.{floor_parts}
use Rattle.ds_line.specs.Piece.{Piece, Found, Breaks}
use Rattle.ds_line.specs.declared.part_fault.PartFault.{PartFault}
use Rattle.ds_line.specs.declared.part_fault.PartFault.TheVariants.{BadPart, NoRoom}

-- A floor, as a piece.
abbrev pub a_floor : Piece
a_floor = record { Of = Floor; Can = IsFloor; parts = floor_parts }

-- The answer of a floor's reader: the floor and the number of bytes after its line, or the number of bytes from the first
-- part on that can't be read. The reader takes no memory.
abbrev pub ReadsFloor : List ℕ → Result (Floor × ℕ) PartFault → Type 0
ReadsFloor bytes (Ok r) = (rest : List ℕ) × Found a_floor r.0 bytes rest × (length rest ≡ r.1)
ReadsFloor bytes (Err (BadPart left)) = (rest : List ℕ) × Breaks a_floor bytes rest × (length rest ≡ left)
ReadsFloor bytes (Err NoRoom) = ⊥
