-- The answers of a piece's reader.
use Rattle.std.specs.Prelude.{◌≡◌, List, ℕ, Option, Result, Ok, IfOk, IfErr}
use Rattle.ds_line.specs.Piece.{Piece, Found, StopsIn}
use Rattle.ds_line.specs.declared.part_fault.PartFault.{PartFault}
use Rattle.ds_line.specs.declared.part_fault.PartFault.TheVariants.{NoRoom}
use Rattle.script_commands.specs.Pieces.{a_pattern}
use Rattle.script_commands.specs.Query.{IsWrittenText, unescaped}
use Rattle.script_commands.specs.Scope.{a_scope, IsWrittenScope, written_scope}

-- Whether the result of reading a piece is right. Either the piece is at the front, followed by `rest`; or it can't
-- be read from some part on; or memory ran out, which is possible only if `Wants` holds.
pub record Reading (Wants : Type 0) (p : Piece) (bytes : List ℕ) (result : Result p.Of PartFault) (rest : List ℕ) : Type 0 where
  pub found : IfOk result (λ (thing : p.Of). Found p thing bytes rest)
  pub stop : IfErr result (λ (stop : PartFault). StopsIn p stop bytes)
  pub room : IfErr result (λ (stop : PartFault). stop ≡ NoRoom → Wants)

-- Like `Reading`, but folded, so that proofs about the readers of lines needn't look into it.
unfoldable pub ReadsOr : Type 0 → (p : Piece) → List ℕ → Result p.Of PartFault → List ℕ → Type 0
ReadsOr Wants p bytes result rest = Reading Wants p bytes result rest

-- Like `ReadsOr`, for a piece that takes no memory.
abbrev pub Reads : (p : Piece) → List ℕ → Result p.Of PartFault → List ℕ → Type 0
Reads p bytes result rest = ReadsOr ⊥ p bytes result rest

-- The reader finds the pattern of these bytes.
abbrev pub FindsPattern : List ℕ → List ℕ → List ℕ → Type 0
FindsPattern written bytes rest = IsWrittenText written × Reads a_pattern bytes (Ok (unescaped written)) rest

-- The reader finds the scope of these bytes and kinds.
abbrev pub FindsScope : List ℕ → Option ℕ → List ℕ → List ℕ → Type 0
FindsScope text kinds bytes rest = IsWrittenScope text kinds × Reads a_scope bytes (Ok (written_scope text kinds)) rest
