-- The answers of pieces' readers where they end.
use Rattle.std.proofs.Common.{◌≡◌, ◌≢◌, ℕ, List, ◌∷◌, length, Result, Ok, Err, sym, subst, ◌∙◌}
use Rattle.std.specs.Result.{IsErrAnd}
use Rattle.ds_line.specs.Piece.{Piece, Found, StopsIn}
use Rattle.ds_line.specs.declared.part_fault.PartFault.{PartFault}
use Rattle.ds_line.specs.declared.part_fault.PartFault.TheVariants.{BadPart, NoRoom}
use Rattle.ds_line.proofs.PieceLemmas.{after_byte}
use Rattle.script_commands.specs.Reads.{ReadsOr, Reads}
use Rattle.script_commands.proofs.PieceLemmas.{no_byte, no_want}

-- the piece is read
pub finds : (Wants : Type 0) {p : Piece} {thing : p.Of} {bytes rest : List ℕ} → Found p thing bytes rest →
    ReadsOr Wants p bytes (Ok thing) rest
unfolding ReadsOr
finds Wants f = record { found = f; stop = tt; room = tt }

-- it can't be read, or memory runs out
pub misses : {Wants : Type 0} (p : Piece) (bytes rest : List ℕ) {stop : PartFault} → (stop ≡ NoRoom → Wants) → StopsIn p stop bytes
    → ReadsOr Wants p bytes (Err stop) rest
unfolding ReadsOr
misses p bytes rest room s = record { found = tt; stop = s; room = room }

-- some part of it can't be read
pub misses_at : (p : Piece) (bytes rest : List ℕ) {stop : PartFault} {left : ℕ} → stop ≡ BadPart left → StopsIn p stop bytes
    → Reads p bytes (Err stop) rest
misses_at p bytes rest {stop} {left} at s = misses p bytes rest (no_want stop left at) s

-- a `?` ends the reader
pub exits : {Wants : Type 0} (p : Piece) (bytes rest : List ℕ) (result : Result p.Of PartFault) {stop : PartFault}
    → IsErrAnd result (λ (it : PartFault). it ≡ stop) → (stop ≡ NoRoom → Wants) → StopsIn p stop bytes → ReadsOr Wants p bytes result rest
exits p bytes rest (Ok thing) exit room s = absurd exit
exits p bytes rest (Err it) exit room s =
    misses p bytes rest (λ is. room (sym exit ∙ is)) (subst (λ (x : PartFault). StopsIn p x bytes) (sym exit) s)

-- the byte before the piece is missing
pub exits_byte : (n : ℕ) (p : Piece) (some : p.Of) → p.Can some →
    {bytes : List ℕ} (rest : List ℕ) (result : Result p.Of PartFault) {stop : PartFault}
    → IsErrAnd result (λ (it : PartFault). it ≡ stop) → stop ≡ BadPart (length bytes) → ((past : List ℕ) → bytes ≢ n ∷ past)
    → Reads (after_byte n p) bytes result rest
exits_byte n p some can {bytes} rest result {stop} exit at none =
    exits (after_byte n p) bytes rest result exit (no_want stop (length bytes) at) (no_byte n p some stop bytes can at none)
