-- The effect of a read on the reader and the buffer, and of a write that stops early.
use Rattle.std.specs.Prelude.{◌≡◌, ℕ, ◌≤◌, List, [], ◌++◌, length, take, Option}
use Rattle.std.specs.Io.KnownBytes.{Appends, Consumes, IsAtEnd}
use Rattle.line_io.specs.declared.transfer.Filled.{Filled}
use Rattle.line_io.specs.declared.transfer.Filled.TheVariants.{More, End, Interrupted, Failed, NoRoom}

-- The meaning of each outcome of a read. `More` appends the bytes to the buffer; only `More` and `NoRoom` take bytes
-- from the reader.
abbrev pub Fills : Filled → Option (List ℕ) → Option (List ℕ) → List ℕ → List ℕ → Type 0
Fills More from to before after = (bytes : List ℕ) × Consumes from to bytes × (after ≡ before ++ bytes)
Fills End from to before after = Consumes from to [] × IsAtEnd to × (after ≡ before)
Fills Interrupted from to before after = Consumes from to [] × (after ≡ before)
Fills Failed from to before after = Consumes from to [] × (after ≡ before)
Fills NoRoom from to before after = (bytes : List ℕ) × Consumes from to bytes × (after ≡ before)

-- The step of the reader by the outcome: `fails` if it is `Failed`, `reads` for any other.
abbrev pub FillsBy : {R : Type 0} → (reads fails : R → R → Type 0) → Filled → (old new : R) → Type 0
FillsBy reads fails Failed old new = fails old new
FillsBy reads fails _ old new = reads old new

-- Whether a prefix of the text was written.
abbrev pub WritesPart : Option (List ℕ) → Option (List ℕ) → List ℕ → Type 0
WritesPart had has text = (sent left : List ℕ) × (text ≡ sent ++ left) × Appends had has sent

-- Whether the first `count` bytes of the text were written.
abbrev pub WritesFront : Option (List ℕ) → Option (List ℕ) → ℕ → List ℕ → Type 0
WritesFront had has count text = (count ≤ length text) × Appends had has (take count text)

-- Whether a prefix of the buffer was written, and the rest is still in it.
abbrev pub SendsFront : Option (List ℕ) → Option (List ℕ) → (before after : List ℕ) → Type 0
SendsFront had has before after = (sent : List ℕ) × (before ≡ sent ++ after) × Appends had has sent
