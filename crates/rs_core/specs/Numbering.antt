-- The numbers that a numberer returns.
use Rattle.std.specs.Prelude.{◌≡◌, ℕ, ◌+◌, ◌<◌, ◌≤◌, List, [], ◌∷◌}
use Rattle.ds_names.specs.declared.version.Version.{Version}
use Rattle.rs_core.specs.Action.{version}

-- A numberer: its generation, and its next sequence number.
pub record NumbererRecord : Type 0 where
  pub generation : ℕ
  pub next : ℕ

-- The numberer of a generation with this next number.
abbrev pub numberer : ℕ → ℕ → NumbererRecord
numberer generation next = record { generation = generation; next = next }

-- Whether `next` succeeds so: it returns the next number of the generation, and the numberer moves on to the one above.
pub record Gives (old new : NumbererRecord) (given : Version) : Type 0 where
  pub value : given ≡ version old.generation old.next
  pub left : old.next ≤ 4294967294
  pub after : new ≡ numberer old.generation (old.next + 1)

-- Whether such calls, in order, return these versions.
abbrev pub GiveAll : NumbererRecord → List Version → NumbererRecord → Type 0
GiveAll old [] new = old ≡ new
GiveAll old (v ∷ vs) new = (between : NumbererRecord) × Gives old between v × GiveAll between vs new

-- Whether each version is of the generation, and its number is above those before it.
abbrev pub AreNumbered : ℕ → ℕ → List Version → Type 0
AreNumbered generation low [] = Unit {0}
AreNumbered generation low (v ∷ vs) = (v.epoch ≡ generation) × (low ≤ v.seq) × (v.seq < 4294967295) × AreNumbered generation (v.seq + 1) vs

-- A law: no number is returned twice.
abbrev pub NumbersRise : Type 0
NumbersRise = (old new : NumbererRecord) (vs : List Version) → GiveAll old vs new → AreNumbered old.generation old.next vs
