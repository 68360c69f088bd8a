-- The end of a run of bytes of one sort.
use Rattle.std.specs.Bool.{IsFalse}
use Rattle.std.specs.Prelude.{◌≡◌, ℕ, Bool, List, [], ◌∷◌, ◌++◌}

-- Whether a run of the sort ends before these bytes: they are empty, or begin with a byte of another sort.
abbrev pub Ends : (ℕ → Bool) → List ℕ → Type 0
Ends sort [] = Unit {0}
Ends sort (b ∷ bytes) = IsFalse (sort b)

-- Whether the bytes are the text and the rest after it, and a run of the sort ends between the two.
pub record Begins (sort : ℕ → Bool) (bytes text rest : List ℕ) : Type 0 where
  pub parts : bytes ≡ text ++ rest
  pub ends : Ends sort rest
