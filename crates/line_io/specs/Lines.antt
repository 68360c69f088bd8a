-- The lines of an input.
use Rattle.std.specs.Prelude.{◌≡◌, ◌≢◌, ℕ, suc, ◌<◌, List, [], ◌∷◌, ◌++◌, length, take}
use Rattle.std.specs.List.{All, flat_map}

-- Whether the line has no newline.
abbrev pub IsUnbroken : List ℕ → Type 0
IsUnbroken line = All (λ (b : ℕ). b ≢ 10) line

-- A line with its newline.
abbrev pub with_newline : List ℕ → List ℕ
with_newline line = line ++ 10 ∷ []

-- Whether the bytes end with their only newline.
pub record EndsLine (bytes : List ℕ) : Type 0 where
  pub front : List ℕ
  pub parts : bytes ≡ with_newline front
  pub none : IsUnbroken front

-- Whether the first newline of the text has this index.
pub record BreaksAt (text : List ℕ) (n : ℕ) : Type 0 where
  pub within : n < length text
  pub line : IsUnbroken (take n text)
  pub parts : take (suc n) text ≡ take n text ++ 10 ∷ []

-- The bytes of the lines in order, each with its newline.
abbrev pub joined : List (List ℕ) → List ℕ
joined lines = flat_map with_newline lines

-- The line after the last newline, unless it is empty.
abbrev pub unended : List ℕ → List (List ℕ)
unended [] = []
unended (b ∷ bs) = (b ∷ bs) ∷ []

-- Whether the input consists of these lines. The newline of the last one may be missing.
pub record HasLines (input : List ℕ) (lines : List (List ℕ)) : Type 0 where
  pub front : List (List ℕ)
  pub last : List ℕ
  pub text : input ≡ joined front ++ last
  pub unbroken : All IsUnbroken front
  pub unbroken_last : IsUnbroken last
  pub all : lines ≡ front ++ unended last

-- A law: every input has lines.
abbrev pub InputsHaveLines : Type 0
InputsHaveLines = (input : List ℕ) → (lines : List (List ℕ)) × HasLines input lines
