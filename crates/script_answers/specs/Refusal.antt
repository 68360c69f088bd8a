-- The line of a refusal.
use Rattle.std.specs.Prelude.{ℕ, List, [], ◌∷◌, codes}
use Rattle.ds_line.specs.Part.{part, texts, Word}
use Rattle.ds_line.specs.Spelling.{space, newline}

-- The line of a refusal: `refused`, and the word of the cause.
abbrev pub refusal_line : List ℕ → List ℕ
refusal_line word = texts (part Word (codes "refused") ∷ space ∷ part Word word ∷ newline ∷ [])
