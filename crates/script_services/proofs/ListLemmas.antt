-- The bytes that a loop appended.
use Rattle.std.proofs.Common.{ℕ, List, ◌++◌, ap, append_assoc, ◌∙◌}
use Rattle.script_answers.specs.Appending.{AppendsSome}

-- an extension of an extension is one
pub some_more : (old now new : List ℕ) → AppendsSome old now → AppendsSome now new → AppendsSome old new
some_more old now new first next = (first.0 ++ next.0, next.1 ∙ ap (λ (l : List ℕ). l ++ next.0) first.1 ∙ append_assoc old first.0 next.0)
