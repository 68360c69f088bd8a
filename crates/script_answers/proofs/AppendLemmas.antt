-- Lines appended in sequence.
use Rattle.std.proofs.Common.{◌≡◌, ℕ, List, ◌++◌, Result, Ok, Err, OnErr, ap, append_assoc, ◌∙◌}
use Rattle.script_answers.specs.Appending.{AppendsSome}

-- a line after the others, and a reply's lines after it
pub lines_after : (start out line first now mid new : List ℕ) → now ≡ start ++ out → mid ≡ now ++ line → new ≡ mid ++ first →
    new ≡ start ++ (out ++ (line ++ first))
lines_after start out line first now mid new one two three =
    three ∙ ap (λ (l : List ℕ). l ++ first) (two ∙ ap (λ (l : List ℕ). l ++ line) one) ∙ append_assoc (start ++ out) line first ∙
    append_assoc start out (line ++ first)

-- bytes that were appended stay if nothing was removed
pub some_after : {X E : Type 0} (result : Result X E) (old part now new : List ℕ) → now ≡ old ++ part → OnErr result (new ≡ now) →
    OnErr result (AppendsSome old new)
some_after (Ok x) old part now new after same = tt
some_after (Err e) old part now new after same = (part, same ∙ after)

-- a fact holds on each error
pub on_each : {X E : Type 0} {P : Type 0} (result : Result X E) → P → OnErr result P
on_each (Ok x) p = tt
on_each (Err e) p = p
