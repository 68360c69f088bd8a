-- The front of a list that a loop has walked.
use Rattle.std.proofs.Common.{◌≡◌, ℕ, ◌+◌, ◌≤◌, min, take, arith, List, [], ◌∷◌, ◌++◌, length, Some, sym, ap, ◌∙◌}
use Rattle.std.specs.List.{slice_get}
use Rattle.std.proofs.lemmas.List.{length-take, take_more}
use Rattle.std.proofs.lemmas.Option.{slice_get_within, get_or_from_slice_get}

pub less_taken : {X : Type 0} (xs : List X) (i : ℕ) → length (take i xs) ≤ i
less_taken xs i = let e : length (take i xs) ≡ min i (length xs) = length-take i xs in omega (arith, e)

-- the elements before an index, and the one at it
pub next_taken : {X : Type 0} (xs : List X) (i : ℕ) (x : X) → slice_get xs i ≡ Some x → take i xs ++ x ∷ [] ≡ take (i + 1) xs
next_taken {X} xs i x e = sym (take_more xs i x (slice_get_within xs i x e) ∙
    ap (λ (y : X). take i xs ++ y ∷ []) (get_or_from_slice_get xs i x x e))
