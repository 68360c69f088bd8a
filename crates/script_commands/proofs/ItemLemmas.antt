-- The lines of items, one by one.
use Rattle.std.proofs.Common.{◌≡◌, ◌≢◌, ℕ, zero, suc, ◌<◌, None, List, [], ◌∷◌, ◌++◌, length, take, Some, ap, arith}
use Rattle.std.specs.List.{slice_get}
use Rattle.std.proofs.lemmas.Option.{same_Some}

pub got_more : {X : Type 0} (xs : List X) (i : ℕ) (x : X) → slice_get xs i ≡ Some x → take (suc i) xs ≡ take i xs ++ x ∷ []
got_more [] i x h = absurd (cc)
got_more (y ∷ ys) zero x h = ap (λ z. z ∷ []) (same_Some y x h)
got_more (y ∷ ys) (suc i) x h = ap (λ l. y ∷ l) (got_more ys i x h)

pub got_none : {X : Type 0} (xs : List X) (i : ℕ) → i < length xs → slice_get xs i ≢ None
got_none [] i lt h = omega (arith, lt)
got_none (y ∷ ys) zero lt h = cc
got_none (y ∷ ys) (suc i) lt h = got_none ys i (omega (arith, lt)) h
