-- What tests return.
use Rattle.std.proofs.Common.{Bool, true, false, ◌≡◌, ℕ, ◌<◌, ◌≤◌, refl, sym, ◌∙◌, arith}
use Rattle.std.specs.Prelude.{not, nat_eq, nat_lt, nat_le}
use Rattle.std.proofs.lemmas.Bool.{false≢true, eqb-true}
use Rattle.std.proofs.lemmas.Bool.Decides.{nat_tests}

pub is_false : (b : Bool) → b ≡ false → b ≡ true → ⊥
is_false b isnt is = false≢true (sym isnt ∙ is)

pub not_then : (b : Bool) → not b ≡ true → b ≡ true → ⊥
not_then true h k = false≢true h
not_then false h k = false≢true k

pub not_since : (b : Bool) → (b ≡ true → ⊥) → not b ≡ true
not_since true h = absurd (h refl)
not_since false h = refl

pub above_zero : (n : ℕ) → not (nat_eq n 0) ≡ true → 0 < n
above_zero n h = grind (arith, nat_tests, h)

pub zero_above : (n : ℕ) → 0 < n → not (nat_eq n 0) ≡ true
zero_above n h = grind (arith, nat_tests, h)

pub at_most : (n m : ℕ) → nat_le n m ≡ true → n ≤ m
at_most n m h = grind (arith, nat_tests, h)

pub most_at : (n m : ℕ) → n ≤ m → nat_le n m ≡ true
most_at n m h = grind (arith, nat_tests, h)

pub is_below : (n m : ℕ) → nat_lt n m ≡ true → n < m
is_below n m h = grind (arith, nat_tests, h)

pub is_number : (n m : ℕ) → nat_eq n m ≡ true → n ≡ m
is_number n m h = eqb-true n m h

pub number_is : (n m : ℕ) → n ≡ m → nat_eq n m ≡ true
number_is n m h = grind (arith, nat_tests, h)
