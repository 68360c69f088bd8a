-- Tests of numbers, names and booleans.
use Rattle.std.proofs.Common.{◌≡◌, ℕ, ◌==◌, nat_lt, ◌||◌, Bool, true, false, List, [], ◌∷◌, refl, sym, arith}
use Rattle.std.proofs.lemmas.Bool.Decides.{nat_tests}
use Rattle.std.specs.Cmp.Lexicographic.{same_text}
use Rattle.ds_names.specs.Name.{is_same_name}

pub equal_number : (m n : ℕ) → m == n ≡ true → m ≡ n
equal_number m n e = grind (arith, nat_tests)

pub equal_itself : (n : ℕ) → n == n ≡ true
equal_itself n = grind (arith, nat_tests)

pub equal_turned : (m n : ℕ) → m == n ≡ n == m
equal_turned m n = grind (arith, nat_tests)

pub below_differs : (m n : ℕ) → nat_lt m n ≡ true → m == n ≡ false
below_differs m n l = grind (arith, nat_tests)

pub below_trans : (i j k : ℕ) → nat_lt i j ≡ true → nat_lt j k ≡ true → nat_lt i k ≡ true
below_trans i j k h l = grind (arith, nat_tests)

pub same_name : (a b : List ℕ) → is_same_name a b ≡ true → a ≡ b
same_name a b e = same_text a b (sym e)

pub name_itself : (a : List ℕ) → is_same_name a a ≡ true
name_itself [] = refl
name_itself (n ∷ ns) = cc (equal_itself n, name_itself ns)

pub or_nothing : (b : Bool) → b || false ≡ b
or_nothing true = refl
or_nothing false = refl
