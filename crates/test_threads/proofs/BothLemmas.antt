-- What is there together with another.
use Rattle.std.proofs.Common.{Option, None, Some, Result, Ok, Err, IfSome, IfOk, ◌≡◌, subst, sym}
use Rattle.std.specs.Option.{option_zip}
use Rattle.std.specs.Result.{result_ok}

zipped_hold : {A B : Type 0} (P : A → Type 0) (Q : B → Type 0) (a : Option A) (b : Option B) → IfSome a P → IfSome b Q →
    IfSome (option_zip a b) (λ it. P it.0 × Q it.1)
zipped_hold P Q None b p q = tt
zipped_hold P Q (Some x) None p q = tt
zipped_hold P Q (Some x) (Some y) p q = (p, q)

-- what holds of each holds of both
pub both_hold : {A B : Type 0} (P : A → Type 0) (Q : B → Type 0) (a : Option A) (b : Option B) (both : Option (A × B)) →
    both ≡ option_zip a b → IfSome a P → IfSome b Q → IfSome both (λ it. P it.0 × Q it.1)
both_hold P Q a b both same p q = subst (λ o. IfSome o (λ it. P it.0 × Q it.1)) (sym same) (zipped_hold P Q a b p q)

given_holds : {A E : Type 0} (P : A → Type 0) (r : Result A E) → IfOk r P → IfSome (result_ok r) P
given_holds P (Ok x) p = p
given_holds P (Err e) p = tt

-- what holds of what a result gives
pub ok_holds : {A E : Type 0} (P : A → Type 0) (r : Result A E) (o : Option A) → o ≡ result_ok r → IfOk r P → IfSome o P
ok_holds P r o same p = subst (λ o. IfSome o P) (sym same) (given_holds P r p)
