-- Facts about tests that std doesn't have.
use Rattle.std.proofs.Common.{◌≡◌, Bool, true, false, ◌&&◌, Option, Some, None, is_some, refl, sym, ◌∙◌}
use Rattle.std.specs.declared.cmp.Ordering.{Ordering}
use Rattle.std.specs.declared.cmp.Ordering.TheVariants.{Less, Equal, Greater}
use Rattle.std.specs.Ordering.{is_eq, is_lt, ordering_reverse}
use lib.Dec.{T}

-- a test has one answer
pub opposed : {A : Type 0} (b : Bool) → b ≡ true → b ≡ false → A
opposed b t f = let differ : true ≡ false = sym t ∙ f in absurd (cc)

pub both : (a b : Bool) → T (a && b) → T a × T b
both true b p = (tt, p)
both false b p = absurd p

pub none_from : {X : Type 0} (o : Option X) → is_some o ≡ false → o ≡ None
none_from None e = refl
none_from (Some x) e = absurd (cc)

-- ---- orderings
pub equal_is : (o : Ordering) → is_eq o ≡ true → o ≡ Equal
equal_is Less e = absurd (cc)
equal_is Equal e = refl
equal_is Greater e = absurd (cc)

pub less_is : (o : Ordering) → is_lt o ≡ true → o ≡ Less
less_is Less e = refl
less_is Equal e = absurd (cc)
less_is Greater e = absurd (cc)

pub less_from : (r : Ordering) → T (is_lt r) → r ≡ Less
less_from Less l = refl
less_from Equal l = absurd l
less_from Greater l = absurd l

pub not_both : (r : Ordering) → is_eq r ≡ true → T (is_lt r) → ⊥
not_both Less e l = absurd (cc)
not_both Equal e l = l
not_both Greater e l = l

-- What is neither before nor equal is after.
pub turned : (o : Ordering) → is_lt o ≡ false → (o ≡ Equal → ⊥) → ordering_reverse o ≡ Less
turned Less e n = absurd (cc)
turned Equal e n = absurd (n refl)
turned Greater e n = refl
