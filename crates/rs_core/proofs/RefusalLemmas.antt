-- What never refuses an event.
use Rattle.std.proofs.Common.{◌≡◌, ℕ, Bool, true, false, cond, List, [], ◌∷◌, Some, refl, sym, ap, ◌∙◌}
use Rattle.std.specs.List.{find}
use Rattle.std.proofs.lemmas.Option.{same_Some}
use Rattle.rs_core.specs.declared.event.Event.{Event}
use Rattle.rs_core.specs.declared.fault.RsFault.{RsFault}
use Rattle.rs_core.specs.declared.fault.RsFault.TheVariants.{NoRoom}
use Rattle.rs_core.specs.State.{RsRecord}
use Rattle.rs_core.specs.Judging.{order, against, refusal}

-- what is found passes
passes : (p : RsFault → Bool) (xs : List RsFault) (x : RsFault) → find p xs ≡ Some x → p x ≡ true
passes p [] x h = absurd (cc)
passes p (y ∷ ys) x h = by_test (p y) refl h (passes p ys x)
  where
    by_test : (b : Bool) → p y ≡ b → cond b (Some y) (find p ys) ≡ Some x → (find p ys ≡ Some x → p x ≡ true) → p x ≡ true
    by_test true e q rest = ap p (sym (same_Some y x q)) ∙ e
    by_test false e q rest = rest q

-- lack of memory is never a fault against an event
pub never_room : (s : RsRecord) (event : Event) (tick : ℕ) → refusal s event tick ≡ Some NoRoom → ⊥
never_room s event tick e = let q : false ≡ true = passes (against s event tick) order NoRoom e in cc
