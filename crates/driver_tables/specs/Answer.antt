-- The answers that a call may have.
use Rattle.std.specs.Prelude.{◌≡◌, Result, Ok, Err}
use Rattle.driver_tables.specs.declared.fault.TableFault.{TableFault}
use Rattle.driver_tables.specs.declared.fault.TableFault.TheVariants.{NoRoom}

-- The answer is `out`, or NoRoom if `out` isn't a refusal.
abbrev pub IsAnswer : {A : Type 0} → Result A TableFault → Result A TableFault → Type 0
IsAnswer {A} out (Err NoRoom) = (a : A) × (out ≡ Ok a)
IsAnswer out answer = answer ≡ out
