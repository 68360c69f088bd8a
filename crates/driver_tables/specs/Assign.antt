-- The assignment of a unit.
use Rattle.std.specs.Prelude.{if◌then◌else◌, ℕ, [], ◌∷◌, ◌++◌, is_some, Result, Ok, Err}
use Rattle.driver_tables.specs.declared.fault.TableFault.{TableFault}
use Rattle.driver_tables.specs.declared.fault.TableFault.TheVariants.{Assigned}
use Rattle.driver_tables.specs.Driver.{Driver, driver_of}
use Rattle.driver_tables.specs.DriverTable.{DriverTable}

-- The table with the unit appended.
abbrev pub assigns : DriverTable → ℕ → Driver → DriverTable
assigns t unit driver = record t { units = t.units ++ (unit, driver) ∷ [] }

-- The answer to an assignment, and the table after it.
abbrev pub assigning : DriverTable → ℕ → Driver → Result (Unit {0}) TableFault × DriverTable
assigning t unit driver = if is_some (driver_of t.units unit) then (Err Assigned, t) else (Ok tt, assigns t unit driver)
