use Rattle.std.proofs.Common.{◌≡◌, drop}
use Rattle.std.specs.List.{find}
use Rattle.driver_tables.specs.Devices.{is_of_label}
use Rattle.driver_tables.proofs.device.first_of.Given as goal

abbrev pub invariant-loop-i : goal.invariant-loop-i
invariant-loop-i l = find (is_of_label l.label) (drop l.i l.devices.entries) ≡ find (is_of_label l.label) l.devices.entries
