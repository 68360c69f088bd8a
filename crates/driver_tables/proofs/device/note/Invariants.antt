use Rattle.std.proofs.Common.{◌≡◌}
use Rattle.driver_tables.specs.Devices.{noted}
use Rattle.driver_tables.proofs.ListLemmas.{half}
use Rattle.driver_tables.proofs.device.note.Given as goal

abbrev pub invariant-loop-i : goal.invariant-loop-i
invariant-loop-i l = l.devices.entries ≡ half (noted l.label l.state) l.i l.initial.devices.entries
