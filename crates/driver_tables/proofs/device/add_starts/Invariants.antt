use Rattle.std.proofs.Common.{◌≡◌, ◌++◌, take}
use Rattle.std.specs.List.{filter_map}
use Rattle.driver_tables.specs.Devices.{start_move}
use Rattle.driver_tables.proofs.device.add_starts.Given as goal

abbrev pub invariant-loop-i : goal.invariant-loop-i
invariant-loop-i l = l.moves ≡ l.initial.moves ++ filter_map (start_move l.label l.state) (take l.i l.devices.entries)
