use Rattle.std.proofs.Common.{◌≡◌, ◌++◌, take}
use Rattle.std.specs.List.{filter_map}
use Rattle.driver_tables.specs.Requests.{settled_in}
use Rattle.driver_tables.proofs.request.add_settled.Given as goal

abbrev pub invariant-loop-p : goal.invariant-loop-p
invariant-loop-p l = l.moves ≡ l.initial.moves ++ filter_map (settled_in l.devices.entries l.label l.state) (take l.p-index l.p-items)
