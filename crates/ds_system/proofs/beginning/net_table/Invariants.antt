use Rattle.std.proofs.Common.{take}
use Rattle.std.specs.List.{filter_map}
use Rattle.driver_tables.specs.Stands.{TableStands}
use Rattle.ds_system.specs.Start.{net_unit, assigned_all}
use Rattle.ds_system.proofs.beginning.net_table.Given as goal

-- the units of the services before the index are assigned
abbrev pub invariant-loop-index : goal.invariant-loop-index
invariant-loop-index l = TableStands l.table (assigned_all (filter_map net_unit (take l.index l.settings.services)))
