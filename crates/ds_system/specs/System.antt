-- A system: RS, the numbers of its services, a world, two driver tables, and the changes that RS and the services made.
use Rattle.std.specs.Prelude.{ℕ, List}
use Rattle.ds_entry.specs.Change.{ChangeRecord}
use Rattle.ds_entry.specs.declared.item.Item.{Item}
use Rattle.rs_core.specs.State.{RsRecord}
use Rattle.rs_core.specs.Numbering.{NumbererRecord}
use Rattle.driver_tables.specs.DriverTable.{DriverTable}
use Rattle.ds_replica.specs.declared.event.Holder.TheVariants.{Map}
use Rattle.ds_replica.specs.World.{World, held_by}
use Rattle.ds_system.specs.declared.event.Table.{Table}
use Rattle.ds_system.specs.declared.event.Table.TheVariants.{File, Net}

pub record System : Type 0 where
  pub rs : RsRecord
  -- for each service, in the order of the settings, the numbers of the instance that drew one last
  pub numberers : List NumbererRecord
  pub world : World
  -- the file server's table and the network server's
  pub file : DriverTable
  pub net : DriverTable
  -- the changes that RS and the services made, in order, also those that a store refused
  pub made : List ChangeRecord

abbrev pub table_at : System → Table → DriverTable
table_at s File = s.file
table_at s Net = s.net

-- The system with a server's table replaced.
abbrev pub system_with_table : System → Table → DriverTable → System
system_with_table s File t = record s { file = t }
system_with_table s Net t = record s { net = t }

-- The number of the map that a server follows.
abbrev pub map_number : Table → ℕ
map_number File = 0
map_number Net = 1

-- The items that this map holds.
abbrev pub followed_items : System → Table → List Item
followed_items s table = held_by s.world (Map (map_number table))
