-- What lines for RS and tables drive: RS, once there are settings, and the driver tables of both servers.
use Rattle.std.specs.Prelude.{◌≡◌, Option, None}
use Rattle.rs_core.specs.State.{RsRecord}
use Rattle.driver_tables.specs.DriverTable.{DriverTable, empty_table}
use Rattle.driver_tables.specs.Stands.{TableRecord, TableStands}
use Rattle.script_commands.specs.declared.service.Server.{Server}
use Rattle.script_commands.specs.declared.service.Server.TheVariants.{File, Net}

pub record Servers : Type 0 where
  -- RS's state, once settings are accepted
  pub services : Option RsRecord
  pub file : DriverTable
  pub net : DriverTable

-- No accepted settings, and no assigned unit.
abbrev pub no_servers : Servers
no_servers = record { services = None; file = empty_table; net = empty_table }

-- The table of a server.
abbrev pub server_table : Servers → Server → DriverTable
server_table s File = s.file
server_table s Net = s.net

-- The servers with one table replaced.
abbrev pub with_table : Servers → Server → DriverTable → Servers
with_table s File t = record s { file = t }
with_table s Net t = record s { net = t }

-- The servers with RS's state replaced.
abbrev pub with_rs : Servers → Option RsRecord → Servers
with_rs s services = record s { services = services }

-- The value of the servers: what the code keeps of them.
pub record ServersRecord : Type 0 where
  pub services : Option RsRecord
  pub file : TableRecord
  pub net : TableRecord

-- The record of these parts.
abbrev pub servers_of : Option RsRecord → TableRecord → TableRecord → ServersRecord
servers_of services file net = record { services = services; file = file; net = net }

-- Whether RS is the value's, and the value's tables stand for the tables.
pub record ServersStand (value : ServersRecord) (s : Servers) : Type 0 where
  pub services : s.services ≡ value.services
  pub file : TableStands value.file s.file
  pub net : TableStands value.net s.net

-- Whether R leads from all servers that the old value stands for to servers that the new value stands for.
abbrev pub ServersLead : (Servers → Servers → Type 0) → ServersRecord → ServersRecord → Type 0
ServersLead R old new = (s : Servers) → ServersStand old s → (t : Servers) × R s t × ServersStand new t
