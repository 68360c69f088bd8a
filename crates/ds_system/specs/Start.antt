-- A new system.
use Rattle.std.specs.Prelude.{◌≡◌, ℕ, ◌≤◌, List, [], ◌∷◌, length, replicate, codes, Option, Some, None}
use Rattle.std.specs.List.{filter_map, fold}
use Rattle.ds_held.specs.Limits.{larger}
use Rattle.ds_pattern.specs.declared.query.Query.{Query}
use Rattle.ds_pattern.specs.Under.{query_of}
use Rattle.rs_settings.specs.declared.class.Class.{Class}
use Rattle.rs_settings.specs.declared.class.Class.TheVariants.{Block, Character, Network, Server}
use Rattle.rs_settings.specs.declared.service.Service.{Service}
use Rattle.rs_settings.specs.Settings.{SettingsRecord, IsSettings}
use Rattle.rs_core.specs.declared.state.State.TheVariants.{Down}
use Rattle.rs_core.specs.Numbering.{numberer}
use Rattle.rs_core.specs.Slots.{new_slots}
use Rattle.rs_core.specs.State.{rs_of}
use Rattle.driver_tables.specs.declared.file_table.FileClass.TheVariants as files
use Rattle.driver_tables.specs.Assign.{assigning}
use Rattle.driver_tables.specs.Driver.{Driver, net_driver}
use Rattle.driver_tables.specs.DriverTable.{DriverTable, empty_table}
use Rattle.driver_tables.specs.FileDriver.{file_driver}
use Rattle.ds_replica.specs.declared.seed.Seed.{Seed}
use Rattle.ds_replica.specs.declared.event.Event.TheVariants.{NewMap}
use Rattle.ds_replica.specs.declared.outcome.Outcome.TheVariants.{MapMade}
use Rattle.ds_replica.specs.Happens.{HappenAll}
use Rattle.ds_replica.specs.Known.{Account, new_account, extended_all}
use Rattle.ds_replica.specs.World.{new_world}
use Rattle.ds_system.specs.System.{System}
use Rattle.ds_system.specs.Steps.{WorldEvents}
use Rattle.ds_system.specs.Happening.{SystemEntry, all_events}

abbrev pub labels_query : Query
labels_query = query_of (codes ".*") 1

-- The maps of both servers are made, the file server's first.
abbrev pub two_maps : WorldEvents
two_maps = (NewMap labels_query, MapMade 0) ∷ (NewMap labels_query, MapMade 1) ∷ []

-- The driver of a service of the class, at a file server and at a network server.
abbrev pub file_driver_of : Class → List ℕ → Option Driver
file_driver_of Block label = Some (file_driver files.Block label)
file_driver_of Character label = Some (file_driver files.Character label)
file_driver_of Network label = None
file_driver_of Server label = None

abbrev pub net_driver_of : Class → List ℕ → Option Driver
net_driver_of Network label = Some (net_driver label)
net_driver_of Block label = None
net_driver_of Character label = None
net_driver_of Server label = None

-- A unit with its driver, if there are both.
abbrev pub unit_with : Option ℕ → Option Driver → Option (ℕ × Driver)
unit_with (Some unit) (Some driver) = Some (unit, driver)
unit_with _ _ = None

-- The unit of a service at a file server, and at a network server.
abbrev pub file_unit : Service → Option (ℕ × Driver)
file_unit s = unit_with s.unit (file_driver_of s.class s.label)

abbrev pub net_unit : Service → Option (ℕ × Driver)
net_unit s = unit_with s.unit (net_driver_of s.class s.label)

-- The table of a server after these units were assigned, in order.
abbrev pub assigned_all : List (ℕ × Driver) → DriverTable
assigned_all units = fold (λ (t : DriverTable) (u : ℕ × Driver). (assigning t u.0 u.1).1) empty_table units

-- Whether the system is new: every service is down and drew no number; both stores are empty, and both maps exist; each
-- server has the settings' units, in order; no change was made.
pub record IsNew (settings : SettingsRecord) (a b : Seed) (next : ℕ) (s : System) : Type 0 where
  pub checked : IsSettings settings
  pub some : 1 ≤ next
  pub rs : s.rs ≡ rs_of settings (replicate (length settings.services) Down) 0 next (new_slots 16)
  pub numberers : s.numberers ≡ replicate (length settings.services) (numberer 0 0)
  pub world : HappenAll (new_world a b larger) two_maps s.world
  pub file : s.file ≡ assigned_all (filter_map file_unit settings.services)
  pub net : s.net ≡ assigned_all (filter_map net_unit settings.services)
  pub made : s.made ≡ []

-- A law: there is such a system for all checked settings, whatever the seeds.
abbrev pub NewSystemsExist : Type 0
NewSystemsExist =
    (settings : SettingsRecord) (a b : Seed) (next : ℕ) → IsSettings settings → 1 ≤ next → (s : System) × IsNew settings a b next s

-- The account of a system that began with these seeds, after these entries.
abbrev pub account_since : Seed → Seed → List SystemEntry → Account
account_since a b entries = extended_all (extended_all (new_account a b larger) two_maps) (all_events entries)
