-- The beginning of a system.
use Rattle.std.specs.Prelude.{◌≡◌, ◌<◌, ◌≤◌, ◌⊎◌, ◌++◌, ℕ, List, [], length, replicate, Option, Result, OnOk}
use Rattle.std.specs.List.{cons_option, filter_map}
use Rattle.ds_names.specs.declared.room.NoRoom as room
use Rattle.rs_core.specs.declared.state.State.TheVariants.{Down}
use Rattle.rs_core.specs.Slots.{new_slots}
use Rattle.rs_core.specs.State.{RsRecord, rs_of}
use Rattle.rs_core.specs.Numbering.{numberer}
use Rattle.driver_tables.specs.Driver.{Driver}
use Rattle.driver_tables.specs.Stands.{TableRecord, TableStands}
use Rattle.rs_settings.specs.Settings.{SettingsRecord, IsSettings}
use Rattle.ds_held.specs.Limits.{larger}
use Rattle.ds_replica.specs.declared.seed.Seed.{Seed}
use Rattle.ds_replica.specs.World.{World, new_world}
use Rattle.ds_replica.specs.Happens.{HappenAll}
use Rattle.ds_replica.specs.declared.event.Event.TheVariants.{NewMap}
use Rattle.ds_replica.specs.declared.outcome.Outcome.TheVariants.{MapMade}
use Rattle.ds_world.specs.World.{WorldRecord, WorldStands}
use Rattle.ds_world.specs.Run.{EventLeads}
use Rattle.ds_world.specs.declared.fault.SeedFault.{SeedFault}
use Rattle.ds_world.specs.declared.fault.SeedFault.TheVariants as seeds
use Rattle.ds_world.specs.Seeds.{AreSeeds, IsSeedFault}
use Rattle.ds_system.specs.Start.{labels_query, two_maps, file_unit, net_unit, assigned_all}
use Rattle.ds_system.specs.declared.fault.BeginFault.{BeginFault}
use Rattle.ds_system.specs.declared.fault.BeginFault.TheVariants.{OutOfRange, BadRing, BadFirst, OldIncarnation, NoRoom}
use Rattle.ds_system.specs.Stands.{SystemRecord}

-- A map of all labels is made: it leads from each world that the old value stands for to one that the new value stands
-- for.
abbrev pub MakesLabelMap : WorldRecord → WorldRecord → Type 0
MakesLabelMap old new = (map : ℕ) × EventLeads (NewMap labels_query) (MapMade map) old new

-- Both maps are made, from each world without maps that the old value stands for to one that the new value stands for.
abbrev pub MakesTwoMaps : WorldRecord → WorldRecord → Type 0
MakesTwoMaps old new = (w : World) → WorldStands old w → w.maps ≡ [] → (after : World) × HappenAll w two_maps after × WorldStands new after

-- The value stands for the world of two seeds in which both maps were made.
abbrev pub HasBothMaps : Seed → Seed → WorldRecord → Type 0
HasBothMaps a b world = (after : World) × HappenAll (new_world a b larger) two_maps after × WorldStands world after

-- RS with every service down.
abbrev pub resting_rs : SettingsRecord → ℕ → RsRecord
resting_rs settings next = rs_of settings (replicate (length settings.services) Down) 0 next (new_slots 16)

-- If the old value stands for a table with these units assigned, and nothing was refused, the new value stands for that
-- table with one more unit, if there is one.
abbrev pub AddsUnit : Option (ℕ × Driver) → (old new : TableRecord) → Result (Unit {0}) room.NoRoom → Type 0
AddsUnit unit old new result =
    (units : List (ℕ × Driver)) → TableStands old (assigned_all units) →
    OnOk result (TableStands new (assigned_all (units ++ cons_option unit [])))

-- The value has RS at rest, no drawn numbers, this world, the tables of the settings' units, and no made change.
pub record BeginsOver (settings : SettingsRecord) (next : ℕ) (world : WorldRecord) (value : SystemRecord) : Type 0 where
  pub checked : IsSettings settings
  pub rs : value.rs ≡ resting_rs settings next
  pub numberers : value.numberers ≡ replicate (length settings.services) (numberer 0 0)
  pub same : value.world ≡ world
  pub file : TableStands value.file (assigned_all (filter_map file_unit settings.services))
  pub net : TableStands value.net (assigned_all (filter_map net_unit settings.services))
  pub made : value.made ≡ []

-- RS can start something from this generation on.
pub record IsFirstGeneration (next : ℕ) : Type 0 where
  pub some : 1 ≤ next
  pub few : next ≤ 2097152

-- A system can begin: RS can start something, and two stores can be opened with the seeds.
pub record CanBegin (a b : Seed) (next : ℕ) : Type 0 where
  pub first : IsFirstGeneration next
  pub seeds : AreSeeds a b

-- Why a system can't begin: the first generation first, then the seeds; NoRoom only if there is no other cause.
abbrev pub IsBeginFault : BeginFault → Seed → Seed → ℕ → Type 0
IsBeginFault OutOfRange a b next = (next < 1) ⊎ (2097152 < next)
IsBeginFault BadRing a b next = IsFirstGeneration next × IsSeedFault seeds.BadRing a b
IsBeginFault BadFirst a b next = IsFirstGeneration next × IsSeedFault seeds.BadFirst a b
IsBeginFault OldIncarnation a b next = IsFirstGeneration next × IsSeedFault seeds.OldIncarnation a b
IsBeginFault NoRoom a b next = CanBegin a b next

-- A fault of a world's seeds, as one of a system that can't begin.
abbrev pub begin_fault_of : SeedFault → BeginFault
begin_fault_of seeds.BadRing = BadRing
begin_fault_of seeds.BadFirst = BadFirst
begin_fault_of seeds.OldIncarnation = OldIncarnation
begin_fault_of seeds.NoRoom = NoRoom
