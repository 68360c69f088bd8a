-- What callers see of a system, and the systems that this value stands for.
use Rattle.std.specs.Prelude.{◌≡◌, List}
use Rattle.ds_entry.specs.Change.{ChangeRecord}
use Rattle.rs_core.specs.State.{RsRecord}
use Rattle.rs_core.specs.Numbering.{NumbererRecord}
use Rattle.driver_tables.specs.Stands.{TableRecord, TableStands}
use Rattle.ds_world.specs.World.{WorldRecord, WorldStands}
use Rattle.ds_world.specs.Told.{AreTold}
use Rattle.ds_system.specs.declared.event.Table.{Table}
use Rattle.ds_system.specs.declared.event.Table.TheVariants.{File, Net}
use Rattle.ds_system.specs.declared.event.SystemEvent.{SystemEvent}
use Rattle.ds_system.specs.declared.outcome.SystemOutcome.{SystemOutcome}
use Rattle.ds_system.specs.System.{System}
use Rattle.ds_system.specs.Steps.{Steps}
use Rattle.ds_system.specs.Happening.{SystemDoes}

pub record SystemRecord : Type 0 where
  pub rs : RsRecord
  pub numberers : List NumbererRecord
  pub world : WorldRecord
  pub file : TableRecord
  pub net : TableRecord
  pub made : List ChangeRecord

-- The record of these parts.
abbrev pub system_of : RsRecord → List NumbererRecord → WorldRecord → TableRecord → TableRecord → List ChangeRecord → SystemRecord
system_of rs numberers world file net made = record { rs = rs; numberers = numberers; world = world; file = file; net = net; made = made }

abbrev pub kept_table : SystemRecord → Table → TableRecord
kept_table value File = value.file
kept_table value Net = value.net

-- The value with a server's table replaced.
abbrev pub keeping_table : SystemRecord → Table → TableRecord → SystemRecord
keeping_table value File t = record value { file = t }
keeping_table value Net t = record value { net = t }

-- RS, the numbers and the made changes are the system's; the world and the tables stand for the system's.
pub record SystemStands (value : SystemRecord) (s : System) : Type 0 where
  pub rs : s.rs ≡ value.rs
  pub numberers : s.numberers ≡ value.numberers
  pub world : WorldStands value.world s.world
  pub file : TableStands value.file s.file
  pub net : TableStands value.net s.net
  pub made : s.made ≡ value.made

-- The event leads with this outcome from each system that the old value stands for to one that the new value stands
-- for, and the world reports each of its own events among the steps as a world does.
abbrev pub SystemEventLeads : SystemEvent → SystemOutcome → SystemRecord → SystemRecord → Type 0
SystemEventLeads event outcome old new =
    (s : System) → SystemStands old s →
    (t : System) × (steps : Steps) × SystemDoes s event outcome steps t × SystemStands new t × AreTold old.world steps.events new.world
