-- The effects of follows and requests on what the code keeps, for each table that a value stands for.
use Rattle.std.specs.Prelude.{◌≡◌, List, Option, Some, None}
use Rattle.ds_entry.specs.declared.item.Item.{Item}
use Rattle.driver_tables.specs.declared.fault.TableFault.{TableFault}
use Rattle.driver_tables.specs.declared.moves.Move.{Move}
use Rattle.driver_tables.specs.Stands.{TableRecord}
use Rattle.rs_to_store.specs.Following.{HasFollowed}

-- Whether a table, unless something ended earlier, followed a map, and its rounds were appended.
abbrev pub FollowedNext : Option TableFault → List Item → (old new : TableRecord) →
    (before after : List (List Move)) → Option TableFault → Type 0
FollowedNext None held old new before after fault = HasFollowed held old new before after fault
FollowedNext (Some stop) held old new before after fault = (after ≡ before) × (fault ≡ Some stop) × (new ≡ old)

-- Whether the file server's table followed first, and then, unless something ended that, the network server's.
abbrev pub BothFollowed : List Item → (file_old file_new net_old net_new : TableRecord) →
    (before after : List (List Move)) → Option TableFault → Type 0
BothFollowed held file_old file_new net_old net_new before after fault =
    (mid : List (List Move)) × (stop : Option TableFault) ×
    HasFollowed held file_old file_new before mid stop × FollowedNext stop held net_old net_new mid after fault
