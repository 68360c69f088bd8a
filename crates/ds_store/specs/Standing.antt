-- What the judge is passed about a store, in the machine's terms.
use Rattle.std.specs.Prelude.{ℕ, ◌&&◌, cond, is_none, nat_le, List, Option, Some, None}
use Rattle.std.specs.List.{find}
use Rattle.std.specs.Option.{option_copied, option_map}
use Rattle.ds_entry.specs.Change.{ChangeRecord}
use Rattle.ds_entry.specs.Floor.{floor_of}
use Rattle.ds_machine.specs.Order.{by_version}
use Rattle.ds_machine.specs.Standing as machine
use Rattle.ds_machine.specs.Standing.{against_change}
use Rattle.ds_machine.specs.declared.refusal.Cause.{Cause}
use Rattle.ds_machine.specs.declared.refusal.Cause.TheVariants.{Refused}
use Rattle.ds_machine.specs.declared.refusal.Refusal.TheVariants.{Full, Worn}
use Rattle.ds_store.specs.declared.standing.Standing.{Standing}
use Rattle.ds_store.specs.declared.standing.FloorStanding.{FloorStanding}
use Rattle.ds_names.specs.Limits.{last_place}

-- What a change meets.
abbrev pub machine_standing : Standing → machine.Standing
machine_standing t = record { held = option_copied t.held; void = t.void; count = t.count; most = t.most; position = t.position }

-- What a floor of this owner meets.
abbrev pub machine_floor_standing : List ℕ → FloorStanding → machine.FloorStanding
machine_floor_standing owner t = record { held = option_map (floor_of owner) t.held; count = t.count; position = t.position }

-- The first cause against the change by owner and version, from its key's held change and from floors.
abbrev pub cause_by_version : machine.Standing → ChangeRecord → Option Cause
cause_by_version t c = find (against_change t c) (by_version (Some c.version))

-- The first cause by the limits: all keys used, or no position left.
abbrev pub cause_by_room : machine.Standing → Option Cause
cause_by_room t =
    cond (is_none t.held && nat_le t.most t.count) (Some (Refused Full)) (cond (nat_le last_place t.position) (Some (Refused Worn)) None)
