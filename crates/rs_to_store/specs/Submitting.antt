-- How a driver table follows a map and then takes a request.
use Rattle.std.specs.Prelude.{◌≡◌, ℕ, List, ◌++◌, Option, Some, None, Result, Err}
use Rattle.std.specs.List.{flat_map}
use Rattle.ds_entry.specs.declared.item.Item.{Item}
use Rattle.driver_tables.specs.declared.moves.Move.{Move}
use Rattle.driver_tables.specs.declared.fault.TableFault.{TableFault}
use Rattle.driver_tables.specs.DriverTable.{DriverTable}
use Rattle.driver_tables.specs.Room.{LacksOnlyWhere, RequestTakesMemory}
use Rattle.driver_tables.specs.Run.{Call, TableStep}
use Rattle.driver_tables.specs.Run as calls
use Rattle.driver_tables.specs.Stands.{TableRecord, TableStands}
use Rattle.rs_to_store.specs.Following.{labels_of, Follows}

-- The moves of rounds, in order.
abbrev pub all_in : List (List Move) → List Move
all_in rounds = flat_map (λ (moves : List Move). moves) rounds

-- Unless something ended earlier, a table takes a call.
abbrev pub CallsNext : Option TableFault → Call → DriverTable → Result (List Move) TableFault → DriverTable → Type 0
CallsNext None call t answer u = TableStep t call answer u
CallsNext (Some stop) call t answer u = (answer ≡ Err stop) × (u ≡ t)

-- Unless something ended earlier, memory ran out only for a request that stays pending.
abbrev pub LacksRoomNext : Option TableFault → ℕ → ℕ → DriverTable → Result (List Move) TableFault → Type 0
LacksRoomNext None id unit t answer = LacksOnlyWhere (RequestTakesMemory t id unit) answer
LacksRoomNext (Some stop) id unit t answer = Unit {0}

-- A table follows a map that holds these items, and then takes a request.
pub record FollowsAndTakes (held : List Item) (id unit : ℕ) (t : DriverTable) (rounds : List (List Move))
    (own : Result (List Move) TableFault) (u : DriverTable) : Type 0 where
  pub mid : DriverTable
  pub stop : Option TableFault
  pub follows : Follows held (labels_of t) t rounds stop mid
  pub takes : CallsNext stop (calls.Submit id unit) mid own u
  pub room : LacksRoomNext stop id unit mid own

-- A table followed a map that holds these items, and then took a request: the rounds of the follow are appended to those before, and the
-- new value stands for the table after it.
abbrev pub FollowedAndTaken : List Item → ℕ → ℕ → (old new : TableRecord) → (before after : List (List Move)) →
    Result (List Move) TableFault → Type 0
FollowedAndTaken held id unit old new before after own =
    (t : DriverTable) → TableStands old t →
    (u : DriverTable) × (rounds : List (List Move)) × (after ≡ before ++ rounds) × FollowsAndTakes held id unit t rounds own u ×
    TableStands new u
