-- Two bridges hold the same.
use Rattle.std.specs.Prelude.{◌≡◌, ℕ, List, ◌++◌}
use Rattle.ds_entry.specs.ItemCovers.{covers, AreSingleNumbered}
use Rattle.ds_entry.specs.declared.item.Item.{Item}
use Rattle.ds_join.specs.ItemTop.{IsTop}
use Rattle.fleet_rule.specs.Covered.{Joins}
use Rattle.fleet_rule.specs.Fleet.{Fleet}
use Rattle.fleet_rule.specs.Happens.{Event, HappenAll, IsNew, bridge_at}
use Rattle.fleet_rule.specs.Laws.{HasRead, HasSent}

-- A law: two bridges that have read the log and sent everything hold the same items, if each holds a top of what it got, as every
-- store does, and no two of the changes that they hold contradict each other.
abbrev pub BridgesHoldTheSame : Type 0
BridgesHoldTheSame =
    (w x : Fleet Item) (es : List (Event Item)) (j k : ℕ) (one other : List Item) → IsNew covers w → HappenAll covers w es x →
    HasRead x j → HasRead x k → HasSent x j → HasSent x k → IsTop (bridge_at x j).held one → IsTop (bridge_at x k).held other →
    AreSingleNumbered ((bridge_at x j).held ++ (bridge_at x k).held) → (bridge_at x j).held ≡ (bridge_at x k).held

-- A law: a store that holds the top of what it held and of what it got is one that only joins.
abbrev pub TopsJoin : Type 0
TopsJoin = (new old items : List Item) → IsTop new (old ++ items) → Joins covers new old items

-- A law: likewise a store that held the top of all that it knew and holds the top of that and of what it got, if no two of the
-- changes contradict each other.
abbrev pub TopsOfAllJoin : Type 0
TopsOfAllJoin =
    (known items old new : List Item) → AreSingleNumbered (known ++ items) → IsTop old known → IsTop new (known ++ items) →
    Joins covers new old items
