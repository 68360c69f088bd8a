-- What callers see of a world, and which worlds of the definitions it stands for.
use Rattle.std.specs.Prelude.{◌≡◌, ℕ, true, List, map, Option, Some, is_some}
use Rattle.std.specs.List.{slice_get}
use Rattle.std.specs.Option.{option_map, option_and_then}
use Rattle.ds_entry.specs.declared.item.Item.{Item}
use Rattle.ds_held.specs.Held.{held_items}
use Rattle.ds_submap.specs.Map.{SubMapRecord}
use Rattle.ds_content.specs.Content.{ContentRecord}
use Rattle.ds_content.specs.Stands as contents
use Rattle.ds_replica.specs.declared.event.Side.{Side}
use Rattle.ds_replica.specs.declared.event.Side.TheVariants.{A, B}
use Rattle.ds_replica.specs.declared.event.Holder.{Holder}
use Rattle.ds_replica.specs.declared.event.Holder.TheVariants.{Store, Map}
use Rattle.ds_machine.specs.declared.reply.Reply.{Reply}
use Rattle.ds_replica.specs.World.{MapState, World, map_held}
use Rattle.ds_replica.specs.Happens.{items_given}

-- The value of a world: its stores, its maps, and its messages, which are the stores' replies.
pub record WorldRecord : Type 0 where
  pub a : ContentRecord
  pub b : ContentRecord
  pub maps : List SubMapRecord
  pub messages : List Reply

-- The world of these parts.
abbrev pub world_of : ContentRecord → ContentRecord → List SubMapRecord → List Reply → WorldRecord
world_of a b maps messages = record { a = a; b = b; maps = maps; messages = messages }

-- The store of a side.
abbrev pub store_in : WorldRecord → Side → ContentRecord
store_in value A = value.a
store_in value B = value.b

-- A map's query, and what it holds.
abbrev pub map_state : SubMapRecord → MapState
map_state m = record { query = m.query; held = held_items m.held }

-- What a holder holds; nothing if there is no such map.
abbrev pub held_in : WorldRecord → Holder → List Item
held_in value (Store side) = (store_in value side).held
held_in value (Map j) = map_held (option_map map_state (slice_get value.maps j))

-- Whether the reply has items, as every message does.
abbrev pub HasItems : Reply → Type 0
HasItems reply = is_some (items_given reply) ≡ true

-- The items of the message with this number, if there is one.
abbrev pub kept_items : List Reply → ℕ → Option (List Item)
kept_items messages k = option_and_then items_given (slice_get messages k)

-- Whether the stores' contents stand for the world's stores, the maps are the world's, and each message has the items
-- that it has in the world.
pub record WorldStands (value : WorldRecord) (w : World) : Type 0 where
  pub a : contents.ContentStands value.a w.a
  pub b : contents.ContentStands value.b w.b
  pub maps : w.maps ≡ map map_state value.maps
  pub messages : map items_given value.messages ≡ map Some w.messages

-- Whether each world that the old value stands for leads to one that the new value stands for.
abbrev pub Leads : (World → World → Type 0) → WorldRecord → WorldRecord → Type 0
Leads R old new = (w : World) → WorldStands old w → (after : World) × R w after × WorldStands new after
