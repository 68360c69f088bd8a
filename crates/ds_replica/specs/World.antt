-- A world: two stores, subscribers' maps, and messages.
use Rattle.std.specs.Prelude.{◌∷◌, ◌++◌, List, [], Option, Some, None}
use Rattle.std.specs.List.{slice_get}
use Rattle.ds_entry.specs.declared.item.Item.{Item}
use Rattle.ds_held.specs.Limits.{LimitsRecord}
use Rattle.ds_pattern.specs.declared.query.Query.{Query}
use Rattle.ds_machine.specs.State.{State, held, opening}
use Rattle.ds_replica.specs.declared.seed.Seed.{Seed}
use Rattle.ds_replica.specs.declared.event.Side.{Side}
use Rattle.ds_replica.specs.declared.event.Side.TheVariants.{A, B}
use Rattle.ds_replica.specs.declared.event.Holder.{Holder}
use Rattle.ds_replica.specs.declared.event.Holder.TheVariants.{Store, Map}

-- A subscriber's map: its query, and what it holds.
pub record MapState : Type 0 where
  pub query : Query
  pub held : List Item

-- A world: the states of its stores and maps, and the items of each message.
pub record World : Type 0 where
  pub a : State
  pub b : State
  pub maps : List MapState
  pub messages : List (List Item)

abbrev pub store_at : World → Side → State
store_at w A = w.a
store_at w B = w.b

-- What a map holds; nothing if there is no such map.
abbrev pub map_held : Option MapState → List Item
map_held None = []
map_held (Some m) = m.held

-- What a holder holds.
abbrev pub held_by : World → Holder → List Item
held_by w (Store side) = held (store_at w side)
held_by w (Map j) = map_held (slice_get w.maps j)

-- The world with another state of one store.
abbrev pub with_state : World → Side → State → World
with_state w A s = record w { a = s }
with_state w B s = record w { b = s }

-- The world with one more message, if there is one.
abbrev pub with_items : World → Option (List Item) → World
with_items w None = w
with_items w (Some items) = record w { messages = w.messages ++ items ∷ [] }

-- A world that was just made: empty stores, no maps, no messages.
abbrev pub new_world : Seed → Seed → LimitsRecord → World
new_world a b limits = record {
  a = opening a.incarnation a.first a.ring limits;
  b = opening b.incarnation b.first b.ring limits;
  maps = [];
  messages = [];
}
