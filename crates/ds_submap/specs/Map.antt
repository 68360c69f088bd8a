-- A subscriber's map, and what is read of it.
use Rattle.std.specs.Prelude.{◌≡◌, ℕ, List, Option, All, IsTrue, option_and_then}
use Rattle.ds_names.specs.Endpoint.{EndpointRecord}
use Rattle.ds_entry.specs.Item.{passes}
use Rattle.ds_held.specs.Held.{Holding, held_for, held_items, nothing_held, IsSound}
use Rattle.ds_held.specs.Limits.{larger}
use Rattle.ds_pattern.specs.declared.query.Query.{Query}
use Rattle.ds_pattern.specs.Under.{is_under}
use Rattle.ds_names.specs.Key.{label_key}
use Rattle.ds_entry.specs.Left.{value_of, endpoint_of_value}

-- A query, and what is held of the items under it.
pub record SubMapRecord : Type 0 where
  pub query : Query
  pub held : Holding

-- The map of these parts.
abbrev pub map_of : Query → Holding → SubMapRecord
map_of query held = record { query = query; held = held }

-- The empty map of a query.
abbrev pub empty_map : Query → SubMapRecord
empty_map query = map_of query (nothing_held larger)

-- The invariant of every map: up to 4096 keys, no change that a held floor voids, and nothing that isn't under its
-- query.
pub record IsMap (m : SubMapRecord) : Type 0 where
  pub limits : m.held.limits ≡ larger
  pub sound : IsSound m.held
  pub under : All (λ i. IsTrue (passes (is_under m.query) i)) (held_items m.held)

-- The endpoint of the name's live label; a tombstone has none.
abbrev pub endpoint_of_label : Holding → List ℕ → Option EndpointRecord
endpoint_of_label h name = option_and_then endpoint_of_value (option_and_then value_of (held_for h (label_key name)))
