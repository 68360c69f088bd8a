-- How an index lists what is held.
use Rattle.std.specs.Prelude.{◌≡◌, List, ℕ, Option, Some, Contains}
use Rattle.std.specs.FinMap.{FinMap, get}
use Rattle.std.specs.Option.{option_map}
use Rattle.ds_names.specs.Endpoint.{EndpointRecord}
use Rattle.ds_names.specs.Key.{key_cmp, label_key}
use Rattle.ds_entry.specs.Change.{ChangeRecord}
use Rattle.ds_index.specs.declared.named.Named.{Named}
use Rattle.ds_entry.specs.Left.{endpoint_in}

-- The endpoint that the change leaves; a tombstone leaves none.
abbrev pub endpoint_left : ChangeRecord → Option EndpointRecord
endpoint_left c = endpoint_in c.body

-- What is held of the label with this name: its endpoint, or that it has none.
abbrev pub holder_for : FinMap key_cmp ChangeRecord → List ℕ → Option (Option EndpointRecord)
holder_for changes name = option_map endpoint_left (get changes (label_key name))

-- Whether exactly the held labels are listed, each with its present endpoint.
pub record IsIndexed (changes : FinMap key_cmp ChangeRecord) (names : List Named) : Type 0 where
  pub listed : (p : Named) → holder_for changes p.name ≡ Some p.endpoint → Contains names p
  pub held : (p : Named) → Contains names p → holder_for changes p.name ≡ Some p.endpoint
