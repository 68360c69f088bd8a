-- Where the moves of a follow or a submission go: to no instance that is older than the map's.
use Rattle.std.specs.Prelude.{◌≡◌, ◌==◌, ℕ, ◌≤◌, ◌<◌, List, Option, Some, MatchOption}
use Rattle.std.specs.List.{find}
use Rattle.std.specs.Map.{lookup}
use Rattle.std.specs.Option.{option_map}
use Rattle.ds_names.specs.Endpoint.{EndpointRecord}
use Rattle.ds_names.specs.Key.{label_key}
use Rattle.ds_entry.specs.Change.{ChangeRecord}
use Rattle.ds_entry.specs.Left.{endpoint_in}
use Rattle.ds_entry.specs.declared.item.Item.{Item}
use Rattle.ds_machine.specs.Parts.{held_at}
use Rattle.driver_tables.specs.declared.device.Device.{Device}
use Rattle.driver_tables.specs.declared.moves.Move.{Move}
use Rattle.driver_tables.specs.declared.moves.Move.TheVariants.{Start, Send}
use Rattle.driver_tables.specs.DriverTable.{Request, is_for}
use Rattle.driver_tables.specs.Stands.{TableRecord}

-- Whether the endpoint's generation isn't below that of the change's endpoint, or, for a tombstone, is above its epoch.
abbrev pub IsSince : ChangeRecord → EndpointRecord → Type 0
IsSince c e = MatchOption (endpoint_in c.body) (c.version.epoch < e.generation) (λ (f : EndpointRecord). f.generation ≤ e.generation)

-- Whether an endpoint isn't older than the change that the map holds of a label, if it holds one.
abbrev pub IsNoOlder : List Item → List ℕ → EndpointRecord → Type 0
IsNoOlder held label e = (c : ChangeRecord) → held_at held (label_key label) ≡ Some c → IsSince c e

-- Whether a label was found, and the endpoint isn't older than the change that the map holds of it.
abbrev pub HasNoOlder : List Item → Option (List ℕ) → EndpointRecord → Type 0
HasNoOlder held found e = (label : List ℕ) × (found ≡ Some label) × IsNoOlder held label e

-- Whether a Start goes to no older instance of its unit's label, and a Send to none of the label of its request's unit.
abbrev pub GoesToNoneOlder : List Item → (label_of : ℕ → Option (List ℕ)) → List Request → Move → Type 0
GoesToNoneOlder held label_of requests (Start unit e) = HasNoOlder held (label_of unit) e
GoesToNoneOlder held label_of requests (Send id e) =
    (r : Request) × (find (is_for id) requests ≡ Some r) × HasNoOlder held (label_of r.unit) e
GoesToNoneOlder held label_of requests _ = Unit {0}

-- The label of a unit's driver, if the unit is assigned.
abbrev pub unit_label : TableRecord → ℕ → Option (List ℕ)
unit_label v unit = option_map (λ (d : Device). d.label) (lookup (λ u. unit == u) v.devices)
