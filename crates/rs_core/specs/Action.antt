-- What RS does to start an instance of a service, and to stop one.
use Rattle.std.specs.Prelude.{ℕ, Bool, List, [], ◌∷◌, ◌++◌, if◌then◌else◌}
use Rattle.ds_names.specs.declared.version.Version.{Version}
use Rattle.ds_names.specs.Endpoint.{EndpointRecord}
use Rattle.ds_entry.specs.Change.{ChangeRecord, change_of, IsBodyInPlace}
use Rattle.ds_entry.specs.Floor.{floor_of}
use Rattle.ds_entry.specs.declared.body.Value.TheVariants as values
use Rattle.ds_entry.specs.declared.body.Body.TheVariants.{Put, Gone}
use Rattle.rs_core.specs.declared.action.Action.{Action}
use Rattle.rs_core.specs.declared.action.Action.TheVariants.{Kill, Start, Ping, Offer, Sweep}
use Rattle.ds_names.specs.Name.{rs_name}
use Rattle.ds_names.specs.Key.{label_key}

-- Whether a copy of the action takes no memory. For all of RS's own that holds: only the offer of a text or a blob
-- would take some.
abbrev pub IsActionInPlace : Action → Type 0
IsActionInPlace (Offer change) = IsBodyInPlace change.body
IsActionInPlace (Kill endpoint) = Unit {0}
IsActionInPlace (Start label endpoint) = Unit {0}
IsActionInPlace (Ping endpoint) = Unit {0}
IsActionInPlace (Sweep floor) = Unit {0}

-- The version of this epoch and number.
abbrev pub version : ℕ → ℕ → Version
version epoch seq = record { epoch = epoch; seq = seq }

-- The change that publishes a label: number 0 of its endpoint's generation.
abbrev pub label_put : List ℕ → EndpointRecord → ChangeRecord
label_put label endpoint = change_of (label_key label) rs_name (version endpoint.generation 0) (Put (values.Label endpoint))

-- The change that ends a label: number 1 of that generation.
abbrev pub label_gone : List ℕ → ℕ → ChangeRecord
label_gone label generation = change_of (label_key label) rs_name (version generation 1) Gone

-- The actions of starting an instance: start it, and publish its label.
abbrev pub start_actions : List ℕ → EndpointRecord → List Action
start_actions label endpoint = Start label endpoint ∷ Offer (label_put label endpoint) ∷ []

-- The actions of stopping an instance: kill it if it may be alive, end its label, and sweep what it published.
abbrev pub stop_actions : Bool → List ℕ → EndpointRecord → List Action
stop_actions kill label endpoint =
    (if kill then Kill endpoint ∷ [] else []) ++
    (Offer (label_gone label endpoint.generation) ∷ Sweep (floor_of label endpoint.generation) ∷ [])
