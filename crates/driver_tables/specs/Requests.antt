-- The pending requests, as private functions read and change them.
use Rattle.std.specs.Prelude.{if◌then◌else◌, ℕ, ◌==◌, Bool, true, false, not, List, ◌++◌, Option, Some, None}
use Rattle.std.specs.List.{filter_map, retain_mut}
use Rattle.std.specs.Option.{option_map, option_map_or}
use Rattle.std.specs.Map.{lookup}
use Rattle.ds_names.specs.Endpoint.{EndpointRecord}
use Rattle.driver_tables.specs.declared.moves.Move.{Move}
use Rattle.driver_tables.specs.declared.moves.Move.TheVariants.{Send, Answer}
use Rattle.driver_tables.specs.declared.device.Device.{Device}
use Rattle.driver_tables.specs.declared.request.Pending.{Pending}
use Rattle.driver_tables.specs.Changed.{settled}
use Rattle.driver_tables.specs.Devices.{start_move}
use Rattle.ds_names.specs.Name.{is_same_name}

abbrev pub is_ending : Move → Bool
is_ending (Answer id ending) = true
is_ending _ = false

-- Whether a request is pending after its move, if it has one.
abbrev pub stays_pending : Option Move → Bool
stays_pending None = true
stays_pending (Some m) = not (is_ending m)

abbrev pub sent_again : ℕ → Option EndpointRecord → Option Move
sent_again id state = option_map (Send id) state

-- The move of a pending request of the device under a new state of the label.
abbrev pub settled_by : List ℕ → Option EndpointRecord → Pending → Device → Option Move
settled_by label state p d = if is_same_name label d.label then settled d.class p.id state else None

abbrev pub settled_in : List (ℕ × Device) → List ℕ → Option EndpointRecord → Pending → Option Move
settled_in devices label state p = option_map_or (settled_by label state p) (lookup (λ u. p.unit == u) devices) None

-- The moves of all pending requests, in order.
abbrev pub all_settled_in : List (ℕ × Device) → List ℕ → Option EndpointRecord → List Pending → List Move
all_settled_in devices label state pending = filter_map (settled_in devices label state) pending

-- The moves of a new state of the label: first the starts, then those of the pending requests.
abbrev pub moves_in : List (ℕ × Device) → List Pending → List ℕ → Option EndpointRecord → List Move
moves_in devices pending label state = filter_map (start_move label state) devices ++ all_settled_in devices label state pending

-- The request after its move.
abbrev pub kept_after : Option Move → Pending → Pending
kept_after (Some (Send id endpoint)) p = record { id = p.id; unit = p.unit; sent = Some endpoint }
kept_after _ p = p

abbrev pub is_kept_in : List (ℕ × Device) → List ℕ → Option EndpointRecord → Pending → Bool
is_kept_in devices label state p = stays_pending (settled_in devices label state p)

abbrev pub kept_in : List (ℕ × Device) → List ℕ → Option EndpointRecord → Pending → Pending
kept_in devices label state p = kept_after (settled_in devices label state p) p

-- The requests that stay pending, each after its move.
abbrev pub all_kept_in : List (ℕ × Device) → List ℕ → Option EndpointRecord → List Pending → List Pending
all_kept_in devices label state pending = retain_mut (is_kept_in devices label state) (kept_in devices label state) pending
