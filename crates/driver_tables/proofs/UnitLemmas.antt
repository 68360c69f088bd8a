-- What the devices say of labels and units.
use Rattle.std.proofs.Common.{◌≡◌, ℕ, ◌==◌, ◌||◌, Bool, true, false, cond, List, [], ◌∷◌, ◌++◌, map, Option, Some, None, is_some, refl, sym}
use Rattle.std.proofs.Common.{ap, ◌∙◌}
use Rattle.std.specs.Option.{option_map, option_map_or}
use Rattle.std.specs.List.{filter_map, find, cons_option}
use Rattle.std.specs.Map.{lookup}
use Rattle.std.proofs.lemmas.List.Sums.{fold-append}
use Rattle.ds_names.specs.Endpoint.{EndpointRecord}
use Rattle.driver_tables.specs.declared.device.Device.{Device}
use Rattle.driver_tables.specs.declared.request.Pending.{Pending}
use Rattle.driver_tables.specs.Driver.{Driver, driver_of, has_label}
use Rattle.driver_tables.specs.Label.{LabelState, endpoint_now, newest, newer}
use Rattle.driver_tables.specs.DriverTable.{Request}
use Rattle.driver_tables.specs.Changed.{start, settled_of, settle}
use Rattle.driver_tables.specs.Stands.{device_of, unit_of}
use Rattle.driver_tables.specs.Devices.{is_of_label, status_of, noted, start_move}
use Rattle.driver_tables.specs.Requests.{settled_by, settled_in}
use Rattle.driver_tables.proofs.TestLemmas.{same_name}
use Rattle.ds_names.specs.Name.{is_same_name}

-- the driver of a unit, as the code keeps it
pub device_is : (states : List LabelState) (units : List (ℕ × Driver)) (unit : ℕ) →
    lookup (λ u. unit == u) (map (unit_of states) units) ≡ option_map (device_of states) (driver_of units unit)
device_is states [] unit = refl
device_is states (u ∷ units) unit = at (unit == u.0) (device_is states units unit)
  where
    at : (b : Bool) → lookup (λ n. unit == n) (map (unit_of states) units) ≡ option_map (device_of states) (driver_of units unit) →
        cond b (Some (device_of states u.1)) (lookup (λ n. unit == n) (map (unit_of states) units)) ≡ option_map (device_of states)
        (cond b (Some u.1) (driver_of units unit))
    at true rest = refl
    at false rest = rest

-- the state of a label, as its first unit has it
pub first_tells : (states : List LabelState) (units : List (ℕ × Driver)) (label : List ℕ) → has_label units label ≡ true →
    status_of (find (is_of_label label) (map (unit_of states) units)) ≡ (endpoint_now states label, newest states label)
first_tells states [] label e = cc
first_tells states (u ∷ units) label e = at (is_same_name label u.1.label) refl e (first_tells states units label)
  where
    at : (b : Bool) → is_same_name label u.1.label ≡ b → b || has_label units label ≡ true →
        (has_label units label ≡ true → status_of (find (is_of_label label) (map (unit_of states) units)) ≡
        (endpoint_now states label, newest states label)) →
        status_of (cond b (Some (unit_of states u)) (find (is_of_label label) (map (unit_of states) units))) ≡
        (endpoint_now states label, newest states label)
    at true h k rest = ap (λ (l : List ℕ). (endpoint_now states l, newest states l)) (sym (same_name label u.1.label h))
    at false h k rest = rest k

pub first_is : (states : List LabelState) (units : List (ℕ × Driver)) (label : List ℕ) →
    is_some (find (is_of_label label) (map (unit_of states) units)) ≡ has_label units label
first_is states [] label = refl
first_is states (u ∷ units) label = at (is_same_name label u.1.label) (first_is states units label)
  where
    at : (b : Bool) → is_some (find (is_of_label label) (map (unit_of states) units)) ≡ has_label units label →
        is_some (cond b (Some (unit_of states u)) (find (is_of_label label) (map (unit_of states) units))) ≡ b || has_label units label
    at true rest = refl
    at false rest = rest

-- a label's endpoint and greatest generation after one more state
pub now_after : (states : List LabelState) (s : LabelState) (label : List ℕ) →
    endpoint_now (states ++ s ∷ []) label ≡ cond (is_same_name s.label label) s.endpoint (endpoint_now states label)
now_after states s label = fold-append (λ (now : Option EndpointRecord) (s : LabelState). cond (is_same_name s.label label) s.endpoint now)
    None states (s ∷ [])

pub newest_after : (states : List LabelState) (s : LabelState) (label : List ℕ) →
    newest (states ++ s ∷ []) label ≡ cond (is_same_name s.label label) (newer (newest states label) s.endpoint) (newest states label)
newest_after states s label = fold-append (λ (g : Option ℕ) (s : LabelState). cond (is_same_name s.label label) (newer g s.endpoint) g)
    None states (s ∷ [])

-- a new state is noted at each unit of its label
pub noted_all : (states : List LabelState) (units : List (ℕ × Driver)) (label : List ℕ) (state : Option EndpointRecord) →
    map (noted label state) (map (unit_of states) units) ≡ map (unit_of (states ++ record { label = label; endpoint = state } ∷ [])) units
noted_all states [] label state = refl
noted_all states (u ∷ units) label state = cc (one, noted_all states units label state)
  where
    s : LabelState
    s = record { label = label; endpoint = state }

    made : Option EndpointRecord → Option ℕ → Device
    made now newest = record { class = u.1.class; label = u.1.label; endpoint = now; newest = newest }

    at : (b : Bool) → cond b (made state (newer (newest states u.1.label) state)) (device_of states u.1) ≡ made
        (cond b state (endpoint_now states u.1.label)) (cond b (newer (newest states u.1.label) state) (newest states u.1.label))
    at true = refl
    at false = refl

    one : noted label state (unit_of states u) ≡ unit_of (states ++ s ∷ []) u
    one = ap (λ (d : Device). (u.0, d)) (at (is_same_name label u.1.label) ∙
        (ap (λ (e : Option EndpointRecord). made e
        (cond (is_same_name label u.1.label) (newer (newest states u.1.label) state) (newest states u.1.label)))
        (sym (now_after states s u.1.label)) ∙ ap (made (endpoint_now (states ++ s ∷ []) u.1.label))
        (sym (newest_after states s u.1.label))))

pub starts_are : (states : List LabelState) (units : List (ℕ × Driver)) (label : List ℕ) (state : Option EndpointRecord) →
    filter_map (start_move label state) (map (unit_of states) units) ≡ filter_map (start label state) units
starts_are states [] label state = refl
starts_are states (u ∷ units) label state = ap (cons_option (start label state u)) (starts_are states units label state)

-- the move of a pending request
pub settles_as : (states : List LabelState) (units : List (ℕ × Driver)) (label : List ℕ) (state : Option EndpointRecord) (r : Request)
    (p : Pending) → p.id ≡ r.id →
    p.unit ≡ r.unit → settled_in (map (unit_of states) units) label state p ≡ settle units label state r
settles_as states units label state r p i n =
    ap (λ (d : Option Device). option_map_or (settled_by label state p) d None) (device_is states units p.unit)
    ∙ (ap (λ (k : ℕ). option_map_or (settled_by label state p) (option_map (device_of states) (driver_of units k)) None) n ∙
    (at (driver_of units r.unit) ∙ ap (λ (k : ℕ). option_map_or (settled_of label state k) (driver_of units r.unit) None) i))
  where
    at : (d : Option Driver) → option_map_or (settled_by label state p) (option_map (device_of states) d) None ≡ option_map_or
        (settled_of label state p.id) d None
    at None = refl
    at (Some d) = refl
