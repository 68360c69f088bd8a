-- A driver table: its units, and four lists that only grow.
use Rattle.std.specs.Prelude.{if◌then◌else◌, ℕ, ◌==◌, nat_lt, Bool, true, false, List, [], ◌∷◌, filter, Option, Some, None}
use Rattle.std.specs.List.{list_any, list_all, filter_map, last_or}
use Rattle.ds_names.specs.Endpoint.{EndpointRecord}
use Rattle.driver_tables.specs.declared.moves.Ending.{Ending}
use Rattle.driver_tables.specs.Driver.{Driver}
use Rattle.driver_tables.specs.Label.{LabelState}

pub record Request : Type 0 where
  pub id : ℕ
  pub unit : ℕ

pub record DriverTable : Type 0 where
  -- the assigned units, in order of assignment
  pub units : List (ℕ × Driver)
  -- the accepted states, of labels with a unit
  pub states : List LabelState
  -- the accepted requests
  pub requests : List Request
  -- each send: an id and the endpoint that it was sent to
  pub sends : List (ℕ × EndpointRecord)
  -- each answer: an id and its ending
  pub answers : List (ℕ × Ending)

abbrev pub empty_table : DriverTable
empty_table = record { units = []; states = []; requests = []; sends = []; answers = [] }

-- The value of a pair, if it has the id.
abbrev pub value_for : {X : Type 0} → ℕ → ℕ × X → Option X
value_for id pair = if pair.0 == id then Some pair.1 else None

-- The values of an id in a list of pairs, in order.
abbrev pub values_of : {X : Type 0} → ℕ → List (ℕ × X) → List X
values_of id pairs = filter_map (value_for id) pairs

-- The endpoint that a request was last sent to.
abbrev pub last_sent : List (ℕ × EndpointRecord) → ℕ → Option EndpointRecord
last_sent sends id = last_or None (values_of id sends)

abbrev pub is_empty : {X : Type 0} → List X → Bool
is_empty [] = true
is_empty (x ∷ xs) = false

-- Whether a request is pending: it has no answer.
abbrev pub is_pending : List (ℕ × Ending) → Request → Bool
is_pending answers r = is_empty (values_of r.id answers)

-- The pending requests, in order of submission.
abbrev pub pending : DriverTable → List Request
pending t = filter (is_pending t.answers) t.requests

abbrev pub is_for : ℕ → Request → Bool
is_for id r = r.id == id

-- Whether some request has the id.
abbrev pub is_requested : List Request → ℕ → Bool
is_requested requests id = list_any (is_for id) requests

-- Whether the id is above every accepted id.
abbrev pub is_above : List Request → ℕ → Bool
is_above requests id = list_all (λ (r : Request). nat_lt r.id id) requests
