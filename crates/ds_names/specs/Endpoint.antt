-- Endpoints and their text.
use Rattle.std.specs.Prelude.{ℕ, ◌≤◌, ◌==◌, ◌&&◌, Bool, List, ◌∷◌, ◌++◌}
use Rattle.std.specs.Char.{is_ascii_digit}
use Rattle.std.specs.Fmt.{decimal}
use Rattle.ds_names.specs.Run.{Begins}

-- A process: its number among all that RS started, and its slot.
pub record EndpointRecord : Type 0 where
  pub generation : ℕ
  pub slot : ℕ

-- The endpoint with these numbers.
abbrev pub endpoint_of : ℕ → ℕ → EndpointRecord
endpoint_of g s = record { generation = g; slot = s }

-- Whether two endpoints have the same generation and the same slot.
abbrev pub is_same_endpoint : EndpointRecord → EndpointRecord → Bool
is_same_endpoint d e = d.generation == e.generation && d.slot == e.slot

-- Whether the endpoint is RS's, `0/2`.
abbrev pub is_rs : EndpointRecord → Bool
is_rs e = is_same_endpoint e (endpoint_of 0 2)

-- Whether both numbers are in their ranges.
pub record IsEndpoint (e : EndpointRecord) : Type 0 where
  pub generation : e.generation ≤ 2097151
  pub slot : e.slot ≤ 1023

-- The text `generation/slot`, in decimals.
abbrev pub endpoint_text : EndpointRecord → List ℕ
endpoint_text e = decimal e.generation ++ 47 ∷ decimal e.slot

-- Whether the bytes don't begin with the text of an endpoint whose slot is the longest run of digits.
abbrev pub NoEndpointBegins : List ℕ → Type 0
NoEndpointBegins bytes = (e : EndpointRecord) (rest : List ℕ) → IsEndpoint e → ¬ Begins is_ascii_digit bytes (endpoint_text e) rest
