-- What the accepted states say of each label.
use Rattle.std.specs.Prelude.{if◌then◌else◌, ℕ, ◌==◌, nat_lt, Bool, true, false, not, ◌&&◌, ◌||◌, List, Option, Some, None}
use Rattle.std.specs.List.{fold}
use Rattle.ds_names.specs.Endpoint.{EndpointRecord}
use Rattle.ds_names.specs.Name.{is_same_name}

-- A state of a label: its driver's endpoint, or none.
pub record LabelState : Type 0 where
  pub label : List ℕ
  pub endpoint : Option EndpointRecord

-- The label's endpoint now, which is that of its last state.
abbrev pub endpoint_now : List LabelState → List ℕ → Option EndpointRecord
endpoint_now states label = fold (λ now s. if is_same_name s.label label then s.endpoint else now) None states

-- The greater of a generation and an endpoint's generation.
abbrev pub newer : Option ℕ → Option EndpointRecord → Option ℕ
newer g None = g
newer None (Some e) = Some e.generation
newer (Some g) (Some e) = Some (if nat_lt g e.generation then e.generation else g)

-- The greatest generation that a label ever had.
abbrev pub newest : List LabelState → List ℕ → Option ℕ
newest states label = fold (λ g s. if is_same_name s.label label then newer g s.endpoint else g) None states

-- Whether the endpoints are equal, or both missing.
abbrev pub is_same_state : Option EndpointRecord → Option EndpointRecord → Bool
is_same_state None None = true
is_same_state (Some d) (Some e) = (d.generation == e.generation) && (d.slot == e.slot)
is_same_state _ _ = false

-- Whether a state is old: its generation is below the newest, or is the newest at an endpoint that isn't current.
abbrev pub is_old : Option ℕ → Option EndpointRecord → Option EndpointRecord → Bool
is_old None now state = false
is_old (Some g) now None = false
is_old (Some g) now (Some e) = nat_lt e.generation g || ((e.generation == g) && not (is_same_state now (Some e)))

-- Whether a state of the label is old, by the accepted states.
abbrev pub is_old_for : List LabelState → List ℕ → Option EndpointRecord → Bool
is_old_for states label state = is_old (newest states label) (endpoint_now states label) state
