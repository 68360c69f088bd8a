-- What the fast way of a NameOf lends.
use Rattle.std.specs.Prelude.{ℕ, List, Option, None, cond}
use Rattle.ds_names.specs.Endpoint.{EndpointRecord, is_rs}
use Rattle.ds_machine.specs.State.{State, held}
use Rattle.ds_machine.specs.Asking.{name_of}

-- The name of an endpoint whose label is live. RS has no label.
abbrev pub label_name : State → EndpointRecord → Option (List ℕ)
label_name s endpoint = cond (is_rs endpoint) None (name_of (held s) endpoint)
