-- Labels with a given endpoint.
use Rattle.std.specs.Prelude.{ℕ, Bool, false, List, Option, Some}
use Rattle.std.specs.List.{find}
use Rattle.std.specs.Option.{option_map}
use Rattle.ds_names.specs.Endpoint.{EndpointRecord, is_same_endpoint}
use Rattle.ds_entry.specs.declared.body.Value.{Value}
use Rattle.ds_entry.specs.declared.body.Value.TheVariants as values
use Rattle.ds_entry.specs.Change.{ChangeRecord}
use Rattle.ds_entry.specs.Left.{value_of}

-- Whether the value is a label with the endpoint.
abbrev pub is_label_of : EndpointRecord → Option Value → Bool
is_label_of e (Some (values.Label d)) = is_same_endpoint d e
is_label_of e _ = false

-- Whether the change leaves a live label with the endpoint.
abbrev pub names_endpoint : EndpointRecord → ChangeRecord → Bool
names_endpoint e c = is_label_of e (value_of c)

-- The name of the first change that leaves a live label with the endpoint.
abbrev pub first_name_of : EndpointRecord → List ChangeRecord → Option (List ℕ)
first_name_of e changes = option_map (λ (c : ChangeRecord). c.key.name) (find (names_endpoint e) changes)
