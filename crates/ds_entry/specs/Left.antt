-- What a change leaves under its key.
use Rattle.std.specs.Prelude.{Bool, false, is_some, Option, Some, None, option_and_then}
use Rattle.ds_names.specs.Endpoint.{EndpointRecord}
use Rattle.ds_entry.specs.Change.{ChangeRecord}
use Rattle.ds_entry.specs.declared.body.Value.{Value}
use Rattle.ds_entry.specs.declared.body.Value.TheVariants as values
use Rattle.ds_entry.specs.declared.body.Body.{Body}
use Rattle.ds_entry.specs.declared.body.Body.TheVariants.{Put, Gone}
use Rattle.ds_entry.specs.declared.item.Item.{Item}
use Rattle.ds_entry.specs.declared.item.Item.TheVariants.{Change as Changed, Floor as Floored}

-- The value that a put leaves. A tombstone leaves none.
abbrev pub value_in : Body → Option Value
value_in (Put value) = Some value
value_in Gone = None

-- The value that the change leaves under its key.
abbrev pub value_of : ChangeRecord → Option Value
value_of c = value_in c.body

-- Whether the change leaves a value, and isn't a tombstone.
abbrev pub leaves_value : ChangeRecord → Bool
leaves_value c = is_some (value_of c)

-- Whether the item is a put.
abbrev pub is_put : Item → Bool
is_put (Changed c) = leaves_value c
is_put (Floored f) = false

-- The endpoint of a label's value.
abbrev pub endpoint_of_value : Value → Option EndpointRecord
endpoint_of_value (values.Label e) = Some e
endpoint_of_value _ = None

-- The endpoint that a put of a label leaves.
abbrev pub endpoint_in : Body → Option EndpointRecord
endpoint_in b = option_and_then endpoint_of_value (value_in b)
