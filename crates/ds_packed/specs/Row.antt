-- The item of a row and the bytes of its names.
use Rattle.std.specs.Prelude.{◌≡◌, ℕ, List, ◌++◌, length, take}
use Rattle.ds_names.specs.Endpoint.{EndpointRecord, endpoint_of}
use Rattle.ds_names.specs.Key.{label_key}
use Rattle.ds_names.specs.Name.{rs_name}
use Rattle.ds_names.specs.declared.kind.Kind.{Kind}
use Rattle.ds_names.specs.declared.kind.Kind.TheVariants as kinds
use Rattle.ds_names.specs.declared.version.Version.{Version}
use Rattle.ds_entry.specs.Change.{ChangeRecord, change_of}
use Rattle.ds_entry.specs.Floor.{floor_of}
use Rattle.ds_entry.specs.declared.body.Value.TheVariants as values
use Rattle.ds_entry.specs.declared.body.Body.{Body}
use Rattle.ds_entry.specs.declared.body.Body.TheVariants as bodies
use Rattle.ds_entry.specs.declared.item.Item.{Item}
use Rattle.ds_entry.specs.declared.item.Item.TheVariants.{Change as Changed, Floor as Floored}
use Rattle.ds_packed.specs.Names.{key_name_in, names_length, owner_in}
use Rattle.ds_packed.specs.declared.names.Names.{Names}
use Rattle.ds_packed.specs.declared.row.Row.{Row}
use Rattle.ds_packed.specs.declared.row.Row.TheVariants as rows

-- The change whose names are at the front of the bytes.
abbrev pub named : List ℕ → Names → Kind → Version → Body → ChangeRecord
named bytes place kind version body = change_of (record { name = key_name_in bytes place; kind = kind }) (owner_in bytes place) version body

-- The put of a label: its owner is `rs`, and its version is number 0 in the endpoint's generation.
abbrev pub labelled : List ℕ → EndpointRecord → ChangeRecord
labelled name e = change_of (label_key name) rs_name (record { epoch = e.generation; seq = 0 }) (bodies.Put (values.Label e))

-- The number of bytes that the row's names take.
abbrev pub row_length : Row → ℕ
row_length (rows.Label name slot generation) = name
row_length (rows.U32 place version number) = names_length place
row_length (rows.Gone place version kind) = names_length place
row_length (rows.Floor owner generation) = owner

-- The row's item, whose names are at the front of the bytes.
abbrev pub row_item : List ℕ → Row → Item
row_item names (rows.Label name slot generation) = Changed (labelled (take name names) (endpoint_of generation slot))
row_item names (rows.U32 place version number) = Changed (named names place kinds.U32 version (bodies.Put (values.U32 number)))
row_item names (rows.Gone place version kind) = Changed (named names place kind version bodies.Gone)
row_item names (rows.Floor owner generation) = Floored (floor_of (take owner names) generation)

-- Whether the row is the item's, and its names are appended to the bytes.
pub record AddsRow (item : Item) (row : Row) (old new : List ℕ) : Type 0 where
  pub names : List ℕ
  pub added : new ≡ old ++ names
  pub length_is : length names ≡ row_length row
  pub item_is : row_item names row ≡ item
