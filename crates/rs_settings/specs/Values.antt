-- What a single value of a settings document stands for, if it has the right type and range.
use Rattle.std.specs.Prelude.{ℕ, ◌+◌, ◌==◌, Bool, true, false, ◌&&◌, nat_le, ℤ, pos, negsuc, List, [], ◌∷◌}
use Rattle.std.specs.Prelude.{length, codes, Option, Some, None, option_map, option_and_then, if◌then◌else◌}
use Rattle.std.specs.List.{list_all}
use Rattle.std.specs.Cmp.Lexicographic.{pointwise}
use Rattle.toml.specs.Data.{Data, Items, no_items, item, Members, no_members, member, as_str, as_integer, as_array}
use Rattle.ds_names.specs.Name.{is_name_byte, rs_name}
use Rattle.rs_settings.specs.declared.class.Class.{Class}
use Rattle.rs_settings.specs.declared.class.Class.TheVariants.{Block, Character, Network, Server}

-- Whether the two texts have the same bytes.
abbrev pub is_same : List ℕ → List ℕ → Bool
is_same = pointwise ◌==◌

-- Whether each key of the table passes the test.
abbrev pub keys_pass : (List ℕ → Bool) → Members → Bool
keys_pass test no_members = true
keys_pass test (member key value rest) = test key && keys_pass test rest

-- The number of items.
abbrev pub item_count : Items → ℕ
item_count no_items = 0
item_count (item value rest) = item_count rest + 1

-- The value of each item as `read` finds it, in order, or `None` if it finds none for one of them.
abbrev pub each_of : {A : Type 0} → (Data → Option A) → Items → Option (List A)
each_of read no_items = Some []
each_of read (item value rest) = option_and_then (λ a. option_map (λ past. a ∷ past) (each_of read rest)) (read value)

-- The integer, if it is from `low` to `high`.
abbrev pub within : ℕ → ℕ → ℤ → Option ℕ
within low high (pos n) = if nat_le low n && nat_le n high then Some n else None
within low high (negsuc n) = None

-- The value, if it is an integer from `low` to `high`.
abbrev pub number_in : ℕ → ℕ → Data → Option ℕ
number_in low high value = option_and_then (within low high) (as_integer value)

-- The field's integer from `low` to `high`, or `missing` if there is no such field.
abbrev pub number_or : ℕ → ℕ → ℕ → Option Data → Option ℕ
number_or missing low high None = Some missing
number_or missing low high (Some value) = number_in low high value

-- Whether the bytes are a name. Decides IsName.
unfoldable pub is_name : List ℕ → Bool
is_name bytes = (nat_le 1 (length bytes) && nat_le (length bytes) 64) && list_all is_name_byte bytes

-- The name with these bytes, if they are one.
abbrev pub name_read : List ℕ → Option (List ℕ)
name_read bytes = if is_name bytes then Some bytes else None

-- The value's name, if it is a string that is one.
abbrev pub name_in : Data → Option (List ℕ)
name_in value = option_and_then name_read (as_str value)

-- The value's name, if it is a string that is a name other than `rs`.
abbrev pub label_in_data : Data → Option (List ℕ)
label_in_data value = option_and_then (λ name. if is_same name rs_name then None else Some name) (name_in value)

-- The names in an array, at most 64.
abbrev pub names_of : Items → Option (List (List ℕ))
names_of items = if nat_le (item_count items) 64 then each_of name_in items else None

-- The names in a field, at most 64. A missing field has no names.
abbrev pub names_or : Option Data → Option (List (List ℕ))
names_or None = Some []
names_or (Some value) = option_and_then names_of (as_array value)

-- Such an array, or `None` if there is no such field.
abbrev pub names_if : Option Data → Option (Option (List (List ℕ)))
names_if None = Some None
names_if (Some value) = option_map Some (option_and_then names_of (as_array value))

-- The class that the word names, if it names one.
abbrev pub class_named : List ℕ → Option Class
class_named word =
    if is_same word (codes "block") then Some Block
    else if is_same word (codes "character") then Some Character
    else if is_same word (codes "network") then Some Network
    else if is_same word (codes "server") then Some Server
    else None

-- The class, if the value is a string that names one.
abbrev pub class_in : Data → Option Class
class_in value = option_and_then class_named (as_str value)

-- Whether the class is a server's. A server drives no device.
abbrev pub is_server : Class → Bool
is_server Server = true
is_server Block = false
is_server Character = false
is_server Network = false

-- The unit of a service of this class: none for a server, a number from 0 to 255 for any other.
abbrev pub unit_in : Class → Option Data → Option (Option ℕ)
unit_in class None = if is_server class then Some None else None
unit_in class (Some value) = if is_server class then None else option_map Some (number_in 0 255 value)
