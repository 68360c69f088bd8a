-- The service that a table of the settings describes, or the table's first fault.
use Rattle.std.specs.Prelude.{ℕ, Bool, false, not, ◌&&◌, ◌||◌, is_none, List, [], ◌∷◌, ◌++◌}
use Rattle.std.specs.Prelude.{length, codes, Option, Some, None, option_and_then, ok_or, Result, Ok, Err, if◌then◌else◌}
use Rattle.toml.specs.Data.{Data, Items, no_items, item, Members, get_member, as_table}
use Rattle.rs_settings.specs.declared.class.Class.{Class}
use Rattle.rs_settings.specs.declared.format.Format.{Format}
use Rattle.rs_settings.specs.declared.format.Format.TheVariants.{First, Second}
use Rattle.rs_settings.specs.declared.service.Service.{Service}
use Rattle.rs_settings.specs.declared.fault.SettingsCause.{SettingsCause}
use Rattle.rs_settings.specs.declared.fault.SettingsCause.TheVariants.{UnknownField, Missing, OutOfRange}
use Rattle.rs_settings.specs.declared.fault.SettingsFault.{SettingsFault}
use Rattle.rs_settings.specs.Fault.{at_top, at_service}
use Rattle.rs_settings.specs.Values.{is_same, keys_pass, number_or, label_in_data, names_or, names_if, class_in, is_server, unit_in}

-- ---- the two formats

-- Whether format 1 has a field of this name.
abbrev pub is_first_field : List ℕ → Bool
is_first_field key =
    is_same key (codes "label") || is_same key (codes "class") || is_same key (codes "unit") || is_same key (codes "period") ||
    is_same key (codes "limit") || is_same key (codes "publishes")

-- Whether only format 2 has a field of this name.
abbrev pub is_second_field : List ℕ → Bool
is_second_field key =
    is_same key (codes "complains") || is_same key (codes "connects") || is_same key (codes "forget") || is_same key (codes "startup")

-- Whether a service of the format may have a field of this name.
abbrev pub is_service_field : Format → List ℕ → Bool
is_service_field First key = is_first_field key
is_service_field Second key = is_first_field key || is_second_field key

-- The limit of a service that has no such field.
abbrev pub usual_limit : Format → ℕ
usual_limit First = 0
usual_limit Second = 5

-- The ticks after which failures are forgotten, for a service that has no such field.
abbrev pub usual_forget : Format → ℕ
usual_forget First = 0
usual_forget Second = 6000

-- ---- a service

-- Whether there is a class, and it is `server`.
abbrev pub is_server_class : Option Class → Bool
is_server_class None = false
is_server_class (Some class) = is_server class

-- Whether the value is the word `server`.
abbrev pub names_server : Option Data → Bool
names_server None = false
names_server (Some value) = is_server_class (class_in value)

-- Whether a label, a class or a unit is missing. A server needs no unit.
abbrev pub lacks_field : Members → Bool
lacks_field fields =
    is_none (get_member (codes "label") fields) || is_none (get_member (codes "class") fields) ||
    (is_none (get_member (codes "unit") fields) && not (names_server (get_member (codes "class") fields)))

-- The service with these parts, if each of them could be read.
abbrev pub service_of : Option (List ℕ) → Option Class → Option (Option ℕ) → Option ℕ → Option ℕ → Option (List (List ℕ)) →
    Option (Option (List (List ℕ))) → Option (Option (List (List ℕ))) → Option ℕ → Option ℕ → Option Service
service_of (Some label) (Some class) (Some unit) (Some period) (Some limit)
    (Some publishes) (Some complains) (Some connects) (Some forget) (Some startup) =
    Some (record {
      label = label;
      class = class;
      unit = unit;
      period = period;
      limit = limit;
      publishes = publishes;
      complains = complains;
      connects = connects;
      forget = forget;
      startup = startup;
    })
service_of _ _ _ _ _ _ _ _ _ _ = None

-- The service that the fields describe, if each value is in its range.
abbrev pub values_in : Format → Members → Option Service
values_in format fields =
    let class = option_and_then class_in (get_member (codes "class") fields) in
    service_of
    (option_and_then label_in_data (get_member (codes "label") fields))
    class
    (option_and_then (λ c. unit_in c (get_member (codes "unit") fields)) class)
    (number_or 0 0 1000000 (get_member (codes "period") fields))
    (number_or (usual_limit format) 0 1000 (get_member (codes "limit") fields))
    (names_or (get_member (codes "publishes") fields))
    (names_if (get_member (codes "complains") fields))
    (names_if (get_member (codes "connects") fields))
    (number_or (usual_forget format) 0 1000000000 (get_member (codes "forget") fields))
    (number_or 0 0 1000000 (get_member (codes "startup") fields))

-- The service that the fields describe, or the first fault: an unknown field, then a missing one, then a bad value.
abbrev pub service_in : Format → Members → Result Service SettingsCause
service_in format fields =
    if not (keys_pass (is_service_field format) fields) then Err UnknownField
    else if lacks_field fields then Err Missing
    else ok_or (values_in format fields) OutOfRange

-- The result with the index of the service that has the fault.
abbrev pub indexed : ℕ → Result Service SettingsCause → Result Service SettingsFault
indexed index (Ok service) = Ok service
indexed index (Err cause) = Err (at_service cause index)

-- The service that an item of the array describes. Each item is known to be a table by then.
abbrev pub service_from : Format → ℕ → Option Members → Result Service SettingsFault
service_from format index None = Err (at_top OutOfRange)
service_from format index (Some fields) = indexed index (service_in format fields)

-- The result of the rest, which is read only if this service has no fault.
abbrev pub go_on : (Service → Result (List Service) SettingsFault) → Result Service SettingsFault → Result (List Service) SettingsFault
go_on rest (Ok service) = rest service
go_on rest (Err fault) = Err fault

-- The services read so far and those of these items, or the fault of the first bad item.
abbrev pub services_in : Format → List Service → Items → Result (List Service) SettingsFault
services_in format before no_items = Ok before
services_in format before (item value rest) =
    go_on (λ service. services_in format (before ++ service ∷ []) rest) (service_from format (length before) (as_table value))
