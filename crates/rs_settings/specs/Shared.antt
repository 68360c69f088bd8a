-- What no two services may share: a label, a unit, a published name.
use Rattle.std.specs.Prelude.{ℕ, ◌==◌, ◌+◌, Bool, true, false, ◌&&◌, ◌||◌, List, [], ◌∷◌, ◌++◌}
use Rattle.std.specs.Prelude.{length, Option, Some, None, option_map, if◌then◌else◌}
use Rattle.std.specs.List.{list_any}
use Rattle.std.specs.Option.{option_or}
use Rattle.rs_settings.specs.declared.class.Class.{Class}
use Rattle.rs_settings.specs.declared.class.Class.TheVariants.{Block, Character, Network, Server}
use Rattle.rs_settings.specs.declared.service.Service.{Service}
use Rattle.rs_settings.specs.declared.fault.SettingsCause.TheVariants.{TwoLabels, TwoUnits, SharedName}
use Rattle.rs_settings.specs.declared.fault.SettingsFault.{SettingsFault}
use Rattle.rs_settings.specs.Fault.{at_service}
use Rattle.rs_settings.specs.Values.{is_same}

-- Whether the class's units are ports. The units of block and character services are major numbers.
abbrev pub is_network : Class → Bool
is_network Network = true
is_network Block = false
is_network Character = false
is_network Server = false

-- Whether both are the same number. Two servers, which have none, don't share one.
abbrev pub is_same_number : Option ℕ → Option ℕ → Bool
is_same_number (Some m) (Some n) = m == n
is_same_number _ _ = false

-- Whether both are true or both are false.
abbrev pub is_same_bool : Bool → Bool → Bool
is_same_bool true b = b
is_same_bool false true = false
is_same_bool false false = true

-- Whether the two services have the same label.
abbrev pub share_label : Service → Service → Bool
share_label s t = is_same s.label t.label

-- Whether the two services have the same major number, or the same port.
abbrev pub share_unit : Service → Service → Bool
share_unit s t = is_same_bool (is_network s.class) (is_network t.class) && is_same_number s.unit t.unit

-- The index of the first service that shares something with one before it.
abbrev pub first_clash : (Service → Service → Bool) → List Service → List Service → Option ℕ
first_clash share before [] = None
first_clash share before (s ∷ rest) = if list_any (share s) before then Some (length before) else first_clash share (before ++ s ∷ []) rest

-- Whether the name is among these.
abbrev pub has_name : List (List ℕ) → List ℕ → Bool
has_name names name = list_any (is_same name) names

-- Whether one of the names is among the names before it.
abbrev pub repeats : List (List ℕ) → List (List ℕ) → Bool
repeats before [] = false
repeats before (name ∷ rest) = has_name before name || repeats (before ++ name ∷ []) rest

-- The index of the first service that publishes a name published before, by another service or by itself.
abbrev pub first_repeat : List (List ℕ) → ℕ → List Service → Option ℕ
first_repeat before i [] = None
first_repeat before i (s ∷ rest) = if repeats before s.publishes then Some i else first_repeat (before ++ s.publishes) (i + 1) rest

-- The first fault of the services together. Each cause is judged for all of them before the next one.
abbrev pub shared_fault : List Service → Option SettingsFault
shared_fault services =
    option_or (option_map (at_service TwoLabels) (first_clash share_label [] services))
    (option_or (option_map (at_service TwoUnits) (first_clash share_unit [] services))
    (option_map (at_service SharedName) (first_repeat [] 0 services)))
