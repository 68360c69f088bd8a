-- The settings of a text, or its first fault, as a function of the document that `toml` reads. A text of format 2 says so by
-- `format = 2` at its top; any other is of format 1.
use Rattle.std.specs.Prelude.{◌≡◌, ◌≢◌, ℕ, ◌≤◌, Bool, true, false, not, ◌&&◌, ◌||◌, nat_le, All, List, []}
use Rattle.std.specs.Prelude.{length, codes, Option, Some, None, IfSome, option_map, option_and_then, Result, Ok, Err, if◌then◌else◌}
use Rattle.std.specs.Str.{IsUtf8, is_utf8}
use Rattle.toml.specs.Data.{Data, Items, no_items, Members, get_member, as_array}
use Rattle.toml.specs.Text.{are_tables}
use Rattle.toml.specs.Parse.{parse_document}
use Rattle.toml.specs.Errors.{IsBlank}
use Rattle.ds_names.specs.Name.{IsName, rs_name}
use Rattle.rs_settings.specs.declared.format.Format.{Format}
use Rattle.rs_settings.specs.declared.format.Format.TheVariants.{First, Second}
use Rattle.rs_settings.specs.declared.service.Service.{Service}
use Rattle.rs_settings.specs.declared.fault.SettingsCause.TheVariants.{BadToml, UnknownField, OutOfRange}
use Rattle.rs_settings.specs.declared.fault.SettingsFault.{SettingsFault}
use Rattle.rs_settings.specs.Fault.{at_top}
use Rattle.rs_settings.specs.Values.{is_same, keys_pass, item_count, number_in, number_or, is_server}
use Rattle.rs_settings.specs.Service.{services_in}
use Rattle.rs_settings.specs.Shared.{shared_fault}

-- Settings: the number of process slots, and the services in order.
pub record SettingsRecord : Type 0 where
  pub slots : ℕ
  pub services : List Service

-- The settings with these slots and services.
abbrev pub settings : ℕ → List Service → SettingsRecord
settings slots services = record { slots = slots; services = services }

-- The document of a text: what `toml` reads, if the text is UTF-8.
unfoldable pub document : List ℕ → Option Members
document text = if is_utf8 text then parse_document text else None

-- Whether a field of this name may be at the top of a text of format 1.
abbrev pub is_top_field : List ℕ → Bool
is_top_field key = is_same key (codes "slots") || is_same key (codes "service")

-- Whether a field of this name may be at the top of a text that may name its format.
abbrev pub is_any_top_field : List ℕ → Bool
is_any_top_field key = is_same key (codes "format") || is_top_field key

-- The format that the field names: 2 for the number 2, and 1 if there is no such field.
abbrev pub format_in : Option Data → Option Format
format_in None = Some First
format_in (Some value) = option_map (λ _. Second) (number_in 2 2 value)

-- The items, if they are at most 64 and each is a table.
abbrev pub tables_of : Items → Option Items
tables_of items = if nat_le (item_count items) 64 && are_tables items then Some items else None

-- The tables of an array. A missing field has no tables.
abbrev pub tables_or : Option Data → Option Items
tables_or None = Some no_items
tables_or (Some value) = option_and_then tables_of (as_array value)

-- The settings, unless the services together have a fault.
abbrev pub unless_shared : ℕ → List Service → Option SettingsFault → Result SettingsRecord SettingsFault
unless_shared slots services None = Ok (settings slots services)
unless_shared slots services (Some fault) = Err fault

-- The settings, or a fault. A fault of one service comes before those of services together.
abbrev pub with_services : ℕ → Result (List Service) SettingsFault → Result SettingsRecord SettingsFault
with_services slots (Ok services) = unless_shared slots services (shared_fault services)
with_services slots (Err fault) = Err fault

-- The settings with these slots and the services in these tables, or the first fault.
abbrev pub settings_from : Format → ℕ → Items → Result SettingsRecord SettingsFault
settings_from format slots tables = with_services slots (services_in format [] tables)

-- The settings, or a fault. Both values at the top are judged before any service.
abbrev pub with_top : Format → Option ℕ → Option Items → Result SettingsRecord SettingsFault
with_top format (Some slots) (Some tables) = settings_from format slots tables
with_top format (Some slots) None = Err (at_top OutOfRange)
with_top format None tables = Err (at_top OutOfRange)

-- The settings of a document of this format whose fields are known, or a fault.
abbrev pub settings_by : Format → Members → Result SettingsRecord SettingsFault
settings_by format doc =
    with_top format (number_or 64 1 1008 (get_member (codes "slots") doc)) (tables_or (get_member (codes "service") doc))

-- The settings of a document of format 1, or its first fault: an unknown field, then a value at the top, then the
-- services, each and together.
abbrev pub settings_in : Members → Result SettingsRecord SettingsFault
settings_in doc = if not (keys_pass is_top_field doc) then Err (at_top UnknownField) else settings_by First doc

-- The settings of a document that names this format, if it names one, or a fault.
abbrev pub settings_by_any : Option Format → Members → Result SettingsRecord SettingsFault
settings_by_any None doc = Err (at_top OutOfRange)
settings_by_any (Some format) doc = settings_by format doc

-- The settings of a document of format 1 or 2, or its first fault. The format is a value at the top.
abbrev pub settings_in_any : Members → Result SettingsRecord SettingsFault
settings_in_any doc =
    if not (keys_pass is_any_top_field doc) then Err (at_top UnknownField)
    else settings_by_any (format_in (get_member (codes "format") doc)) doc

-- The settings of a document as `read` finds them, or its first fault: BadToml if there is no document.
abbrev pub settings_of_document : (Members → Result SettingsRecord SettingsFault) → Option Members → Result SettingsRecord SettingsFault
settings_of_document read None = Err (at_top BadToml)
settings_of_document read (Some doc) = read doc

-- The settings of a text of format 1, or its first fault.
abbrev pub settings_of : List ℕ → Result SettingsRecord SettingsFault
settings_of text = settings_of_document settings_in (document text)

-- The settings of a text of format 1 or 2, or its first fault.
abbrev pub settings_of_any : List ℕ → Result SettingsRecord SettingsFault
settings_of_any text = settings_of_document settings_in_any (document text)

-- Whether the text has no document, and the fault says so.
abbrev pub IsNoDocument : List ℕ → SettingsFault → Type 0
IsNoDocument text fault = (document text ≡ None) × (fault ≡ at_top BadToml)

-- ---- what takes memory

-- The result is settings with a service, which take memory.
abbrev pub TakesMemory : Result SettingsRecord SettingsFault → Type 0
TakesMemory (Ok s) = s.services ≢ []
TakesMemory (Err fault) = ⊥

-- The settings with these slots and tables take memory.
abbrev pub TablesTakeMemory : Format → ℕ → Items → Type 0
TablesTakeMemory format slots tables = TakesMemory (settings_from format slots tables)

-- The text may take memory: it is UTF-8, and has more than white space and comments.
abbrev pub MayTakeMemory : List ℕ → Type 0
MayTakeMemory text = IsUtf8 text × (¬ IsBlank text)

-- ---- what is true of all settings

-- A server has no unit; any other service has one of 0 to 255.
abbrev pub HasUnit : Bool → Option ℕ → Type 0
HasUnit server None = server ≡ true
HasUnit server (Some n) = (server ≡ false) × (n ≤ 255)

-- The list has at most 64 elements, and each is a name.
pub record ArePublished (names : List (List ℕ)) : Type 0 where
  pub count : length names ≤ 64
  pub each : All IsName names

-- Each part of the service is in its range.
pub record IsService (s : Service) : Type 0 where
  pub label : IsName s.label
  pub other : s.label ≢ rs_name
  pub unit : HasUnit (is_server s.class) s.unit
  pub period : s.period ≤ 1000000
  pub limit : s.limit ≤ 1000
  pub publishes : ArePublished s.publishes
  pub complains : IfSome s.complains ArePublished
  pub connects : IfSome s.connects ArePublished
  pub forget : s.forget ≤ 1000000000
  pub startup : s.startup ≤ 1000000

-- Each part of the settings is in its range, and the services share nothing.
pub record IsSettings (s : SettingsRecord) : Type 0 where
  pub some : 1 ≤ s.slots
  pub slots : s.slots ≤ 1008
  pub count : length s.services ≤ 64
  pub each : All IsService s.services
  pub apart : shared_fault s.services ≡ None
