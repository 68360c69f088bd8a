-- Faults of a settings text: of the whole text, or of one service.
use Rattle.std.specs.Prelude.{ℕ, Some, None}
use Rattle.rs_settings.specs.declared.fault.SettingsCause.{SettingsCause}
use Rattle.rs_settings.specs.declared.fault.SettingsCause.TheVariants.{NoRoom}
use Rattle.rs_settings.specs.declared.fault.SettingsFault.{SettingsFault}

-- A fault of the whole text.
abbrev pub at_top : SettingsCause → SettingsFault
at_top cause = record { cause = cause; index = None }

-- A fault of the service with this index.
abbrev pub at_service : SettingsCause → ℕ → SettingsFault
at_service cause index = record { cause = cause; index = Some index }

-- The fault when memory runs out.
abbrev pub no_room : SettingsFault
no_room = at_top NoRoom
