-- Other settings for RS, once it has begun.
use Rattle.std.specs.Prelude.{◌≡◌, ◌≢◌, [], Option, None, Some, Result, Ok, Err}
use Rattle.rs_settings.specs.Settings.{SettingsRecord}
use Rattle.rs_core.specs.declared.fault.RenewFault.{RenewFault}
use Rattle.rs_core.specs.declared.fault.RenewFault.TheVariants.{NoRoom}
use Rattle.rs_core.specs.State.{RsRecord}
use Rattle.rs_core.specs.Renewal.{renewal_fault, renewed}

-- The first fault against the settings; or there is none, they have a service, and memory runs out.
abbrev pub RefusesSettings : RsRecord → SettingsRecord → RenewFault → Type 0
RefusesSettings rs settings NoRoom = (renewal_fault rs settings ≡ None) × (settings.services ≢ [])
RefusesSettings rs settings fault = renewal_fault rs settings ≡ Some fault

-- RS takes the settings; or it refuses them, and is unchanged.
abbrev pub TakesSettings : RsRecord → SettingsRecord → Result (Unit {0}) RenewFault → Option RsRecord → Type 0
TakesSettings rs settings (Ok done) after = (renewal_fault rs settings ≡ None) × (after ≡ Some (renewed rs settings))
TakesSettings rs settings (Err fault) after = RefusesSettings rs settings fault × (after ≡ Some rs)

-- The effect of other settings, whether or not RS has begun.
abbrev pub Renews : Option RsRecord → SettingsRecord → Option (Result (Unit {0}) RenewFault) → Option RsRecord → Type 0
Renews None settings result after = (result ≡ None) × (after ≡ None)
Renews (Some rs) settings (Some result) after = TakesSettings rs settings result after
Renews (Some rs) settings None after = ⊥
