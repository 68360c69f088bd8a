-- Other settings while processes run: each service keeps its processes by its label.
use Rattle.std.specs.Prelude.{◌≡◌, ◌≢◌, ℕ, map, List, [], Option, None, Some}
use Rattle.process_keeper.specs.Renewal.{first_forgotten, lifecycle_from}
use Rattle.process_keeper.specs.declared.lifecycle.Lifecycle.{Lifecycle}
use Rattle.rs_core.specs.declared.fault.RenewFault.{RenewFault}
use Rattle.rs_core.specs.declared.fault.RenewFault.TheVariants.{NoRoom}
use Rattle.rs_core.specs.Renewal.{renewal_fault, renewed}
use Rattle.rs_core.specs.Says.{place_of_label}
use Rattle.rs_core.specs.State.{RsRecord}
use Rattle.rs_settings.specs.Settings.{IsSettings, SettingsRecord}
use Rattle.rs_settings.specs.declared.service.Service.{Service}
use Rattle.supervisor.specs.declared.fault.RenewalFault.{RenewalFault}
use Rattle.supervisor.specs.declared.fault.RenewalFault.TheVariants.{Refused, StillBusy}

-- The numbers that the services' labels have now, if they have one.
abbrev pub sources_of : RsRecord → List Service → List (Option ℕ)
sources_of rs services = map (λ service. place_of_label rs service.label) services

-- The processes of the services: those of their labels.
abbrev pub renewed_labels : RsRecord → List Lifecycle → List Service → List Lifecycle
renewed_labels rs labels services = map (lifecycle_from labels) (sources_of rs services)

-- The number of the first label that the settings lack, and that isn't idle.
abbrev pub first_left_busy : RsRecord → List Lifecycle → SettingsRecord → Option ℕ
first_left_busy rs labels settings = first_forgotten (sources_of rs settings.services) 0 labels

-- Whether the fault applies to the settings: RS's first, out of memory last.
abbrev pub RefusesRenewalAs : RsRecord → List Lifecycle → SettingsRecord → RenewFault → Type 0
RefusesRenewalAs rs labels settings NoRoom =
    (renewal_fault rs settings ≡ None) × (first_left_busy rs labels settings ≡ None) × (settings.services ≢ [])
RefusesRenewalAs rs labels settings fault = renewal_fault rs settings ≡ Some fault

abbrev pub RefusesRenewal : RsRecord → List Lifecycle → SettingsRecord → RenewalFault → Type 0
RefusesRenewal rs labels settings (Refused fault) = RefusesRenewalAs rs labels settings fault
RefusesRenewal rs labels settings (StillBusy k) =
    (renewal_fault rs settings ≡ None) × (first_left_busy rs labels settings ≡ Some k)

-- RS has the settings, and each of their services the state and the processes that its label had.
pub record IsRenewed (rs : RsRecord) (labels : List Lifecycle) (settings : SettingsRecord) (after : RsRecord) (new : List Lifecycle)
    : Type 0 where
  pub checked : IsSettings settings
  pub accepted : renewal_fault rs settings ≡ None
  pub kept : first_left_busy rs labels settings ≡ None
  pub takes : after ≡ renewed rs settings
  pub follows : new ≡ renewed_labels rs labels settings.services
