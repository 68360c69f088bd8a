-- Other settings beside the store, while processes run.
use Rattle.std.specs.Prelude.{◌≡◌, Option, Some, None, Result, Ok, Err}
use Rattle.process_keeper.specs.declared.keeper.Keeper.{Keeper}
use Rattle.rs_core.specs.Renewal.{renewal_fault}
use Rattle.rs_core.specs.State.{RsRecord}
use Rattle.rs_settings.specs.Settings.{SettingsRecord}
use Rattle.supervisor.specs.Moves.Move.{Renew}
use Rattle.supervisor.specs.Renewal.{RefusesRenewal, first_left_busy, renewed_labels}
use Rattle.supervisor.specs.declared.fault.RenewalFault.{RenewalFault}
use Rattle.node_supervisor.specs.Moves.{Supervises}

-- Whether this is the keeper for RS once it has the settings, or why it won't have them.
abbrev pub KeepsFor : RsRecord → Keeper → SettingsRecord → Result Keeper RenewalFault → Type 0
KeepsFor rs keeper settings (Ok it) =
    (it.labels.items ≡ renewed_labels rs keeper.labels.items settings.services) × (it.next ≡ keeper.next) × (it.file ≡ keeper.file) ×
    (renewal_fault rs settings ≡ None) × (first_left_busy rs keeper.labels.items settings ≡ None)
KeepsFor rs keeper settings (Err fault) = RefusesRenewal rs keeper.labels.items settings fault

abbrev pub KeepsForNode : Option RsRecord → Keeper → SettingsRecord → Option (Result Keeper RenewalFault) → Type 0
KeepsForNode None keeper settings result = result ≡ None
KeepsForNode (Some rs) keeper settings (Some result) = KeepsFor rs keeper settings result
KeepsForNode (Some rs) keeper settings None = ⊥

-- RS and the keepers take the settings, as a supervisor does; or they are refused, and nothing changes.
abbrev pub TakesRenewal : RsRecord → Keeper → SettingsRecord → Result (Unit {0}) RenewalFault → Option RsRecord → Keeper → Type 0
TakesRenewal rs keeper settings (Ok done) after new = Supervises (Some rs) keeper (Renew settings) after new × (new.file ≡ keeper.file)
TakesRenewal rs keeper settings (Err fault) after new =
    RefusesRenewal rs keeper.labels.items settings fault × (after ≡ Some rs) × (new ≡ keeper)

-- The effect of other settings, whether or not RS has begun.
abbrev pub RenewsNode : Option RsRecord → Keeper → SettingsRecord → Option (Result (Unit {0}) RenewalFault) → Option RsRecord → Keeper →
    Type 0
RenewsNode None keeper settings result after new = (result ≡ None) × (after ≡ None) × (new ≡ keeper)
RenewsNode (Some rs) keeper settings (Some result) after new = TakesRenewal rs keeper settings result after new
RenewsNode (Some rs) keeper settings None after new = ⊥
