-- Other settings beside the store are a supervisor's move.
use Rattle.std.proofs.Common.{◌≡◌, Option, Some, None, Result, Ok, Err, refl, sym, subst}
use Rattle.std.specs.Result.{IfErr, IfOk, OnOk}
use Rattle.std.proofs.lemmas.Option.{none-some}
use Rattle.process_keeper.specs.declared.keeper.Keeper.{Keeper}
use Rattle.rs_core.specs.declared.fault.RenewFault.{RenewFault}
use Rattle.rs_core.specs.declared.fault.RenewFault.TheVariants.{FewerSlots, OutOfRange, StillUp, NoRoom}
use Rattle.rs_core.specs.Renewal.{renewal_fault}
use Rattle.rs_core.specs.State.{RsRecord}
use Rattle.rs_settings.specs.Settings.{IsSettings, SettingsRecord}
use Rattle.rs_store.specs.Renewing.{RefusesSettings, Renews}
use Rattle.supervisor.specs.Moves.Move.{Renew}
use Rattle.supervisor.specs.Renewal.{RefusesRenewal, RefusesRenewalAs, first_left_busy, renewed_labels}
use Rattle.supervisor.specs.declared.fault.RenewalFault.{RenewalFault}
use Rattle.supervisor.specs.declared.fault.RenewalFault.TheVariants.{Refused}
use Rattle.node_supervisor.specs.Moves.{Supervises}
use Rattle.node_supervisor.specs.Renewal.{KeepsFor, KeepsForNode, RenewsNode}

-- the keeper for RS
pub keeps_for : (rs : RsRecord) (keeper : Keeper) (settings : SettingsRecord) (r : Result Keeper RenewalFault) →
    IfOk r (λ it. it.labels.items ≡ renewed_labels rs keeper.labels.items settings.services) →
    IfOk r (λ it. (it.next ≡ keeper.next) × (it.file ≡ keeper.file)) → OnOk r (renewal_fault rs settings ≡ None) →
    OnOk r (first_left_busy rs keeper.labels.items settings ≡ None) →
    IfErr r (λ fault. RefusesRenewal rs keeper.labels.items settings fault) → KeepsFor rs keeper settings r
keeps_for rs keeper settings (Ok it) a b c d e = (a, b.0, b.1, c, d)
keeps_for rs keeper settings (Err fault) a b c d e = e

-- RS takes the settings, and the keeper for it is there
pub taken : (old : Option RsRecord) (keeper it : Keeper) (settings : SettingsRecord) (after : Option RsRecord) (done : Unit {0}) →
    IsSettings settings →
    KeepsForNode old keeper settings (Some (Ok it)) → Renews old settings (Some (Ok done)) after →
    RenewsNode old keeper settings (Some (Ok done)) after it
taken None keeper it settings after done checked e h = absurd (none-some (Ok it) (sym e))
taken (Some rs) keeper it settings after done checked (labels, next, file, free, kept) (accepted, e) = (
  subst (λ (o : Option RsRecord). Supervises (Some rs) keeper (Renew settings) o it) (sym e)
      (record { checked = checked; accepted = free; kept = kept; takes = refl; follows = labels }, next),
  file,
)

-- RS refuses them
refused_as : (rs : RsRecord) (keeper : Keeper) (settings : SettingsRecord) (fault : RenewFault) →
    first_left_busy rs keeper.labels.items settings ≡ None →
    RefusesSettings rs settings fault → RefusesRenewalAs rs keeper.labels.items settings fault
refused_as rs keeper settings FewerSlots kept h = h
refused_as rs keeper settings OutOfRange kept h = h
refused_as rs keeper settings (StillUp i) kept h = h
refused_as rs keeper settings NoRoom kept h = (h.0, kept, h.1)

pub refused_by_rs : (old : Option RsRecord) (keeper it : Keeper) (settings : SettingsRecord) (fault : RenewFault) (after : Option RsRecord)
    →
    KeepsForNode old keeper settings (Some (Ok it)) → Renews old settings (Some (Err fault)) after →
    RenewsNode old keeper settings (Some (Err (Refused fault))) after keeper
refused_by_rs None keeper it settings fault after e h = absurd (none-some (Ok it) (sym e))
refused_by_rs (Some rs) keeper it settings fault after (labels, next, file, free, kept) (r, e) =
    (refused_as rs keeper settings fault kept r, e, refl)

pub no_rs : (old : Option RsRecord) (keeper it : Keeper) (settings : SettingsRecord) (after : Option RsRecord) →
    KeepsForNode old keeper settings (Some (Ok it)) → Renews old settings None after → RenewsNode old keeper settings None after keeper
no_rs None keeper it settings after e h = absurd (none-some (Ok it) (sym e))
no_rs (Some rs) keeper it settings after e h = absurd h

-- the keeper isn't
pub refused_before : (old : Option RsRecord) (keeper : Keeper) (settings : SettingsRecord) (fault : RenewalFault) →
    KeepsForNode old keeper settings (Some (Err fault)) → RenewsNode old keeper settings (Some (Err fault)) old keeper
refused_before None keeper settings fault e = absurd (none-some (Err fault) (sym e))
refused_before (Some rs) keeper settings fault r = (r, refl, refl)

pub not_begun : (old : Option RsRecord) (keeper : Keeper) (settings : SettingsRecord) → KeepsForNode old keeper settings None →
    RenewsNode old keeper settings None old keeper
not_begun None keeper settings e = (refl, refl, refl)
not_begun (Some rs) keeper settings e = absurd e
