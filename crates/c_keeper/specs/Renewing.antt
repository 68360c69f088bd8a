-- Other settings for RS, from a text, and the processes of its services.
use Rattle.std.specs.Prelude.{◌≡◌, ◌⊎◌, ℕ, List, Option, None, Some, Result, Ok, Err}
use Rattle.rs_settings.specs.Settings.{SettingsRecord, settings_of_any}
use Rattle.rs_core.specs.State.{RsRecord}
use Rattle.supervisor.specs.declared.fault.RenewalFault.{RenewalFault}
use Rattle.supervisor.specs.declared.fault.RenewalFault.TheVariants.{Refused, StillBusy}
use Rattle.node_supervisor.specs.Renewal.{TakesRenewal}
use Rattle.node_supervisor.specs.declared.processes.Processes.{Processes}
use Rattle.c_rs.specs.declared.fault.SettingsRefusal.{SettingsRefusal}
use Rattle.c_rs.specs.declared.session.RsSession.{RsSession}
use Rattle.c_rs.specs.Opening.{service_number}
use Rattle.c_rs.specs.Renewing.{IsForgotten, IsKept, RenewsRs, TextIsBad, fault_after, renewal_number}
use Rattle.c_keeper.specs.declared.session.KeeperSession.{KeeperSession}
use Rattle.c_keeper.specs.Keeping.{KeepsIfOpen}

-- The number of a fault against settings: RS's, or IsBusy for a service that is left out while it is busy.
abbrev pub renewal_fault_number : RenewalFault → ℕ
renewal_fault_number (Refused fault) = renewal_number fault
renewal_fault_number (StillBusy index) = 44

-- The word of a renewal: 0 if it succeeds, else the number of the refusal.
abbrev pub renewal_word : Result (Unit {0}) RenewalFault → ℕ
renewal_word (Ok done) = 0
renewal_word (Err fault) = renewal_fault_number fault

-- The numbers of a service of the settings in force that is left out while it is busy.
abbrev pub still_busy_refusal : ℕ → SettingsRefusal
still_busy_refusal index = record { line = 0; cause = 44; service = service_number (Some index) }

-- What the place of the fault holds after a refusal: the service that is still up or busy, or what it held.
abbrev pub fault_after_refusal : SettingsRefusal → RenewalFault → SettingsRefusal
fault_after_refusal before (Refused fault) = fault_after before (Err fault)
fault_after_refusal before (StillBusy index) = still_busy_refusal index

-- What the place of the fault holds after a renewal.
abbrev pub fault_after_renewal : SettingsRefusal → Result (Unit {0}) RenewalFault → SettingsRefusal
fault_after_renewal before (Ok done) = before
fault_after_renewal before (Err fault) = fault_after_refusal before fault

-- The store is unchanged. The last answer is forgotten when RS has taken the settings, and unchanged otherwise.
abbrev pub RestsAfterRenewal : Result (Unit {0}) RenewalFault → RsSession → RsSession → Type 0
RestsAfterRenewal (Ok done) old new = IsForgotten old new
RestsAfterRenewal (Err fault) old new = IsKept old new

-- Whether the text has settings, which RS and the keepers take, as a move of a supervisor, or refuse, as the word says. If refused, both
-- are unchanged.
pub record TextRenewsKept (text : List ℕ) (rs : RsRecord) (old : RsSession) (p : Processes) (before : SettingsRefusal) (word : ℕ)
    (fault : SettingsRefusal) (new : RsSession) (q : Processes) : Type 0 where
  pub settings : SettingsRecord
  pub read : settings_of_any text ≡ Ok settings
  pub result : Result (Unit {0}) RenewalFault
  pub takes : TakesRenewal rs p.keeper settings result new.session.node.services q.keeper
  pub word_is : word ≡ renewal_word result
  pub fault_is : fault ≡ fault_after_renewal before result
  pub rests : RestsAfterRenewal result old new

-- Whether RS and the keepers take the settings of the text, or refuse them, as the word says.
abbrev pub RenewsKeptBy : Option RsRecord → List ℕ → RsSession → Processes → SettingsRefusal → ℕ → SettingsRefusal → RsSession → Processes →
    Type 0
RenewsKeptBy None text old p before word fault new q = (word ≡ 14) × (fault ≡ before) × (new ≡ old) × (q ≡ p)
RenewsKeptBy (Some rs) text old p before word fault new q =
    TextRenewsKept text rs old p before word fault new q ⊎ (TextIsBad text rs old word fault new × (q ≡ p))

-- The effect of other settings. Without keepers it is a session's.
abbrev pub RenewsSession : List ℕ → KeeperSession → SettingsRefusal → ℕ → SettingsRefusal → KeeperSession → Type 0
RenewsSession text old before word fault new =
    KeepsIfOpen (λ p q. RenewsKeptBy old.rs.session.node.services text old.rs p before word fault new.rs q)
    (RenewsRs text old.rs before word fault new.rs) old.processes new.processes
