-- Other settings for RS, from a text.
use Rattle.std.specs.Prelude.{◌≡◌, ◌⊎◌, ℕ, List, Option, None, Some, Result, Ok, Err}
use Rattle.rs_settings.specs.Settings.{SettingsRecord, settings_of_any}
use Rattle.rs_settings.specs.declared.fault.SettingsFault.{SettingsFault}
use Rattle.rs_core.specs.State.{RsRecord}
use Rattle.rs_core.specs.declared.fault.RenewFault.{RenewFault}
use Rattle.rs_core.specs.declared.fault.RenewFault.TheVariants as faults
use Rattle.rs_store.specs.Renewing.{TakesSettings}
use Rattle.c_store.specs.declared.last.Last.TheVariants.{Nothing}
use Rattle.c_rs.specs.declared.fault.SettingsRefusal.{SettingsRefusal}
use Rattle.c_rs.specs.declared.session.RsSession.{RsSession}
use Rattle.c_rs.specs.Opening.{IsWhy, TellsFault, service_number}
use Rattle.c_rs.specs.Telling.{cause_number}

-- The number of a fault against settings: NoSlot for too few slots, BadFirst for a last slot that is out of range, AlreadyUp
-- for a service that is left out while it is up.
abbrev pub renewal_number : RenewFault → ℕ
renewal_number faults.FewerSlots = 32
renewal_number faults.OutOfRange = 22
renewal_number (faults.StillUp index) = 28
renewal_number faults.NoRoom = 20

-- The word of a renewal: 0 if it succeeds, else the number of the refusal.
abbrev pub renewed_word : Result (Unit {0}) RenewFault → ℕ
renewed_word (Ok done) = 0
renewed_word (Err fault) = renewal_number fault

-- The numbers of a service of the settings in force that is left out while it is up.
abbrev pub told_still_up : ℕ → SettingsRefusal
told_still_up index = record { line = 0; cause = 28; service = service_number (Some index) }

-- What the place of the fault holds after a renewal.
abbrev pub fault_after : SettingsRefusal → Result (Unit {0}) RenewFault → SettingsRefusal
fault_after before (Err (faults.StillUp index)) = told_still_up index
fault_after before (Err faults.FewerSlots) = before
fault_after before (Err faults.OutOfRange) = before
fault_after before (Err faults.NoRoom) = before
fault_after before (Ok done) = before

-- Whether the last answer is forgotten, since it may name services of the settings that were in force.
pub record IsForgotten (old new : RsSession) : Type 0 where
  pub store : new.session.node.store ≡ old.session.node.store
  pub last : new.session.last ≡ Nothing
  pub told : new.told ≡ None

-- Whether the store and the last answer are unchanged.
pub record IsKept (old new : RsSession) : Type 0 where
  pub store : new.session.node.store ≡ old.session.node.store
  pub last : new.session.last ≡ old.session.last
  pub told : new.told ≡ old.told

-- The store is unchanged. The last answer is forgotten when RS has taken the settings, and unchanged otherwise.
abbrev pub RestsAfter : Result (Unit {0}) RenewFault → RsSession → RsSession → Type 0
RestsAfter (Ok done) old new = IsForgotten old new
RestsAfter (Err fault) old new = IsKept old new

-- Whether the text has settings, which RS takes or refuses, as the word says.
pub record TextRenews (text : List ℕ) (rs : RsRecord) (old : RsSession) (before : SettingsRefusal) (word : ℕ) (fault : SettingsRefusal)
    (new : RsSession) : Type 0 where
  pub settings : SettingsRecord
  pub read : settings_of_any text ≡ Ok settings
  pub result : Result (Unit {0}) RenewFault
  pub takes : TakesSettings rs settings result new.session.node.services
  pub word_is : word ≡ renewed_word result
  pub fault_is : fault ≡ fault_after before result
  pub rests : RestsAfter result old new

-- Whether the text has a fault, or memory to read it runs out.
pub record TextIsBad (text : List ℕ) (rs : RsRecord) (old : RsSession) (word : ℕ) (fault : SettingsRefusal) (new : RsSession) : Type 0 where
  pub why : SettingsFault
  pub refused : IsWhy text why why.cause
  pub word_is : word ≡ cause_number why.cause
  pub told : TellsFault text why fault
  pub services : new.session.node.services ≡ Some rs
  pub rests : IsKept old new

-- Whether RS takes the settings of the text, or refuses them, as the word says.
abbrev pub RenewsBy : Option RsRecord → List ℕ → RsSession → SettingsRefusal → ℕ → SettingsRefusal → RsSession → Type 0
RenewsBy None text old before word fault new = (word ≡ 14) × (fault ≡ before) × (new ≡ old)
RenewsBy (Some rs) text old before word fault new = TextRenews text rs old before word fault new ⊎ TextIsBad text rs old word fault new

abbrev pub RenewsRs : List ℕ → RsSession → SettingsRefusal → ℕ → SettingsRefusal → RsSession → Type 0
RenewsRs text old before word fault new = RenewsBy old.session.node.services text old before word fault new
