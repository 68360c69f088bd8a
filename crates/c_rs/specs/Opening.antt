-- Opening RS.
use Rattle.std.specs.Prelude.{◌≡◌, ◌⊎◌, ℕ, nat_lt, cond, List, Option, None, Some, Ok, Err}
use Rattle.rs_core.specs.State.{RsRecord}
use Rattle.rs_settings.specs.Fault.{no_room}
use Rattle.rs_settings.specs.Settings.{SettingsRecord, settings_of_any, MayTakeMemory}
use Rattle.rs_settings.specs.declared.fault.SettingsFault.{SettingsFault}
use Rattle.rs_settings.specs.declared.fault.SettingsCause.{SettingsCause}
use Rattle.rs_settings.specs.declared.fault.SettingsCause.TheVariants.{NoRoom}
use Rattle.rs_store.specs.Serving.{BeginsFirst}
use Rattle.rs_store.specs.declared.call.RsReply.{RsReply}
use Rattle.c_rs.specs.declared.fault.SettingsRefusal.{SettingsRefusal}
use Rattle.c_rs.specs.declared.session.RsSession.{RsSession}
use Rattle.c_rs.specs.Line.{IsFaultLine}
use Rattle.c_rs.specs.Telling.{begun_word, cause_number}

-- The number of a service, of which there are 64 at most; or that of the whole text.
abbrev pub service_number : Option ℕ → ℕ
service_number None = 4294967295
service_number (Some index) = cond (nat_lt index 64) index 4294967295

-- Whether these are the numbers of a fault of the text.
pub record TellsFault (text : List ℕ) (fault : SettingsFault) (told : SettingsRefusal) : Type 0 where
  pub line : IsFaultLine text fault.cause told.line
  pub cause : told.cause ≡ cause_number fault.cause
  pub service : told.service ≡ service_number fault.index

-- Whether the text has settings, with which RS begins, or not, as the word says.
pub record TextBegins (text : List ℕ) (next first : ℕ) (before : SettingsRefusal) (word : ℕ)
    (fault : SettingsRefusal) (new : Option RsRecord) : Type 0 where
  pub settings : SettingsRecord
  pub read : settings_of_any text ≡ Ok settings
  pub reply : RsReply
  pub begins : BeginsFirst settings next first reply new
  pub word_is : word ≡ begun_word reply
  pub fault_is : fault ≡ before

-- Whether the fault with this cause is the text's, or is that memory to read the text runs out.
abbrev pub IsWhy : List ℕ → SettingsFault → SettingsCause → Type 0
IsWhy text why NoRoom = MayTakeMemory text × (why ≡ no_room)
IsWhy text why cause = settings_of_any text ≡ Err why

-- Whether the text has a fault, or memory to read it runs out.
pub record TextIsRefused (text : List ℕ) (word : ℕ) (fault : SettingsRefusal) (new : Option RsRecord) : Type 0 where
  pub why : SettingsFault
  pub refused : IsWhy text why why.cause
  pub word_is : word ≡ cause_number why.cause
  pub told : TellsFault text why fault
  pub none : new ≡ None

-- Whether RS is opened, or refused, as the word says; once it is open, a further text is ignored.
abbrev pub OpensIf : Option RsRecord → List ℕ → ℕ → ℕ → SettingsRefusal → ℕ → SettingsRefusal → Option RsRecord → Type 0
OpensIf None text next first before word fault new = TextBegins text next first before word fault new ⊎ TextIsRefused text word fault new
OpensIf (Some rs) text next first before word fault new = (word ≡ 13) × (fault ≡ before) × (new ≡ Some rs)

-- Whether RS is opened so beside the store; the store and the last answer are unchanged.
pub record OpensRs (text : List ℕ) (next first : ℕ) (old : RsSession) (before : SettingsRefusal)
    (word : ℕ) (fault : SettingsRefusal) (new : RsSession) : Type 0 where
  pub opens : OpensIf old.session.node.services text next first before word fault new.session.node.services
  pub store : new.session.node.store ≡ old.session.node.store
  pub last : new.session.last ≡ old.session.last
  pub told : new.told ≡ old.told
