-- What the two formats of settings have in common, and what only the second one has.
use Rattle.std.specs.Prelude.{◌≡◌, codes, All, None, Ok}
use Rattle.toml.specs.Data.{Members, get_member}
use Rattle.rs_settings.specs.declared.service.Service.{Service}
use Rattle.rs_settings.specs.Settings.{SettingsRecord, settings_in, settings_in_any}

-- A law: a document without a field `format` at its top has the same settings, or the same fault, for a reader of format 1 and for one of
-- both formats.
abbrev pub FormatsAgree : Type 0
FormatsAgree = (doc : Members) → get_member (codes "format") doc ≡ None → settings_in_any doc ≡ settings_in doc

-- Whether the service has nothing that only format 2 can give it.
pub record HasFirstFieldsAlone (s : Service) : Type 0 where
  pub complains : s.complains ≡ None
  pub connects : s.connects ≡ None
  pub forget : s.forget ≡ 0
  pub startup : s.startup ≡ 0

-- A law: a service of format 1 has nothing of format 2.
abbrev pub FirstIsPlain : Type 0
FirstIsPlain = (doc : Members) (s : SettingsRecord) → settings_in doc ≡ Ok s → All HasFirstFieldsAlone s.services
