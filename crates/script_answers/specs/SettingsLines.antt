-- The lines of settings.
use Rattle.std.specs.Prelude.{ℕ, List, [], ◌∷◌, codes}
use Rattle.std.specs.Fmt.{decimal}
use Rattle.ds_line.specs.Part.{part, texts, Word, Number}
use Rattle.ds_line.specs.Spelling.{space, newline}
use Rattle.rs_settings.specs.declared.fault.SettingsCause.{SettingsCause}
use Rattle.rs_settings.specs.declared.fault.SettingsCause.TheVariants as causes
use Rattle.script_answers.specs.Refusal.{refusal_line}

-- The line of settings: `services` and their number, `slots` and their number.
abbrev pub settings_line : ℕ → ℕ → List ℕ
settings_line services slots =
    texts (part Word (codes "services") ∷ space ∷ part Number (decimal services) ∷ space ∷ part Word (codes "slots") ∷ space
    ∷ part Number (decimal slots) ∷ newline ∷ [])

-- The word of a settings text's refusal: its name in lower case, but `toml` for a text that isn't TOML.
abbrev pub settings_cause_word : SettingsCause → List ℕ
settings_cause_word causes.BadToml = codes "toml"
settings_cause_word causes.UnknownField = codes "unknownfield"
settings_cause_word causes.Missing = codes "missing"
settings_cause_word causes.OutOfRange = codes "outofrange"
settings_cause_word causes.TwoLabels = codes "twolabels"
settings_cause_word causes.TwoUnits = codes "twounits"
settings_cause_word causes.SharedName = codes "sharedname"
settings_cause_word causes.NoRoom = codes "noroom"

-- The refusal of a settings text.
abbrev pub settings_fault_line : SettingsCause → List ℕ
settings_fault_line cause = refusal_line (settings_cause_word cause)

-- The refusal of settings after accepted ones.
abbrev pub exists_line : List ℕ
exists_line = refusal_line (codes "exists")
