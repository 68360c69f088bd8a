-- The line of a fault in a settings text.
use Rattle.std.specs.Prelude.{◌≡◌, ◌⊎◌, ℕ, ◌+◌, ◌==◌, ◌≤◌, List, length, take, count_by}
use Rattle.rs_settings.specs.declared.fault.SettingsCause.{SettingsCause}
use Rattle.rs_settings.specs.declared.fault.SettingsCause.TheVariants.{BadToml}

-- The line of the byte at a place, from 1: one more than there are newlines before it.
abbrev pub line_at : List ℕ → ℕ → ℕ
line_at text place = count_by (λ b. b == 10) (take place text) + 1

-- Whether this is the line of some place in the text; 0 if memory runs out, or the text isn't UTF-8.
abbrev pub IsTomlLine : List ℕ → ℕ → Type 0
IsTomlLine text line = (line ≡ 0) ⊎ ((place : ℕ) × (place ≤ length text) × (line ≡ line_at text place))

-- Whether this is the line of a fault with this cause.
abbrev pub IsFaultLine : List ℕ → SettingsCause → ℕ → Type 0
IsFaultLine text BadToml line = IsTomlLine text line
IsFaultLine text cause line = line ≡ 0
