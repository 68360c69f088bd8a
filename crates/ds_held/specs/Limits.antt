-- The most subscriptions of a store, and the most keys of a holder.
use Rattle.std.specs.Prelude.{◌≡◌, ◌⊎◌, ℕ, Bool, ◌&&◌, ◌||◌, ◌==◌, if◌then◌else◌, Option, Some, None}

-- Both numbers.
pub record LimitsRecord : Type 0 where
  pub subs : ℕ
  pub keys : ℕ

abbrev pub limits_of : ℕ → ℕ → LimitsRecord
limits_of subs keys = record { subs = subs; keys = keys }

-- The limits of old traces.
abbrev pub smaller : LimitsRecord
smaller = limits_of 64 1024

-- The limits of everything else.
abbrev pub larger : LimitsRecord
larger = limits_of 128 4096

-- Whether the limits are one of the two; there are no others.
abbrev pub IsLimits : LimitsRecord → Type 0
IsLimits l = (l ≡ smaller) ⊎ (l ≡ larger)

-- Whether there are limits with these numbers.
abbrev pub are_limits : ℕ → ℕ → Bool
are_limits subs keys = subs == 64 && keys == 1024 || subs == 128 && keys == 4096

-- The limits with these numbers, if any.
abbrev pub limits_for : ℕ → ℕ → Option LimitsRecord
limits_for subs keys = if are_limits subs keys then Some (limits_of subs keys) else None
