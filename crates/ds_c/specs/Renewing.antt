-- What the call that gives RS other settings answers, and what it leaves in the handle.
use Rattle.std.specs.Prelude.{◌≡◌, ℕ, List, Option, None, Some}
use Rattle.c_rs.specs.declared.fault.SettingsRefusal.{SettingsRefusal}
use Rattle.c_keeper.specs.declared.session.KeeperSession.{KeeperSession}
use Rattle.c_keeper.specs.Renewing.{RenewsSession}
use Rattle.ds_c.specs.Calls.{is_closed}

-- Whether RS, beside the store of an open handle, and the keepers take the settings, or refuse them.
abbrev pub RenewsIn : KeeperSession → List ℕ → SettingsRefusal → ℕ → SettingsRefusal → Option KeeperSession → Type 0
RenewsIn old text before word fault None = ⊥
RenewsIn old text before word fault (Some new) = RenewsSession text old before word fault new

-- The effect of a call that gives RS other settings. If the handle is closed, it and the fault's place are unchanged.
abbrev pub RenewsServices : Option KeeperSession → List ℕ → SettingsRefusal → ℕ → SettingsRefusal → Option KeeperSession → Type 0
RenewsServices None text before word fault new = (word ≡ is_closed) × (fault ≡ before) × (new ≡ None)
RenewsServices (Some old) text before word fault new = RenewsIn old text before word fault new
