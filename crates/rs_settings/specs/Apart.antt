-- What no two services of settings share, stated for any two of them.
use Rattle.std.specs.Prelude.{◌≡◌, ℕ, ◌<◌, Bool, true, false, List, [], length, slice_index_or}
use Rattle.rs_settings.specs.declared.service.Service.{Service}
use Rattle.rs_settings.specs.Shared.{share_label, share_unit, has_name, repeats}
use Rattle.rs_settings.specs.Settings.{SettingsRecord, IsSettings}

-- No two of the services share what the test compares.
abbrev pub AreDistinct : (Service → Service → Bool) → List Service → Type 0
AreDistinct share services =
    (i j : ℕ) (d : Service) → i < j → j < length services → share (slice_index_or services j d) (slice_index_or services i d) ≡ false

-- Labels differ, units of one kind differ, and only one service publishes a name, once.
pub record AreApart (services : List Service) : Type 0 where
  pub labels : AreDistinct share_label services
  pub units : AreDistinct share_unit services
  pub publishers : (i j : ℕ) (d : Service) (name : List ℕ) → i < j → j < length services →
      has_name (slice_index_or services i d).publishes name ≡ true → has_name (slice_index_or services j d).publishes name ≡ false
  pub once : (i : ℕ) (d : Service) → i < length services → repeats [] (slice_index_or services i d).publishes ≡ false

-- A law: the services of settings share no label, no unit and no published name.
abbrev pub ServicesAreApart : Type 0
ServicesAreApart = (s : SettingsRecord) → IsSettings s → AreApart s.services
