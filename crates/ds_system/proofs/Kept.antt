-- The invariant of RS, the numbers and what was made, in every system.
use Rattle.std.proofs.Common.{◌≡◌, ℕ, ◌<◌, ◌≤◌, true, List, length, get_or, ◌⊎◌, Contains}
use Rattle.ds_names.specs.Endpoint.{EndpointRecord}
use Rattle.ds_names.specs.declared.version.Version.{Version}
use Rattle.ds_entry.specs.Change.{ChangeRecord, is_of_kind}
use Rattle.ds_entry.specs.declared.item.Item.TheVariants.{Change as Changed}
use Rattle.rs_settings.specs.declared.service.Service.{Service}
use Rattle.rs_settings.specs.Settings.{SettingsRecord, IsSettings}
use Rattle.rs_core.specs.declared.state.State.TheVariants.{Up}
use Rattle.rs_core.specs.declared.state.Running.{Running}
use Rattle.rs_core.specs.Action.{version, label_put, label_gone}
use Rattle.rs_core.specs.Numbering.{NumbererRecord}
use Rattle.rs_core.specs.State.{RsRecord, state_at, no_service}
use Rattle.ds_replica.specs.Known.{Account}
use Rattle.ds_system.specs.Drawing.{numberer_at, is_declared}
use Rattle.ds_system.specs.Numbers.{IsBefore, NumbersAreDrawnOnce}

-- the service at an index, and its label
abbrev pub service_in : SettingsRecord → ℕ → Service
service_in settings i = get_or settings.services i no_service

abbrev pub label_of_service : SettingsRecord → ℕ → List ℕ
label_of_service settings i = (service_in settings i).label

-- the next version of the numbers
abbrev pub next_version : NumbererRecord → Version
next_version n = version n.generation n.next

-- ---- a change that was made
-- it puts the label of an instance that was started
pub record IsLabelPut (settings : SettingsRecord) (next : ℕ) (c : ChangeRecord) : Type 0 where
  pub place : ℕ
  pub endpoint : EndpointRecord
  pub is : c ≡ label_put (label_of_service settings place) endpoint
  pub some : 0 < endpoint.generation
  pub below : endpoint.generation < next

-- it deletes a label
pub record IsLabelGone (settings : SettingsRecord) (c : ChangeRecord) : Type 0 where
  pub place : ℕ
  pub generation : ℕ
  pub is : c ≡ label_gone (label_of_service settings place) generation

-- it is an entry of a service that declares the name, and drew its version
pub record IsEntry (settings : SettingsRecord) (numberers : List NumbererRecord) (c : ChangeRecord) : Type 0 where
  pub place : ℕ
  pub there : place < length settings.services
  pub owner : c.owner ≡ label_of_service settings place
  pub declared : is_declared (service_in settings place) c.key ≡ true
  pub kind : is_of_kind c.key.kind c.body ≡ true
  pub drawn : IsBefore c.version (next_version (numberer_at numberers place))

abbrev pub IsMade : SettingsRecord → ℕ → List NumbererRecord → ChangeRecord → Type 0
IsMade settings next numberers c = IsLabelPut settings next c ⊎ (IsLabelGone settings c ⊎ IsEntry settings numberers c)

-- ---- what is kept
pub record IsKept (rs : RsRecord) (numberers : List NumbererRecord) (made : List ChangeRecord) : Type 0 where
  pub settings : IsSettings rs.settings
  pub count : length numberers ≡ length rs.settings.services
  pub some : 1 ≤ rs.next
  pub each : (c : ChangeRecord) → Contains made c → IsMade rs.settings rs.next numberers c
  -- no two labels were put in one generation
  pub puts : (l m : List ℕ) (e f : EndpointRecord) → Contains made (label_put l e) → Contains made (label_put m f) →
      e.generation ≡ f.generation → label_put l e ≡ label_put m f
  pub drawn : NumbersAreDrawnOnce made
  -- the label of every running instance was put
  pub runs : (i : ℕ) (r : Running) → state_at rs i ≡ Up r → Contains made (label_put (label_of_service rs.settings i) r.endpoint)
  -- numbers are of no later generation than their running instance, and of no generation still to come
  pub ahead : (i : ℕ) (r : Running) → state_at rs i ≡ Up r → (numberer_at numberers i).generation ≤ r.endpoint.generation
  pub low : (i : ℕ) → (numberer_at numberers i).generation < rs.next

-- all changes that Asks brought in were made
abbrev pub AreAllMade : List ChangeRecord → Account → Type 0
AreAllMade made account = (c : ChangeRecord) → Contains account.brought (Changed c) → Contains made c
