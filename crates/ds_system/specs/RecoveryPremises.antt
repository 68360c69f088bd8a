-- The premises of recovery. Without any one of them, the law is false. An example meets them all.
use Rattle.std.specs.Prelude.{◌≡◌, ℕ, true, List, ◌++◌, Contains}
use Rattle.rs_core.specs.declared.action.Action.{Action}
use Rattle.rs_core.specs.declared.state.Running.{Running}
use Rattle.rs_core.specs.declared.state.State.TheVariants.{Up, Waiting}
use Rattle.rs_core.specs.declared.state.Pause.{Pause}
use Rattle.rs_core.specs.Says.{label_at}
use Rattle.rs_core.specs.State.{state_at}
use Rattle.rs_settings.specs.Settings.{SettingsRecord}
use Rattle.ds_replica.specs.declared.seed.Seed.{Seed}
use Rattle.ds_replica.specs.declared.event.Side.{Side}
use Rattle.ds_replica.specs.Known.{MapAccount, store_of}
use Rattle.ds_replica.specs.CaughtUp.{HasAll}
use Rattle.ds_system.specs.declared.event.Table.{Table}
use Rattle.ds_system.specs.declared.event.Table.TheVariants.{File}
use Rattle.ds_system.specs.System.{System, table_at, map_number}
use Rattle.ds_system.specs.Sending.{must_look, is_whole}
use Rattle.ds_system.specs.Happening.{SystemEntry, SystemDoes, SystemRun}
use Rattle.ds_system.specs.Start.{IsNew, account_since}
use Rattle.ds_system.specs.Recovery.{label_of_instance, HasItem, IsServedBy, Recovers}

-- The premises of a follow. The map has all of a store, which knows the instance's label, and nothing ended the follow early.
pub record ServingNeeds : Type 0 where
  pub known : ¬ ((settings : SettingsRecord) (a b : Seed) (next : ℕ) (s t u : System) (entries : List SystemEntry) (entry : SystemEntry)
      (table : Table) (i : ℕ) (r : Running) (side : Side) (map : MapAccount) →
      IsNew settings a b next s → SystemRun s entries t → SystemDoes t entry.event entry.outcome entry.steps u →
      must_look entry.event entry.outcome table ≡ true → is_whole entry.outcome ≡ true → state_at t.rs i ≡ Up r →
      HasAll (account_since a b entries) (map_number table) map side →
      IsServedBy (table_at u table) (label_at t.rs i) r.endpoint)
  pub all : ¬ ((settings : SettingsRecord) (a b : Seed) (next : ℕ) (s t u : System) (entries : List SystemEntry) (entry : SystemEntry)
      (table : Table) (i : ℕ) (r : Running) (side : Side) →
      IsNew settings a b next s → SystemRun s entries t → SystemDoes t entry.event entry.outcome entry.steps u →
      must_look entry.event entry.outcome table ≡ true → is_whole entry.outcome ≡ true → state_at t.rs i ≡ Up r →
      Contains (store_of (account_since a b entries) side).known (label_of_instance t.rs i r) →
      IsServedBy (table_at u table) (label_at t.rs i) r.endpoint)
  pub whole : ¬ ((settings : SettingsRecord) (a b : Seed) (next : ℕ) (s t u : System) (entries : List SystemEntry) (entry : SystemEntry)
      (table : Table) (i : ℕ) (r : Running) →
      IsNew settings a b next s → SystemRun s entries t → SystemDoes t entry.event entry.outcome entry.steps u →
      must_look entry.event entry.outcome table ≡ true → state_at t.rs i ≡ Up r →
      HasItem (account_since a b entries) table (label_of_instance t.rs i r) →
      IsServedBy (table_at u table) (label_at t.rs i) r.endpoint)

-- An example in which all premises hold: a service waits at the start of the recovery, its tick is settled, and its new label
-- reaches the file server's map.
pub record RecoveryHolds : Type 0 where
  pub settings : SettingsRecord
  pub a : Seed
  pub b : Seed
  pub next : ℕ
  pub start : System
  pub before : System
  pub after : System
  pub entries : List SystemEntry
  pub tick : ℕ
  pub steps : List (List Action)
  pub reports : List SystemEntry
  pub between : List SystemEntry
  pub follow : SystemEntry
  pub new : IsNew settings a b next start
  pub run : SystemRun start entries before
  pub recovers : Recovers before tick steps reports between follow after
  pub place : ℕ
  pub pause : Pause
  pub waited : state_at before.rs place ≡ Waiting pause
  pub instance : Running
  pub runs : state_at after.rs place ≡ Up instance
  pub has : HasItem (account_since a b (entries ++ reports ++ between)) File (label_of_instance after.rs place instance)
