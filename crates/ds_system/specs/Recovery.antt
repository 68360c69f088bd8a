-- Recovery of drivers: when RS's ticks have settled and its labels have reached a server's map, the server's requests are
-- with the instances that run.
use Rattle.std.specs.Prelude.{◌≡◌, ℕ, ◌≤◌, Bool, true, false, List, [], ◌∷◌, ◌++◌, length, Some, Contains}
use Rattle.std.specs.List.{AllByRecursion, AllZip}
use Rattle.ds_names.specs.Endpoint.{EndpointRecord}
use Rattle.ds_entry.specs.declared.item.Item.{Item}
use Rattle.ds_entry.specs.declared.item.Item.TheVariants.{Change as Changed}
use Rattle.rs_core.specs.declared.action.Action.{Action}
use Rattle.rs_core.specs.declared.event.Event.TheVariants.{Tick}
use Rattle.rs_core.specs.declared.state.Running.{Running}
use Rattle.rs_core.specs.declared.state.State.TheVariants.{Up}
use Rattle.rs_core.specs.Action.{label_put}
use Rattle.rs_core.specs.Says.{label_at}
use Rattle.rs_core.specs.Settling.{AllAct, IsSettledState}
use Rattle.rs_core.specs.State.{RsRecord, state_at}
use Rattle.driver_tables.specs.Driver.{Driver, driver_of, has_label}
use Rattle.driver_tables.specs.DriverTable.{DriverTable, Request, pending, last_sent}
use Rattle.driver_tables.specs.Label.{endpoint_now}
use Rattle.rs_settings.specs.Settings.{SettingsRecord}
use Rattle.ds_replica.specs.declared.seed.Seed.{Seed}
use Rattle.ds_replica.specs.declared.event.Side.{Side}
use Rattle.ds_replica.specs.Known.{Account, MapAccount, store_of}
use Rattle.ds_replica.specs.CaughtUp.{HasAll}
use Rattle.ds_machine.specs.declared.reply.Reply.{Reply}
use Rattle.ds_system.specs.declared.event.Table.{Table}
use Rattle.ds_system.specs.declared.event.SystemEvent.{SystemEvent}
use Rattle.ds_system.specs.declared.event.SystemEvent.TheVariants.{Service, Follow}
use Rattle.ds_system.specs.declared.outcome.SystemOutcome.TheVariants.{Acted}
use Rattle.ds_system.specs.System.{System, table_at, map_number}
use Rattle.ds_system.specs.Sending.{must_look, is_whole}
use Rattle.ds_system.specs.Happening.{SystemEntry, SystemDoes, SystemRun}
use Rattle.ds_system.specs.Start.{IsNew, account_since}

-- ---- one follow

-- The change by which RS put the label of an instance of the service at an index.
abbrev pub label_of_instance : RsRecord → ℕ → Running → Item
label_of_instance rs i r = Changed (label_put (label_at rs i) r.endpoint)

-- Whether the server's map has all of some store that knows this item.
pub record HasItem (account : Account) (table : Table) (item : Item) : Type 0 where
  pub side : Side
  pub known : Contains (store_of account side).known item
  pub map : MapAccount
  pub all : HasAll account (map_number table) map side

-- Whether the driver of each unit with the label has this endpoint, and each pending request to such a unit was last sent to it.
pub record IsServedBy (t : DriverTable) (label : List ℕ) (e : EndpointRecord) : Type 0 where
  pub drivers : has_label t.units label ≡ true → endpoint_now t.states label ≡ Some e
  pub requests : (r : Request) (d : Driver) → Contains (pending t) r → driver_of t.units r.unit ≡ Some d → d.label ≡ label →
      last_sent t.sends r.id ≡ Some e

-- Whether each server that follows its map in the event, which nothing ended early, is then served by the running instance
-- of each service whose label reached its map.
abbrev pub ServesInstances : Account → System → SystemEntry → System → Type 0
ServesInstances account s entry t =
    (table : Table) (i : ℕ) (r : Running) → must_look entry.event entry.outcome table ≡ true → is_whole entry.outcome ≡ true →
    state_at s.rs i ≡ Up r → HasItem account table (label_of_instance s.rs i r) →
    IsServedBy (table_at t table) (label_at s.rs i) r.endpoint

-- A law: so it is in every event of every system.
abbrev pub InstancesServe : Type 0
InstancesServe =
    (settings : SettingsRecord) (a b : Seed) (next : ℕ) (s t u : System) (entries : List SystemEntry) (entry : SystemEntry) →
    IsNew settings a b next s → SystemRun s entries t → SystemDoes t entry.event entry.outcome entry.steps u →
    ServesInstances (account_since a b entries) t entry u

-- ---- recovery

-- Whether the event is reported to RS.
abbrev pub is_reported : SystemEvent → Bool
is_reported (Service event tick side) = true
is_reported _ = false

-- Whether the entry is an accepted report of the tick, with these actions.
pub record IsTick (tick : ℕ) (entry : SystemEntry) (actions : List Action) : Type 0 where
  pub side : Side
  pub replies : List Reply
  pub event_is : entry.event ≡ Service Tick tick side
  pub outcome_is : entry.outcome ≡ Acted actions replies

-- Whether a tick is reported until RS has no action, nothing else is reported afterwards, and both servers then follow their
-- maps to the end.
pub record Recovers (s : System) (tick : ℕ) (steps : List (List Action)) (reports between : List SystemEntry)
    (follow : SystemEntry) (u : System) : Type 0 where
  pub settled : System
  pub reported : SystemRun s reports settled
  pub ticks : AllZip (IsTick tick) reports (steps ++ [] ∷ [])
  pub acted : AllAct steps
  pub told : System
  pub led : SystemRun settled between told
  pub quiet : AllByRecursion (λ (entry : SystemEntry). is_reported entry.event ≡ false) between
  pub follows : SystemDoes told follow.event follow.outcome follow.steps u
  pub event_is : follow.event ≡ Follow
  pub whole : is_whole follow.outcome ≡ true

-- The state after it: RS is settled, and each instance that runs serves both servers, if its label reached their maps.
pub record AreRecovered (account : Account) (tick : ℕ) (s u : System) : Type 0 where
  -- each service whose wait was over runs, under a new generation; what else became of services is here too
  pub rs : IsSettledState tick s.rs u.rs
  pub served : (table : Table) (i : ℕ) (r : Running) → state_at u.rs i ≡ Up r → HasItem account table (label_of_instance u.rs i r) →
      IsServedBy (table_at u table) (label_at u.rs i) r.endpoint

-- A law: whatever happened since a system was new, there are at most as many such reports with actions as services, and
-- the drivers are recovered.
abbrev pub DriversRecover : Type 0
DriversRecover =
    (settings : SettingsRecord) (a b : Seed) (next : ℕ) (start s u : System) (entries : List SystemEntry)
    (tick : ℕ) (steps : List (List Action)) (reports between : List SystemEntry) (follow : SystemEntry) →
    IsNew settings a b next start → SystemRun start entries s → Recovers s tick steps reports between follow u →
    (length steps ≤ length settings.services) × AreRecovered (account_since a b (entries ++ reports ++ between)) tick s u
