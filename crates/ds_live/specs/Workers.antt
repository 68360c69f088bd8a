-- Workers that come back from their threads.
use Rattle.std.specs.Prelude.{◌≡◌, ◌⊎◌, ℕ, zero, suc, ◌<◌, ◌≤◌, Bool, true, false, List, [], ◌∷◌, ◌++◌, Option, Some, None}
use Rattle.history.specs.declared.entry.Entry.{Entry}
use Rattle.ds_live.specs.declared.given_up.Told.{Told}
use Rattle.desk_rule.specs.declared.view.View.{View}
use Rattle.desk.specs.declared.pass.Sight.{Ghosts}
use Rattle.desk.specs.Pass.{Pass}
use Rattle.ds_machine.specs.declared.command.Command.{Command}
use Rattle.ds_machine.specs.declared.reply.Reply.{Reply}
use Rattle.desk_store.specs.Called.{Made}
use Rattle.desk_store.specs.CallFaults.{FailsAsking}
use Rattle.desk_store.specs.Record.{Boxed, PassRecord, pass_record}
use Rattle.desk_store.specs.declared.call_fault.CallFault.{CallFault}
use Rattle.desk_store.specs.Follower.{FollowerRecord, IsSameFollower}
use Rattle.desk_store.specs.KeepsUp.{KeepsUpWith}
use Rattle.desk_store.specs.FollowerCalls.{AreOpenCalls, ChecksLast}
use Rattle.desk_store.specs.declared.refresh_fault.RefreshFault.{RefreshFault}
use Rattle.desk_store.specs.declared.exchange_fault.ExchangeFault.{ExchangeFault}
use Rattle.ds_live.specs.declared.worker_fault.WorkerFault.{WorkerFault}
use Rattle.ds_live.specs.declared.worker_fault.WorkerFault.TheVariants as faults
use Rattle.ds_live.specs.declared.task.Task.{Task}
use Rattle.ds_live.specs.declared.task.Task.TheVariants.{Exchange, Follow, Publish}
use Rattle.ds_live.specs.declared.worker.Worker.{Worker}
use Rattle.ds_live.specs.Commands.{each_below, publisher_label, publisher_number}
use Rattle.ds_live.specs.Homes.{Home, IsOfHome}
use Rattle.ds_live.specs.Turns.{FailsBringingUp, FailsExchanging, FailsFollowing, FailsHandingOver, HasCalled, HasExchanged}
use Rattle.ds_live.specs.Turns.{HasExchangedOften, HasHandedOver}
use Rattle.ds_live.specs.Turns.{HasFollowedOn, HasRefreshed, IsBroughtUp, IsHandedOver, WasAccepted, WereAccepted}

-- The type of a pass at a store's desk.
abbrev pub StorePass : (Z : Type 0) → Ghosts (View (Boxed Z) Command Reply) → Type 0
StorePass Z G = Pass (Boxed Z) Command Reply G

-- Whether the pass is one of the desk's, and made and learnt no note.
abbrev pub IsAtHome : {Z : Type 0} {G : Ghosts (View (Boxed Z) Command Reply)} → Home → StorePass Z G → Type 0
IsAtHome home p = IsOfHome home (pass_record p)

-- How many passes of the second desk a task has.
abbrev pub others_in : {P : Type 0} → Task P → ℕ
others_in (Exchange other cursor) = 1
others_in _ = 0

module _ {Z : Type 0} {G : Ghosts (View (Boxed Z) Command Reply)} where
  -- Whether the task fits the worker: a publisher is one of eight, a follower keeps up with the pass, and an exchange has a pass of the
  -- second desk.
  abbrev pub IsTask : Home → ℕ → StorePass Z G → Task (StorePass Z G) → Type 0
  IsTask second index pass Publish = index < 8
  IsTask second index pass (Follow follower) = KeepsUpWith (pass_record pass) follower
  IsTask second index pass (Exchange other cursor) = IsAtHome second other

  -- Whether the worker's pass is of the first desk, and its task's pass is of the second.
  pub record IsOf (first second : Home) (w : Worker (StorePass Z G)) : Type 0 where
    pub pass : IsAtHome first w.pass
    pub task : IsTask second w.index w.pass w.task

  -- Whether w is the worker v after calls of its own. Its number and its passes are the same, each still of its desk.
  pub record ComesBack (v w : Worker (StorePass Z G)) : Type 0 where
    pub same_index : w.index ≡ v.index
    pub same_turns : w.turns ≡ v.turns
    pub same_others : others_in w.task ≡ others_in v.task
    pub called : HasCalled (pass_record v.pass) (pass_record w.pass)
    pub still : (first second : Home) → IsOf first second v → IsOf first second w

  -- ---- workers by plain values
  abbrev pub plain_task : Task (StorePass Z G) → Task PassRecord
  plain_task Publish = Publish
  plain_task (Follow follower) = Follow follower
  plain_task (Exchange other cursor) = Exchange (pass_record other) cursor

  abbrev pub plain : Worker (StorePass Z G) → Worker PassRecord
  plain w = record { index = w.index; turns = w.turns; pass = pass_record w.pass; task = plain_task w.task; fault = w.fault }

-- ---- turns: the pass p and the first task become q and the second

-- The effect of a turn that succeeds: the publisher's number was overwritten, the follower was refreshed and keeps up, or one exchange was
-- made.
abbrev pub TakesTask : ℕ → ℕ → PassRecord → PassRecord → Task PassRecord → Task PassRecord → Type 0
TakesTask index turn p q Publish Publish = WasAccepted p q (publisher_number index turn)
TakesTask index turn p q (Follow f) (Follow g) = HasRefreshed p q f × KeepsUpWith q g × IsSameFollower f g
TakesTask index turn p q (Exchange r from) (Exchange s next) = (more : Bool) × HasExchanged p q r s from next more
TakesTask index turn p q Publish task = ⊥
TakesTask index turn p q (Follow f) task = ⊥
TakesTask index turn p q (Exchange r from) task = ⊥

-- The effect of this many turns from turn 0 on. A publisher first publishes its label, as RS; then its calls overwrite its number by 0, 1
-- and so on. A follower made 1 to 8 calls in each turn. Each exchange begins at the cursor of the one before it.
abbrev pub TookTask : ℕ → ℕ → PassRecord → PassRecord → Task PassRecord → Task PassRecord → Type 0
TookTask index count p q Publish Publish = WereAccepted p q (publisher_label index ∷ each_below (publisher_number index) count)
TookTask index count p q (Follow f) (Follow g) = HasFollowedOn count p q f g
TookTask index count p q (Exchange r from) (Exchange s next) = HasExchangedOften count p q r s from next
TookTask index count p q Publish task = ⊥
TookTask index count p q (Follow f) task = ⊥
TookTask index count p q (Exchange r from) task = ⊥

-- Whether the fault is that of this turn.
abbrev pub FailsTask : ℕ → ℕ → PassRecord → PassRecord → Task PassRecord → Task PassRecord → WorkerFault → Type 0
FailsTask index turn p q Publish Publish fault =
    (call : CallFault) × (fault ≡ faults.Call call) × FailsAsking p q (publisher_number index turn) call
FailsTask index turn p q (Follow f) (Follow g) fault = FailsFollowing p q f fault
FailsTask index turn p q (Exchange r from) (Exchange s next) fault =
    (exchange : ExchangeFault) × (fault ≡ faults.Exchange exchange) × FailsExchanging p q r s from exchange
FailsTask index turn p q Publish task fault = ⊥
FailsTask index turn p q (Follow f) task fault = ⊥
FailsTask index turn p q (Exchange r from) task fault = ⊥

-- Whether the fault is that of a publisher's label.
abbrev pub FailsToBeginTask : ℕ → PassRecord → PassRecord → Task PassRecord → Task PassRecord → WorkerFault → Type 0
FailsToBeginTask index p q Publish Publish fault =
    (call : CallFault) × (fault ≡ faults.Call call) × FailsAsking p q (publisher_label index) call
FailsToBeginTask index p q Publish task fault = ⊥
FailsToBeginTask index p q (Follow f) task fault = ⊥
FailsToBeginTask index p q (Exchange r from) task fault = ⊥

abbrev pub FailsToBegin : Worker PassRecord → Worker PassRecord → WorkerFault → Type 0
FailsToBegin v w fault = FailsToBeginTask v.index v.pass w.pass v.task w.task fault

abbrev pub TurnTaken : ℕ → Worker PassRecord → Worker PassRecord → Type 0
TurnTaken turn v w = TakesTask v.index turn v.pass w.pass v.task w.task

abbrev pub TookTurns : ℕ → Worker PassRecord → Worker PassRecord → Type 0
TookTurns count v w = TookTask v.index count v.pass w.pass v.task w.task

abbrev pub FailsTurn : ℕ → Worker PassRecord → Worker PassRecord → WorkerFault → Type 0
FailsTurn turn v w fault = FailsTask v.index turn v.pass w.pass v.task w.task fault

-- ---- the end of a worker's turns. `answers` are the gate's, to a worker before a turn.
module _ (answers : ℕ → ℕ → Bool → Type 0) where
  -- Whether the gate let the worker through before each turn below this one.
  abbrev pub LetsThrough : ℕ → ℕ → Type 0
  LetsThrough index zero = Unit {0}
  LetsThrough index (suc count) = LetsThrough index count × answers index count true

  -- Whether the worker took all of its turns, and was let through before each, and after the last.
  abbrev pub TookAll : Worker PassRecord → Worker PassRecord → Type 0
  TookAll v w = TookTurns v.turns v w × LetsThrough v.index (suc v.turns)

  -- Whether the fault ended the worker's turns: after some of them the gate turned it away, the run was given up, or the next turn failed.
  -- A publisher may fail before them, by its label.
  abbrev pub EndsBy : Worker PassRecord → Worker PassRecord → WorkerFault → Type 0
  EndsBy v w fault =
      ((count : ℕ) × (count ≤ v.turns) × TookTurns count v w × (fault ≡ faults.GateShut) × answers v.index count false)
      ⊎ (((count : ℕ) × (count ≤ v.turns) × TookTurns count v w × (told : Told) × (fault ≡ faults.GivenUp told))
      ⊎ (((count : ℕ) × (count < v.turns) × (u : Worker PassRecord) × TookTurns count v u × (u.index ≡ v.index)
      × FailsTurn count u w fault) ⊎ FailsToBegin v w fault))

  abbrev pub HasEnded : Worker PassRecord → Worker PassRecord → Option WorkerFault → Type 0
  HasEnded v w None = TookAll v w
  HasEnded v w (Some fault) = EndsBy v w fault

  -- Whether w is the worker v that wasn't started, or whose turns ended as its fault says.
  abbrev pub StopsTurns : Worker PassRecord → Worker PassRecord → Type 0
  StopsTurns v w = (w ≡ v) ⊎ HasEnded v w w.fault

  -- Whether w is the worker v after its turns.
  pub record Worked {Z : Type 0} {G : Ghosts (View (Boxed Z) Command Reply)} (v w : Worker (StorePass Z G)) : Type 0 where
    pub back : ComesBack v w
    pub ended : HasEnded (plain v) (plain w) w.fault

-- ---- after the turns of all workers

-- Whether q is the pass p after calls of the follower f, now g, of which only the last ended a refresh, and its map is up to date.
pub record HasBroughtUp (p q : PassRecord) (f g : FollowerRecord) : Type 0 where
  pub own : List (Entry Command Reply)
  pub last : Entry Command Reply
  pub stamp : ℕ
  pub after : ℕ
  pub made : Made p q (own ++ last ∷ [])
  pub open_calls : AreOpenCalls f.sub f.map.query f.stamp own (Some stamp)
  pub ends : ChecksLast f.sub last stamp after
  pub same : IsSameFollower f g
  pub brought : IsBroughtUp q g

-- Whether the task is done: a follower's map is up to date, or there is no more to exchange. A publisher's pass is unchanged.
abbrev pub FinishesTask : PassRecord → PassRecord → Task PassRecord → Task PassRecord → Type 0
FinishesTask p q Publish Publish = q ≡ p
FinishesTask p q (Follow f) (Follow g) = HasBroughtUp p q f g
FinishesTask p q (Exchange r from) (Exchange s next) = HasHandedOver p q r s from next × IsHandedOver q s
FinishesTask p q Publish task = ⊥
FinishesTask p q (Follow f) task = ⊥
FinishesTask p q (Exchange r from) task = ⊥

abbrev pub Finishes : Worker PassRecord → Worker PassRecord → Type 0
Finishes v w = FinishesTask v.pass w.pass v.task w.task

-- Whether the fault is why the task isn't done: a refresh or an exchange failed. A publisher has nothing to do.
abbrev pub FailsToFinishTask : PassRecord → PassRecord → Task PassRecord → Task PassRecord → WorkerFault → Type 0
FailsToFinishTask p q (Follow f) (Follow g) fault =
    (refresh : RefreshFault) × (fault ≡ faults.Refresh refresh) × FailsBringingUp p q f refresh
FailsToFinishTask p q (Exchange r from) (Exchange s next) fault =
    (exchange : ExchangeFault) × (fault ≡ faults.Exchange exchange) × FailsHandingOver p q r s from exchange
FailsToFinishTask p q Publish task fault = ⊥
FailsToFinishTask p q (Follow f) task fault = ⊥
FailsToFinishTask p q (Exchange r from) task fault = ⊥

abbrev pub FailsToFinish : Worker PassRecord → Worker PassRecord → WorkerFault → Type 0
FailsToFinish v w fault = FailsToFinishTask v.pass w.pass v.task w.task fault

-- Whether the task is done: a follower's map is up to date, or there is no more to exchange.
abbrev pub IsTaskDone : PassRecord → Task PassRecord → Type 0
IsTaskDone p Publish = Unit {0}
IsTaskDone p (Follow g) = IsBroughtUp p g
IsTaskDone p (Exchange r next) = IsHandedOver p r

abbrev pub IsAtEnd : Worker PassRecord → Type 0
IsAtEnd w = IsTaskDone w.pass w.task
