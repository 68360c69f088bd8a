-- Why a run fails.
use Rattle.std.proofs.Common.{All, ◌≡◌, ◌⊎◌, ℕ, ◌/◌, ◌<◌, ◌≤◌, Bool, true, false, List, [], ◌∷◌, map, Option, None, Some, Result, Ok}
use Rattle.std.proofs.Common.{Err, IfErr, IsErrAnd, IsTrue}
use Rattle.std.proofs.Common.{refl, ap, sym, subst, ◌∙◌, inl, inr, arith}
use Rattle.std.specs.Prelude.{is_some, nat_le}
use Rattle.std.specs.Option.{option_or}
use Rattle.std.proofs.lemmas.Bool.{and_parts, leb-true}
use Rattle.std.proofs.lemmas.List.Elements.{All-head, All-tail}
use Rattle.ds_machine.specs.declared.command.Command.{Command}
use Rattle.ds_machine.specs.declared.refusal.Refusal.{Refusal}
use Rattle.desk_store.specs.CallFaults.{FailsAsking, FailsBy, TellsRefusal}
use Rattle.desk_store.specs.Record.{PassRecord}
use Rattle.desk_store.specs.declared.call_fault.CallFault.{CallFault}
use Rattle.desk_store.specs.declared.call_fault.CallFault.TheVariants as calls
use Rattle.desk_store.specs.RefreshFaults.{IsRefreshFault}
use Rattle.desk_store.specs.Follower.{FollowerRecord}
use Rattle.desk_store.specs.declared.refresh_fault.RefreshFault.{RefreshFault}
use Rattle.desk_store.specs.declared.refresh_fault.RefreshFault.TheVariants as refreshes
use Rattle.desk_store.specs.ExchangeFaults.{IsExchangeFault}
use Rattle.desk_store.specs.declared.exchange_fault.ExchangeFault.{ExchangeFault}
use Rattle.desk_store.specs.declared.exchange_fault.ExchangeFault.TheVariants as exchanges
use Rattle.ds_live.specs.Turns.{FailsFollowing}
use Rattle.ds_live.specs.Workers.{EndsBy, FailsTask, FailsToBeginTask, FailsToFinishTask, HasEnded, TookTask}
use Rattle.ds_live.specs.declared.worker_fault.WorkerFault.{WorkerFault}
use Rattle.ds_live.specs.declared.worker_fault.WorkerFault.TheVariants as workers
use Rattle.ds_live.specs.declared.task.Task.{Task}
use Rattle.ds_live.specs.declared.task.Task.TheVariants.{Exchange, Follow, Publish}
use Rattle.ds_live.specs.declared.worker.Worker.{Worker}
use Rattle.ds_live.specs.Fails.{FailsRunning, HasStopped, IsCallsFault, IsLiveFault}
use Rattle.ds_live.specs.Faults.{IsFaultOr, call_fault, exchange_fault, fault_or, first_fault, own_fault, refresh_fault, worker_fault}
use Rattle.ds_live.specs.Run.{IsReady, IsReadyTask, worker_count}
use Rattle.ds_live.specs.Sizes.{are_fit}
use Rattle.ds_live.specs.Tasks.{IsSubscriber}
use Rattle.ds_live.specs.declared.live_fault.LiveFault.{LiveFault}
use Rattle.ds_live.specs.declared.live_fault.LiveFault.TheVariants.{BadLimit, BadSizes, Desk, GateShut, NoRoom, NoThread, Refused, Stopped}
use Rattle.ds_live.specs.declared.sizes.Sizes.{Sizes}

-- ---- the faults of calls
refusal_calls : (refusal : Refusal) (fault : CallFault) → TellsRefusal refusal fault → IsCallsFault (call_fault fault)
refusal_calls refusal fault (inl told) = subst (λ (f : CallFault). IsCallsFault (call_fault f)) (sym told.1) tt
refusal_calls refusal fault (inr told) = subst (λ (f : CallFault). IsCallsFault (call_fault f)) (sym told.1) told.0

asked_calls : (p q : PassRecord) (command : Command) (fault : CallFault) → FailsAsking p q command fault → IsCallsFault (call_fault fault)
asked_calls p q command fault (inl h) = subst (λ (f : CallFault). IsCallsFault (call_fault f)) (sym h.2) h.1.fault_is
asked_calls p q command fault (inr h) = refusal_calls h.0 fault h.3

by_calls : (p q : PassRecord) (fault : CallFault) → FailsBy p q fault → IsCallsFault (call_fault fault)
by_calls p q (calls.Desk fault) h = h.cause.0
by_calls p q (calls.Refused refusal) h = h.cause.0
by_calls p q calls.NoRoom h = tt

refreshed_calls : (limit : ℕ) (p q : PassRecord) (f : FollowerRecord) (fault : RefreshFault) → 2 ≤ limit → limit ≤ 65536 →
    IsRefreshFault limit p q f fault → IsCallsFault (refresh_fault fault)
refreshed_calls limit p q f refreshes.BadLimit most few (inl h) = absurd (omega (arith, h, most))
refreshed_calls limit p q f refreshes.BadLimit most few (inr h) = absurd (omega (arith, h, few))
refreshed_calls limit p q f (refreshes.Call (calls.Desk fault)) most few h = asked_calls h.2.mid q _ (calls.Desk fault) h.2.fails
refreshed_calls limit p q f (refreshes.Call (calls.Refused refusal)) most few h = asked_calls h.2.mid q _ (calls.Refused refusal) h.2.fails
refreshed_calls limit p q f (refreshes.Call calls.NoRoom) most few h = tt

exchanged_calls : (p q r s : PassRecord) (fault : ExchangeFault) → IsExchangeFault p q r s fault → IsCallsFault (exchange_fault fault)
exchanged_calls p q r s (exchanges.Call (calls.Desk fault)) (inl h) = by_calls p q (calls.Desk fault) h
exchanged_calls p q r s (exchanges.Call (calls.Desk fault)) (inr h) = by_calls r s (calls.Desk fault) h
exchanged_calls p q r s (exchanges.Call (calls.Refused refusal)) h = by_calls p q (calls.Refused refusal) h
exchanged_calls p q r s (exchanges.Call calls.NoRoom) h = tt
exchanged_calls p q r s (exchanges.Stopped done fault) h = tt

-- ---- the faults of workers

-- a worker's own fault, which is one of its calls
abbrev pub OwnCalls : WorkerFault → Type 0
OwnCalls cause = (own_fault (Some cause) ≡ Some (worker_fault cause)) × IsCallsFault (worker_fault cause)

call_own : (cause : WorkerFault) (call : CallFault) → cause ≡ workers.Call call → IsCallsFault (call_fault call) → OwnCalls cause
call_own cause call e is = subst OwnCalls (sym e) (refl, is)

refresh_own : (cause : WorkerFault) (refresh : RefreshFault) → cause ≡ workers.Refresh refresh → IsCallsFault (refresh_fault refresh) →
    OwnCalls cause
refresh_own cause refresh e is = subst OwnCalls (sym e) (refl, is)

exchange_own : (cause : WorkerFault) (exchange : ExchangeFault) → cause ≡ workers.Exchange exchange →
    IsCallsFault (exchange_fault exchange) → OwnCalls cause
exchange_own cause exchange e is = subst OwnCalls (sym e) (refl, is)

followed_own : (p q : PassRecord) (f : FollowerRecord) (cause : WorkerFault) → f.sub / 8 < 16 → FailsFollowing p q f cause → OwnCalls cause
followed_own p q f cause small (inl h) = absurd (omega (arith, h.1, small))
followed_own p q f cause small (inr h) = refresh_own cause h.0 h.2 (refreshed_calls 8 h.1 q f h.0 (omega arith) (omega arith) h.3)

module _ (sizes : Sizes) (fit : IsTrue (are_fit sizes)) where
  few_subscribers : sizes.subscribers ≤ 8
  few_subscribers =
      let a = and_parts (nat_le 1 sizes.publishers) _ fit in
      let b = and_parts (nat_le sizes.publishers 8) _ a.1 in
      let c = and_parts (nat_le 1 sizes.subscribers) _ b.1 in
      let d = and_parts (nat_le sizes.subscribers 8) _ c.1 in
      leb-true sizes.subscribers 8 d.0

  few_servers : (index : ℕ) (f g : FollowerRecord) → IsSubscriber sizes index f → g.sub ≡ f.sub → g.sub / 8 < 16
  few_servers index f g is same = omega (arith, few_subscribers, is.from, is.below, is.sub, same)

  turned_own : (index other count : ℕ) (p q r : PassRecord) (t u w : Task PassRecord) (cause : WorkerFault) → IsReadyTask sizes index p t →
      TookTask index count p q t u
      → FailsTask other count q r u w cause → OwnCalls cause
  turned_own index other count p q r t Publish Publish cause ready took fails =
      call_own cause fails.0 fails.1 (asked_calls q r _ fails.0 fails.2)
  turned_own index other count p q r t Publish (Follow g) cause ready took fails = absurd fails
  turned_own index other count p q r t Publish (Exchange o next) cause ready took fails = absurd fails
  turned_own index other count p q r t (Follow f) Publish cause ready took fails = absurd fails
  turned_own index other count p q r Publish (Follow f) (Follow g) cause ready took fails = absurd took
  turned_own index other count p q r (Follow e) (Follow f) (Follow g) cause ready took fails =
      followed_own q r f cause (few_servers index e f ready.0 took.same.sub) fails
  turned_own index other count p q r (Exchange o from) (Follow f) (Follow g) cause ready took fails = absurd took
  turned_own index other count p q r t (Follow f) (Exchange o next) cause ready took fails = absurd fails
  turned_own index other count p q r t (Exchange o from) Publish cause ready took fails = absurd fails
  turned_own index other count p q r t (Exchange o from) (Follow g) cause ready took fails = absurd fails
  turned_own index other count p q r t (Exchange o from) (Exchange s next) cause ready took fails =
      exchange_own cause fails.0 fails.1 (exchanged_calls q r o s fails.0 fails.2.0)

-- that of a worker that can't finish
pub finished_own : (p q : PassRecord) (t u : Task PassRecord) (cause : WorkerFault) → FailsToFinishTask p q t u cause → OwnCalls cause
finished_own p q Publish Publish cause fails = absurd fails
finished_own p q Publish (Follow g) cause fails = absurd fails
finished_own p q Publish (Exchange s next) cause fails = absurd fails
finished_own p q (Follow f) Publish cause fails = absurd fails
finished_own p q (Follow f) (Follow g) cause fails =
    refresh_own cause fails.0 fails.1 (refreshed_calls 65536 fails.2.0 q fails.2.1 fails.0 (omega arith) (omega arith) fails.2.3)
finished_own p q (Follow f) (Exchange s next) cause fails = absurd fails
finished_own p q (Exchange r from) Publish cause fails = absurd fails
finished_own p q (Exchange r from) (Follow g) cause fails = absurd fails
finished_own p q (Exchange r from) (Exchange s next) cause fails =
    exchange_own cause fails.0 fails.1 (exchanged_calls fails.2.0 q fails.2.1 s fails.0 fails.2.4.0)

-- that of a publisher's label
begun_own : (index : ℕ) (p q : PassRecord) (t u : Task PassRecord) (cause : WorkerFault) → FailsToBeginTask index p q t u cause →
    OwnCalls cause
begun_own index p q Publish Publish cause fails = call_own cause fails.0 fails.1 (asked_calls p q _ fails.0 fails.2)
begun_own index p q Publish (Follow g) cause fails = absurd fails
begun_own index p q Publish (Exchange s next) cause fails = absurd fails
begun_own index p q (Follow f) u cause fails = absurd fails
begun_own index p q (Exchange r from) u cause fails = absurd fails

ready_below : (sizes : Sizes) (index : ℕ) (p : PassRecord) (t : Task PassRecord) → IsReadyTask sizes index p t → index < worker_count sizes
ready_below sizes index p Publish ready = omega (arith, ready.0)
ready_below sizes index p (Follow f) ready = omega (arith, ready.0.below)
ready_below sizes index p (Exchange r from) ready = omega (arith, ready.0)

no_fault : (told : LiveFault) (fault : Option WorkerFault) → fault ≡ None → own_fault fault ≡ Some told → ⊥
no_fault told fault none is = let no : None ≡ Some told = subst (λ (o : Option WorkerFault). own_fault o ≡ Some told) none is in absurd (cc)

or_either : (a b : Option LiveFault) (told : LiveFault) → fault_or a b ≡ Some told → (a ≡ Some told) ⊎ (b ≡ Some told)
or_either (Some x) b told is = inl is
or_either None b told is = inr is

-- ---- the fault of a run
module _ (answers : ℕ → ℕ → Bool → Type 0) (sizes : Sizes) where
  run_by_calls : (fault : LiveFault) → IsCallsFault fault → FailsRunning answers sizes fault → IsLiveFault answers sizes fault
  run_by_calls BadLimit is run = absurd is
  run_by_calls BadSizes is run = absurd is
  run_by_calls (Desk fault) is run = (is, run)
  run_by_calls (Refused refusal) is run = (is, run)
  run_by_calls (Stopped done refusal) is run = run
  run_by_calls GateShut is run = absurd is
  run_by_calls NoThread is run = absurd is
  run_by_calls NoRoom is run = tt

  of_cause : (cause : WorkerFault) (fault : LiveFault) → OwnCalls cause → own_fault (Some cause) ≡ Some fault →
      FailsRunning answers sizes fault → IsLiveFault answers sizes fault
  of_cause cause fault own is run = let same : worker_fault cause ≡ fault = (let both = sym own.0 ∙ is in cc) in
      run_by_calls fault (subst IsCallsFault same own.1) run

  turned_away : (cause : WorkerFault) (fault : LiveFault) (index turn : ℕ) → cause ≡ workers.GateShut →
      own_fault (Some cause) ≡ Some fault → index < worker_count sizes → turn ≤ sizes.changes
      → answers index turn false → FailsRunning answers sizes fault → IsLiveFault answers sizes fault
  turned_away cause fault index turn e is below few shut run =
      let same : GateShut ≡ fault = (let own : Some GateShut ≡ Some fault =
      subst (λ (c : WorkerFault). own_fault (Some c) ≡ Some fault) e is in cc) in
      subst (IsLiveFault answers sizes) same (index, turn, below, few, shut, subst (FailsRunning answers sizes) (sym same) run)

  not_given_up : (cause : WorkerFault) (fault : LiveFault) (told : _) → cause ≡ workers.GivenUp told →
      own_fault (Some cause) ≡ Some fault → IsLiveFault answers sizes fault
  not_given_up cause fault told e is = absurd
      (let none : None ≡ Some fault = subst (λ (c : WorkerFault). own_fault (Some c) ≡ Some fault) e is in cc)

  module _ (fit : IsTrue (are_fit sizes)) (fault : LiveFault) (run : FailsRunning answers sizes fault) where
    ended_run : (v w : Worker PassRecord) (cause : WorkerFault) → IsReady sizes v → EndsBy answers v w cause →
        own_fault (Some cause) ≡ Some fault → IsLiveFault answers sizes fault
    ended_run v w cause ready (inl h) is =
        turned_away cause fault v.index h.0 h.3 is (ready_below sizes v.index v.pass v.task ready.task) (omega (arith, h.1, ready.turns))
        h.4 run
    ended_run v w cause ready (inr (inl h)) is = not_given_up cause fault h.3 h.4 is
    ended_run v w cause ready (inr (inr (inl h))) is =
        of_cause cause fault (turned_own sizes fit v.index h.2.index h.0 v.pass h.2.pass w.pass v.task h.2.task w.task cause ready.task h.3
        h.5) is run
    ended_run v w cause ready (inr (inr (inr h))) is = of_cause cause fault (begun_own v.index v.pass w.pass v.task w.task cause h) is run

    ended_fault : (v w : Worker PassRecord) (own : Option WorkerFault) → IsReady sizes v → HasEnded answers v w own →
        own_fault own ≡ Some fault → IsLiveFault answers sizes fault
    ended_fault v w None ready ended is = absurd (no_fault fault None refl is)
    ended_fault v w (Some cause) ready ended is = ended_run v w cause ready ended is

    -- that of one worker
    stopped_fault : (w : Worker PassRecord) → HasStopped answers sizes w → own_fault w.fault ≡ Some fault → IsLiveFault answers sizes fault
    stopped_fault w h is = elim h.stops [
      | inl turns ↦ elim turns [
        | inl same ↦ absurd (no_fault fault w.fault (ap (λ (x : Worker PassRecord). x.fault) same ∙ h.ready.idle) is)
        | inr ended ↦ ended_fault h.v w w.fault h.ready ended is
      ]
      | inr after ↦ elim after.4 [
        | inl done ↦ absurd (no_fault fault w.fault (done.1 ∙ after.3) is)
        | inr fails ↦ of_cause fails.0 fault (finished_own after.0.pass w.pass after.0.task w.task fails.0 fails.1)
            (subst (λ (o : Option WorkerFault). own_fault o ≡ Some fault) fails.2 is) run
      ]
    ]

    -- that of the lowest one of some workers
    lowest_fault_of : (ws : List (Worker PassRecord)) → All (HasStopped answers sizes) ws →
        first_fault (map (λ (w : Worker PassRecord). w.fault) ws) ≡ Some fault → IsLiveFault answers sizes fault
    lowest_fault_of [] all is = absurd (let no : None ≡ Some fault = is in cc)
    lowest_fault_of (w ∷ ws) all is = elim (or_either (own_fault w.fault) (first_fault (map (λ (w : Worker PassRecord). w.fault) ws)) fault
        is) [
          | inl own ↦ stopped_fault w (All-head (HasStopped answers sizes) w ws all) own
          | inr rest ↦ lowest_fault_of ws (All-tail (HasStopped answers sizes) w ws all) rest
        ]

  pub run_fault : IsTrue (are_fit sizes) → (told : LiveFault) → (told ≡ NoRoom) ⊎ ((told ≡ NoThread) ⊎ FailsRunning answers sizes told) →
      IsLiveFault answers sizes told
  run_fault fit told (inl e) = subst (IsLiveFault answers sizes) (sym e) tt
  run_fault fit told (inr (inl e)) = subst (IsLiveFault answers sizes) (sym e) tt
  run_fault fit told (inr (inr run)) = lowest_fault_of fit told run run.workers run.stopped run.fault_is

-- ---- an earlier fault, or a later one
pub same_fault : (holds : LiveFault → Type 0) (f : Option LiveFault) → IsFaultOr holds f f
same_fault holds None = tt
same_fault holds (Some fault) = inl refl

pub room_or : (a : Option LiveFault) (x : LiveFault) → x ≡ NoRoom → IsFaultOr (λ told. told ≡ NoRoom) a (option_or a (Some x))
room_or (Some fault) x is = inl refl
room_or None x is = inr (refl, is)

pub none_of : (o : Option LiveFault) (b : Bool) → b ≡ is_some o → b ≡ false → o ≡ None
none_of None b is without = refl
none_of (Some fault) true is without = absurd (let wrong : true ≡ false = without in cc)
none_of (Some fault) false is without = absurd (let wrong : false ≡ true = is in cc)

-- what a run returns
pub reported_last : {R : Type 0} (P : LiveFault → Type 0) (fault : Option LiveFault) (result : Result R LiveFault) →
    IfErr result (λ told. (fault ≡ Some told) ⊎ (told ≡ NoRoom)) → P NoRoom
    → ((told : LiveFault) → fault ≡ Some told → P told) → IfErr result P
reported_last P fault (Ok r) is room then = tt
reported_last P fault (Err told) (inl same) room then = then told same
reported_last P fault (Err told) (inr e) room then = subst P (sym e) room

-- ---- exits by `?`
pub out_of_memory : {R : Type 0} (P : LiveFault → Type 0) (result : Result R LiveFault) (fault : LiveFault) →
    IsErrAnd result (λ f. f ≡ fault) → fault ≡ NoRoom → P NoRoom → IfErr result P
out_of_memory P (Ok r) fault is e p = absurd is
out_of_memory P (Err f) fault is e p = subst P (sym (is ∙ e)) p
