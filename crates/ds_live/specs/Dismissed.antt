-- Workers that are dismissed, once they have finished or stopped.
use Rattle.std.specs.Prelude.{◌≡◌, ◌⊎◌, List, [], ◌∷◌, ◌++◌, map, Option, Some, None}
use Rattle.std.specs.List.{flat_map}
use Rattle.desk_rule.specs.declared.view.View.{View}
use Rattle.desk.specs.declared.pass.Sight.{Ghosts}
use Rattle.ds_machine.specs.declared.command.Command.{Command}
use Rattle.ds_machine.specs.declared.reply.Reply.{Reply}
use Rattle.desk_store.specs.Record.{Boxed, PassRecord}
use Rattle.desk_store.specs.Follower.{FollowerRecord}
use Rattle.ds_live.specs.Faults.{first_fault, lowest_fault, own_fault}
use Rattle.ds_live.specs.Workers.{ComesBack, FailsToFinish, Finishes, StorePass, plain}
use Rattle.ds_live.specs.declared.live_fault.LiveFault.{LiveFault}
use Rattle.ds_live.specs.declared.live_fault.LiveFault.TheVariants.{NoRoom}
use Rattle.ds_live.specs.declared.worker.Worker.{Worker}
use Rattle.ds_live.specs.declared.worker_fault.WorkerFault.{WorkerFault}
use Rattle.ds_live.specs.Tasks.{followers_in, passes_in}

-- Whether w is the worker v that finished, or couldn't and keeps its fault.
abbrev pub EndsAfter : Worker PassRecord → Worker PassRecord → Type 0
EndsAfter v w =
    (Finishes v w × (w.fault ≡ v.fault)) ⊎ ((cause : WorkerFault) × FailsToFinish v w cause × (w.fault ≡ Some cause))

-- Whether w is the worker v when it is dismissed. After an earlier fault it is unchanged, and it may be unchanged after another worker's.
abbrev pub IsLeft : Option LiveFault → Worker PassRecord → Worker PassRecord → Type 0
IsLeft (Some earlier) v w = w ≡ v
IsLeft None v w = (w ≡ v) ⊎ EndsAfter v w

-- Whether a worker keeps its fault, the first one, or a new fault is its own, the second one.
abbrev pub KeepsOwn : Option LiveFault → Option LiveFault → Option WorkerFault → Option WorkerFault → Type 0
KeepsOwn (Some earlier) fault v w = w ≡ v
KeepsOwn None None v w = w ≡ v
KeepsOwn None (Some told) v w = own_fault w ≡ Some told

-- Whether the fault of a run is that of the lowest worker. The first list has the workers' faults before they were dismissed, from the last
-- worker to worker 0. The second list has them afterwards, from worker 0 on. Memory may run out for the followers.
abbrev pub IsReported : Option LiveFault → Option LiveFault → List (Option WorkerFault) → List (Option WorkerFault) → Type 0
IsReported (Some earlier) fault vs ws = first_fault ws ≡ lowest_fault vs
IsReported None None vs ws = first_fault ws ≡ None
IsReported None (Some told) vs ws = (told ≡ NoRoom) ⊎ (first_fault ws ≡ Some told)

module _ {Z : Type 0} {G : Ghosts (View (Boxed Z) Command Reply)} where
  pub record HasLeft (earlier : Option LiveFault) (v w : Worker (StorePass Z G)) : Type 0 where
    pub back : ComesBack v w
    pub left : IsLeft earlier (plain v) (plain w)

  -- Whether each worker was dismissed. The first list begins with the last of the second.
  abbrev pub AreLeft : Option LiveFault → List (Worker (StorePass Z G)) → List (Worker (StorePass Z G)) → Type 0
  AreLeft earlier [] ws = ws ≡ []
  AreLeft earlier (v ∷ vs) ws =
      (rest : List (Worker (StorePass Z G))) × (w : Worker (StorePass Z G)) × (ws ≡ rest ++ w ∷ []) × AreLeft earlier vs rest
      × HasLeft earlier v w

  -- Whether these passes are those of the workers that were dismissed, and the fault is that of the lowest worker.
  pub record Leaves (earlier fault : Option LiveFault) (vs : List (Worker (StorePass Z G))) (passes others : List (StorePass Z G))
      : Type 0 where
    pub workers : List (Worker (StorePass Z G))
    pub left : AreLeft earlier vs workers
    pub passes_are : passes ≡ map (λ (w : Worker (StorePass Z G)). w.pass) workers
    pub others_are : others ≡ flat_map (λ (w : Worker (StorePass Z G)). passes_in w.task) workers
    pub reported : IsReported earlier fault (map (λ (v : Worker (StorePass Z G)). v.fault) vs)
        (map (λ (w : Worker (StorePass Z G)). w.fault) workers)

  pub record HasFinished (v w : Worker (StorePass Z G)) : Type 0 where
    pub back : ComesBack v w
    pub finishes : Finishes (plain v) (plain w)

  -- Whether each worker has finished. The first list begins with the last of the second.
  abbrev pub AreDismissed : List (Worker (StorePass Z G)) → List (Worker (StorePass Z G)) → Type 0
  AreDismissed [] ws = ws ≡ []
  AreDismissed (v ∷ vs) ws =
      (rest : List (Worker (StorePass Z G))) × (w : Worker (StorePass Z G)) × (ws ≡ rest ++ w ∷ []) × AreDismissed vs rest × HasFinished v w

  -- Whether these passes and followers are those of the workers that were dismissed.
  pub record HandBack (vs : List (Worker (StorePass Z G))) (passes others : List (StorePass Z G))
      (followers : List FollowerRecord) : Type 0 where
    pub workers : List (Worker (StorePass Z G))
    pub dismissed : AreDismissed vs workers
    pub passes_are : passes ≡ map (λ (w : Worker (StorePass Z G)). w.pass) workers
    pub others_are : others ≡ flat_map (λ (w : Worker (StorePass Z G)). passes_in w.task) workers
    pub followers_are : followers ≡ flat_map (λ (w : Worker (StorePass Z G)). followers_in w.task) workers
