-- Why a run of threads fails.
use Rattle.std.specs.Prelude.{All, ◌≡◌, ◌≢◌, ◌⊎◌, ℕ, ◌<◌, ◌≤◌, Bool, false, List, map, Some, None}
use Rattle.std.specs.List.{flat_map}
use Rattle.desk.specs.declared.fault.DeskFault.TheVariants.{Worn}
use Rattle.desk_store.specs.Record.{PassRecord}
use Rattle.ds_content.specs.Content.{ContentRecord}
use Rattle.ds_machine.specs.declared.refusal.Refusal.TheVariants as refusals
use Rattle.ds_live.specs.declared.live_fault.LiveFault.{LiveFault}
use Rattle.ds_live.specs.declared.live_fault.LiveFault.TheVariants.{BadLimit, BadSizes, Desk, GateShut, NoRoom, NoThread, Refused, Stopped}
use Rattle.ds_live.specs.declared.sizes.Sizes.{Sizes}
use Rattle.ds_live.specs.declared.worker.Worker.{Worker}
use Rattle.ds_live.specs.Dismissed.{EndsAfter}
use Rattle.ds_live.specs.Faults.{first_fault}
use Rattle.ds_live.specs.Run.{ClosesAfter, IsReady, upward, worker_count}
use Rattle.ds_live.specs.Sizes.{are_fit}
use Rattle.ds_live.specs.Tasks.{passes_in}
use Rattle.ds_live.specs.Workers.{StopsTurns, TookAll}

-- Whether the fault is that of a call: no place is left at a desk, the store refused the command or stopped a Merge, or memory ran out.
-- Out-of-memory is never reported as the store's refusal.
abbrev pub IsCallsFault : LiveFault → Type 0
IsCallsFault (Desk fault) = fault ≡ Worn
IsCallsFault (Refused refusal) = refusal ≢ refusals.NoRoom
IsCallsFault (Stopped done refusal) = Unit {0}
IsCallsFault NoRoom = Unit {0}
IsCallsFault BadLimit = ⊥
IsCallsFault BadSizes = ⊥
IsCallsFault GateShut = ⊥
IsCallsFault NoThread = ⊥

module _ (answers : ℕ → ℕ → Bool → Type 0) (sizes : Sizes) where
  -- Whether w is the worker v after its turns, or after them and the time when workers finish.
  abbrev pub StopsAt : Worker PassRecord → Worker PassRecord → Type 0
  StopsAt v w =
      StopsTurns answers v w
      ⊎ ((u : Worker PassRecord) × TookAll answers v u × (u.index ≡ v.index) × (u.fault ≡ None) × EndsAfter u w)

  -- Whether w is a worker of a run of these sizes when the run ends. Before its turns it had called nothing.
  pub record HasStopped (w : Worker PassRecord) : Type 0 where
    pub v : Worker PassRecord
    pub ready : IsReady sizes v
    pub same_index : w.index ≡ v.index
    pub stops : StopsAt v w

  -- Whether a run of these sizes ended with this fault. There is one worker of each number, each has stopped, and the passes of all are
  -- those of the two closed desks. The fault is that of the lowest worker that failed.
  pub record FailsRunning (fault : LiveFault) : Type 0 where
    pub workers : List (Worker PassRecord)
    pub numbered : map (λ (w : Worker PassRecord). w.index) workers ≡ upward (worker_count sizes)
    pub stopped : All HasStopped workers
    pub here : ContentRecord
    pub there : ContentRecord
    pub first : ClosesAfter 1 (map (λ (w : Worker PassRecord). w.pass) workers) here
    pub second : ClosesAfter 2 (flat_map (λ (w : Worker PassRecord). passes_in w.task) workers) there
    pub fault_is : first_fault (map (λ (w : Worker PassRecord). w.fault) workers) ≡ Some fault

  -- Whether a run of these sizes may fail with this fault. BadSizes: the sizes don't fit. GateShut: the gate turned a worker away, before
  -- one of its turns or after the last. A desk's fault is Worn, since no pass makes a note; that and a store's refusal, of a command or of
  -- an item of a Merge, are those of a call of the lowest worker that failed, in one legal history of each desk that has exactly the calls
  -- of all workers. BadLimit isn't a run's.
  abbrev pub IsLiveFault : LiveFault → Type 0
  IsLiveFault BadSizes = are_fit sizes ≡ false
  IsLiveFault GateShut =
      (index : ℕ) × (turn : ℕ) × (index < worker_count sizes) × (turn ≤ sizes.changes) × answers index turn false × FailsRunning GateShut
  IsLiveFault NoThread = Unit {0}
  IsLiveFault BadLimit = ⊥
  IsLiveFault (Desk fault) = (fault ≡ Worn) × FailsRunning (Desk fault)
  IsLiveFault (Refused refusal) = (refusal ≢ refusals.NoRoom) × FailsRunning (Refused refusal)
  IsLiveFault (Stopped done refusal) = FailsRunning (Stopped done refusal)
  IsLiveFault NoRoom = Unit {0}
