-- The fault of a run, from the faults of its workers.
use Rattle.std.specs.Prelude.{◌≡◌, ◌⊎◌, Bool, true, false, List, [], ◌∷◌, Option, Some, None, IfSome}
use Rattle.desk_store.specs.declared.exchange_fault.ExchangeFault.{ExchangeFault}
use Rattle.desk_store.specs.declared.exchange_fault.ExchangeFault.TheVariants as exchanges
use Rattle.ds_live.specs.declared.live_fault.LiveFault.{LiveFault}
use Rattle.ds_live.specs.declared.live_fault.LiveFault.TheVariants.{BadLimit, Desk, GateShut, NoRoom, NoThread, Refused, Stopped}
use Rattle.desk_store.specs.declared.call_fault.CallFault.{CallFault}
use Rattle.desk_store.specs.declared.call_fault.CallFault.TheVariants as calls
use Rattle.desk_store.specs.declared.refresh_fault.RefreshFault.{RefreshFault}
use Rattle.desk_store.specs.declared.refresh_fault.RefreshFault.TheVariants as refreshes
use Rattle.ds_live.specs.declared.worker_fault.WorkerFault.{WorkerFault}
use Rattle.ds_live.specs.declared.worker_fault.WorkerFault.TheVariants as workers

-- ---- a fault, as a run reports it
abbrev pub call_fault : CallFault → LiveFault
call_fault (calls.Desk fault) = Desk fault
call_fault (calls.Refused refusal) = Refused refusal
call_fault calls.NoRoom = NoRoom

abbrev pub refresh_fault : RefreshFault → LiveFault
refresh_fault refreshes.BadLimit = BadLimit
refresh_fault (refreshes.Call fault) = call_fault fault

abbrev pub exchange_fault : ExchangeFault → LiveFault
exchange_fault (exchanges.Call fault) = call_fault fault
exchange_fault (exchanges.Stopped done fault) = Stopped done fault

abbrev pub worker_fault : WorkerFault → LiveFault
worker_fault (workers.Call fault) = call_fault fault
worker_fault (workers.Refresh fault) = refresh_fault fault
worker_fault (workers.Exchange fault) = exchange_fault fault
worker_fault workers.GateShut = GateShut
worker_fault (workers.GivenUp told) = NoThread

-- ---- the fault of several workers

-- The first fault if there is one, otherwise the second.
abbrev pub fault_or : Option LiveFault → Option LiveFault → Option LiveFault
fault_or (Some fault) other = Some fault
fault_or None other = other

-- The fault of a worker that failed. A worker ends without one if the run was given up.
abbrev pub own_fault : Option WorkerFault → Option LiveFault
own_fault None = None
own_fault (Some (workers.Call fault)) = Some (call_fault fault)
own_fault (Some (workers.Refresh fault)) = Some (refresh_fault fault)
own_fault (Some (workers.Exchange fault)) = Some (exchange_fault fault)
own_fault (Some workers.GateShut) = Some GateShut
own_fault (Some (workers.GivenUp told)) = None

-- The fault of the lowest worker that failed, in a list whose last worker is worker 0.
abbrev pub lowest_fault : List (Option WorkerFault) → Option LiveFault
lowest_fault [] = None
lowest_fault (f ∷ fs) = fault_or (lowest_fault fs) (own_fault f)

-- Like `lowest_fault`, in a list that begins with worker 0.
abbrev pub first_fault : List (Option WorkerFault) → Option LiveFault
first_fault [] = None
first_fault (f ∷ fs) = fault_or (own_fault f) (first_fault fs)

-- Whether the fault is that of the lowest worker that failed. If none did, a thread couldn't be made, or there is no fault.
abbrev pub HasWorkersFault : List (Option WorkerFault) → Option LiveFault → Type 0
HasWorkersFault fs fault = (fault ≡ lowest_fault fs) ⊎ (fault ≡ fault_or (lowest_fault fs) (Some NoThread))

-- Whether a worker took all of its turns.
abbrev pub has_ended : Option WorkerFault → Bool
has_ended None = true
has_ended (Some fault) = false

-- Whether a fault, if there is one, is an earlier one. If there is no earlier one, the property holds of it.
abbrev pub IsFaultOr : (LiveFault → Type 0) → Option LiveFault → Option LiveFault → Type 0
IsFaultOr holds earlier fault = IfSome fault (λ told. (earlier ≡ Some told) ⊎ ((earlier ≡ None) × holds told))
