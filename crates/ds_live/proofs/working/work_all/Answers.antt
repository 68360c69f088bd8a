use denote.Param.Send.{sendable}
use Rattle.desk.proofs.CrossingLemmas.{desk_sync}
use Rattle.std.proofs.Common.{All, ◌≡◌, None, true, inl, inr, refl}
use Rattle.std.specs.List.{list_all}
use Rattle.ds_live.specs.Back.{AreBack}
use Rattle.ds_live.specs.Faults.{has_ended}
use Rattle.ds_live.specs.Workers.{ComesBack, StopsTurns, TookAll, Worked, plain}
use Rattle.ds_live.proofs.WorkerCrossingLemmas.{turns_send}
use Rattle.ds_live.proofs.WorkerLemmas.{is_back}
use Rattle.ds_live.proofs.LiveCrossingLemmas.{desks_sync, store_slot_send, store_worker_send}
use Rattle.ds_live.proofs.RunLemmas.{all_ended, all_idle, back_all, none_then, took_all}
use Rattle.ds_live.proofs.working.work_all.Goals as goal

pub run_all-requires-send-J : goal.run_all-requires-send-J
run_all-requires-send-J g c κs within = search (turns_send, desks_sync, desk_sync, store_slot_send, store_worker_send, sendable) depth 40

pub returns-in-Ok-clause-back : goal.returns-in-Ok-clause-back
returns-in-Ok-clause-back g c =
    back_all (λ j k. Worked (g.G.Gate.answers j.gate.now) j.worker k.worker) (λ j k. ComesBack j.worker k.worker) (λ j k w. w.back)
    (λ j. is_back j.worker)
    0 c.args.jobs.items c.in-Ok.jobs.items c.in-Ok.ensures.ran

pub returns-in-Err-clause-back : goal.returns-in-Err-clause-back
returns-in-Err-clause-back g c =
    back_all (λ j k. Worked (g.G.Gate.answers j.gate.now) j.worker k.worker) (λ j k. ComesBack j.worker k.worker) (λ j k w. w.back)
    (λ j. is_back j.worker)
    c.in-Err.refused.place c.args.jobs.items c.in-Err.refused.jobs.items c.in-Err.ensures.refused

pub returns-in-Ok-clause-took : goal.returns-in-Ok-clause-took
returns-in-Ok-clause-took g c =
    none_then c.fault_of-fault.result (list_all (λ j. has_ended j.worker.fault) c.in-Ok.jobs.items ≡ true)
    (AreBack (λ j k. TookAll (g.G.Gate.answers j.gate.now) (plain j.worker) (plain k.worker)) 0 c.args.jobs.items c.in-Ok.jobs.items)
    (all_ended (λ j k. Worked (g.G.Gate.answers j.gate.now) j.worker k.worker)
    (λ j k. TookAll (g.G.Gate.answers j.gate.now) (plain j.worker) (plain k.worker)) (λ j. has_ended j.worker.fault)
    (λ j k w ended. took_all (g.G.Gate.answers j.gate.now) (plain j.worker) (plain k.worker) k.worker.fault w.ended ended)
    c.args.jobs.items c.in-Ok.jobs.items c.in-Ok.ensures.ran)
    c.fault_of-fault.ensures.none

pub returns-in-Ok-clause-idle : goal.returns-in-Ok-clause-idle
returns-in-Ok-clause-idle g c =
    none_then c.fault_of-fault.result (list_all (λ j. has_ended j.worker.fault) c.in-Ok.jobs.items ≡ true)
    (All (λ j. j.worker.fault ≡ None) c.in-Ok.jobs.items)
    (all_idle (λ j. j.worker.fault) c.in-Ok.jobs.items) c.fault_of-fault.ensures.none

pub returns-in-Ok-clause-stopped : goal.returns-in-Ok-clause-stopped
returns-in-Ok-clause-stopped g c =
    back_all (λ j k. Worked (g.G.Gate.answers j.gate.now) j.worker k.worker)
    (λ j k. StopsTurns (g.G.Gate.answers j.gate.now) (plain j.worker) (plain k.worker)) (λ j k w. inr w.ended) (λ j. inl refl)
    0 c.args.jobs.items c.in-Ok.jobs.items c.in-Ok.ensures.ran

pub returns-in-Err-clause-stopped : goal.returns-in-Err-clause-stopped
returns-in-Err-clause-stopped g c =
    back_all (λ j k. Worked (g.G.Gate.answers j.gate.now) j.worker k.worker)
    (λ j k. StopsTurns (g.G.Gate.answers j.gate.now) (plain j.worker) (plain k.worker)) (λ j k w. inr w.ended) (λ j. inl refl)
    c.in-Err.refused.place c.args.jobs.items c.in-Err.refused.jobs.items c.in-Err.ensures.refused
