use Rattle.std.proofs.Common.{◌≡◌, true, take}
use Rattle.std.specs.List.{list_all}
use Rattle.ds_live.specs.Faults.{has_ended}
use Rattle.ds_live.proofs.working.have_ended.Given as goal

-- those so far have ended
abbrev pub invariant-loop-place : goal.invariant-loop-place
invariant-loop-place g l = list_all (λ j. has_ended j.worker.fault) (take l.place l.fn.jobs.items) ≡ true
