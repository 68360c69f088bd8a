use Rattle.std.proofs.Common.{◌≡◌, map, take}
use Rattle.ds_live.specs.Faults.{lowest_fault}
use Rattle.ds_live.proofs.working.find_fault.Given as goal

-- that of the jobs so far
abbrev pub invariant-loop-place : goal.invariant-loop-place
invariant-loop-place g l = l.lowest ≡ lowest_fault (map (λ j. j.worker.fault) (take l.place l.fn.jobs.items))
