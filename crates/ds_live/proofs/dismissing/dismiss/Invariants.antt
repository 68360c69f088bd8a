use Rattle.std.proofs.Common.{All, ◌≡◌, ◌+◌, ◌≤◌, List, ◌++◌, length, map, Some, None, IfNone, IfSome, sum_by, vec_capacity}
use Rattle.ds_live.specs.Dismissed.{HandBack, Leaves}
use Rattle.ds_live.specs.Homes.{home_of}
use Rattle.ds_live.specs.Workers.{IsAtHome, IsOf, others_in}
use Rattle.ds_live.proofs.dismissing.dismiss.Given as goal

-- the passes that are back, and the jobs that have the others
abbrev pub invariant-loop-job : goal.invariant-loop-job
invariant-loop-job g l = record {
  home : All (λ p. IsAtHome (home_of l.fn.desks.first) p) l.back.passes.items;
  others : All (λ p. IsAtHome (home_of l.fn.desks.second) p) l.back.others.items;
  left : All (λ j. IsOf (home_of l.fn.desks.first) (home_of l.fn.desks.second) j.worker) l.jobs.items;
  all : length l.jobs.items + length l.back.passes.items ≡ length l.fn.jobs.items;
  all_others : sum_by (λ j. others_in j.worker.task) l.jobs.items + length l.back.others.items ≡ sum_by (λ j. others_in j.worker.task)
      l.fn.jobs.items;
  room : length l.fn.jobs.items ≤ vec_capacity l.back.passes;
  others_room : sum_by (λ j. others_in j.worker.task) l.fn.jobs.items ≤ vec_capacity l.back.others;
  finished : (gone : List _) × (l.fn.jobs.items ≡ l.jobs.items ++ gone)
      × IfNone l.fault (HandBack (map (λ j. j.worker) gone) l.back.passes.items l.back.others.items l.back.followers.items)
      × Leaves l.fn.fault l.fault (map (λ j. j.worker) gone) l.back.passes.items l.back.others.items;
  idle : IfNone l.fn.fault (All (λ j. j.worker.fault ≡ None) l.jobs.items);
  kept : IfSome l.fn.fault (λ was. l.fault ≡ Some was);
}

abbrev pub decreases-loop-job : goal.decreases-loop-job
decreases-loop-job g l = length l.jobs.items
