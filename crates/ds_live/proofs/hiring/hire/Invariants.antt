use Rattle.std.proofs.Common.{All, ◌≡◌, ◌+◌, ◌≤◌, [], ◌++◌, length, map, sum_by, vec_capacity}
use Rattle.desk.specs.Pass.{calls}
use Rattle.ds_live.specs.Homes.{home_of}
use Rattle.ds_live.specs.Workers.{IsAtHome, IsOf, others_in, plain}
use Rattle.ds_live.specs.Run.{IsReady, downward}
use Rattle.ds_live.proofs.hiring.hire.Given as goal

-- the passes that are left, and the jobs of the others
abbrev pub invariant-loop-pass : goal.invariant-loop-pass
invariant-loop-pass g l = record {
  home : All (λ p. IsAtHome (home_of l.fn.desks.first) p) l.back.passes.items;
  others : l.back.others.items ≡ [];
  can_run : All (λ j. IsOf (home_of j.desks.now.first) (home_of j.desks.now.second) j.worker) l.jobs.items;
  hired : All (λ j. IsOf (home_of l.fn.desks.first) (home_of l.fn.desks.second) j.worker) l.jobs.items;
  all : length l.jobs.items + length l.back.passes.items ≡ length l.fn.back.passes.items;
  few : length l.back.passes.items ≤ l.fn.sizes.publishers + l.fn.sizes.subscribers;
  one : sum_by (λ j. others_in j.worker.task) l.jobs.items ≡ 1;
  room : length l.fn.back.passes.items ≤ vec_capacity l.jobs;
  passes_room : length l.fn.back.passes.items ≤ vec_capacity l.back.passes;
  others_room : 1 ≤ vec_capacity l.back.others;
  fresh : All (λ p. calls p ≡ []) l.back.passes.items;
  ready : All (λ j. IsReady l.fn.sizes (plain j.worker)) l.jobs.items;
  numbered : map (λ j. j.worker.index) l.jobs.items ++ downward (length l.back.passes.items) ≡ downward (length l.fn.back.passes.items);
  gates : All (λ j. j.gate.now ≡ l.fn.gate) l.jobs.items;
  followers : l.back.followers ≡ l.fn.back.followers;
}

abbrev pub decreases-loop-pass : goal.decreases-loop-pass
decreases-loop-pass g l = length l.back.passes.items
