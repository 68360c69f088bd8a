use Rattle.std.proofs.Common.{◌≡◌, true, take}
use Rattle.ds_live.specs.Report.{all_have}
use Rattle.ds_live.proofs.report.all_have.Given as goal

-- those so far have them
abbrev pub invariant-loop-place : goal.invariant-loop-place
invariant-loop-place l = all_have l.fn.entries (take l.place l.fn.followers.items) ≡ true
