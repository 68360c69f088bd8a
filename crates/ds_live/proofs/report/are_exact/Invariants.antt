use Rattle.std.proofs.Common.{◌≡◌, true, take}
use Rattle.ds_live.specs.Report.{are_exact}
use Rattle.ds_live.proofs.report.are_exact.Given as goal

-- those so far are exact
abbrev pub invariant-loop-index : goal.invariant-loop-index
invariant-loop-index l = are_exact (take l.index l.fn.account) ≡ true
