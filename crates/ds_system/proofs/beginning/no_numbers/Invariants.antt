use Rattle.std.proofs.Common.{◌≡◌, replicate}
use Rattle.rs_core.specs.Numbering.{numberer}
use Rattle.ds_system.proofs.beginning.no_numbers.Given as goal

abbrev pub invariant-loop-index : goal.invariant-loop-index
invariant-loop-index l = l.numberers.items ≡ replicate l.index (numberer 0 0)
