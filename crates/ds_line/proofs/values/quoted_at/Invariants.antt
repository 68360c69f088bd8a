use Rattle.ds_line.proofs.TextLemmas.{IsOpen}
use Rattle.ds_line.proofs.values.quoted_at.Given as goal

abbrev pub invariant-loop-len : goal.invariant-loop-len
invariant-loop-len l = IsOpen l.bytes l.block l.rest l.len
