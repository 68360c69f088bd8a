use Rattle.std.proofs.Common.{length}
use Rattle.script_commands.proofs.QueryLemmas.{IsBegun}
use Rattle.script_commands.proofs.query.quoted_at.Given as goal

abbrev pub invariant-loop-after : goal.invariant-loop-after
invariant-loop-after l = IsBegun l.written l.rest

abbrev pub decreases-loop-after : goal.decreases-loop-after
decreases-loop-after l = length l.rest
