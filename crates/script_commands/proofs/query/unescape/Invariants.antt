use Rattle.std.proofs.Common.{length}
use Rattle.script_commands.proofs.QueryLemmas.{IsLeft}
use Rattle.script_commands.proofs.query.unescape.Given as goal

abbrev pub invariant-loop-byte : goal.invariant-loop-byte
invariant-loop-byte l = IsLeft l.written l.text.items l.rest

abbrev pub decreases-loop-byte : goal.decreases-loop-byte
decreases-loop-byte l = length l.rest
