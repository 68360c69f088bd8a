use Rattle.std.proofs.Common.{◌≡◌, ◌+◌, ◌==◌, take, count_by}
use Rattle.c_rs.proofs.line.line_at.Given as goal

-- one more than there were newlines so far
abbrev pub invariant-loop-byte : goal.invariant-loop-byte
invariant-loop-byte l = l.line ≡ count_by (λ b. b == 10) (take l.byte-index l.before) + 1
