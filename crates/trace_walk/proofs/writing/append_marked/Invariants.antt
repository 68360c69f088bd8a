use Rattle.std.proofs.Common.{◌≡◌, ◌++◌, length}
use Rattle.trace_walk.specs.Text.{marked}
use Rattle.trace_walk.proofs.writing.append_marked.Given as goal

-- with what is left, the text is what it has to be
abbrev pub invariant-loop-line : goal.invariant-loop-line
invariant-loop-line l = l.text.items ++ marked l.rest ≡ l.fn.text.items ++ marked l.fn.lines

abbrev pub decreases-loop-line : goal.decreases-loop-line
decreases-loop-line l = length l.rest
