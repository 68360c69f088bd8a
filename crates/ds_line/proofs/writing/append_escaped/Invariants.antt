use Rattle.std.proofs.Common.{◌≡◌, ◌++◌, List, ℕ, length}
use Rattle.ds_line.specs.Spelling.{escaped}
use Rattle.ds_line.proofs.writing.append_escaped.Given as goal

abbrev pub invariant-loop-first : goal.invariant-loop-first
invariant-loop-first l = record {
  kept : (more : List ℕ) × (l.buffer.items ≡ l.initial.buffer.items ++ more);
  written : l.buffer.items ++ escaped l.rest ≡ l.initial.buffer.items ++ escaped l.text;
}

abbrev pub decreases-loop-first : goal.decreases-loop-first
decreases-loop-first l = length l.rest
