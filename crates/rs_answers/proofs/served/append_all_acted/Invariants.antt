use Rattle.std.proofs.Common.{◌≡◌, ◌++◌, take}
use Rattle.rs_answers.specs.Served.{acted_lines}
use Rattle.rs_answers.proofs.served.append_all_acted.Given as goal

abbrev pub invariant-loop-index : goal.invariant-loop-index
invariant-loop-index l = l.buffer.items ≡ l.initial.buffer.items ++ acted_lines (take l.index l.actions) l.replies
