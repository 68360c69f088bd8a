use Rattle.std.proofs.Common.{◌≡◌, ◌++◌, take}
use Rattle.script_services.specs.Tables.{move_lines}
use Rattle.script_services.proofs.moves.append_round.Given as goal

abbrev pub invariant-loop-index : goal.invariant-loop-index
invariant-loop-index l = l.output.items ≡ l.initial.output.items ++ move_lines (take l.index l.round)
