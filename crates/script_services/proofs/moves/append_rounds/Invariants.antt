use Rattle.std.proofs.Common.{◌≡◌, ◌++◌, length, take}
use Rattle.rs_to_store.specs.Submitting.{all_in}
use Rattle.script_services.specs.Tables.{move_lines}
use Rattle.script_services.proofs.moves.append_rounds.Given as goal

abbrev pub invariant-loop-round : goal.invariant-loop-round
invariant-loop-round l = record {
  lines : l.output.items ≡ l.initial.output.items ++ move_lines (all_in (take l.round-index l.round-items));
  count : l.count ≡ length (all_in (take l.round-index l.round-items));
}
