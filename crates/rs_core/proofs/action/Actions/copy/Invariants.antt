use Rattle.std.proofs.Common.{◌≡◌, take}
use Rattle.rs_core.proofs.action.Actions.copy.Given as goal

abbrev pub invariant-loop-action : goal.invariant-loop-action
invariant-loop-action l = l.actions.items ≡ take l.action-index l.action-items
