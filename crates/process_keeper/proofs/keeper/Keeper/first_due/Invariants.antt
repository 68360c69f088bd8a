use Rattle.std.proofs.Common.{◌≡◌, take}
use Rattle.process_keeper.specs.Waking.{due_at}
use Rattle.process_keeper.proofs.keeper.Keeper.first_due.Given as goal

-- the first time of the labels so far
abbrev pub invariant-loop-label : goal.invariant-loop-label
invariant-loop-label l = l.due ≡ due_at (take l.label-index l.self.labels.items) l.now
