use Rattle.std.proofs.Common.{◌≡◌, ◌++◌}
use Rattle.ds_machine.specs.State.{State}
use Rattle.ds_content.specs.Stands.{ContentStands}
use Rattle.ds_store.specs.Run.{LastRun}
use Rattle.ds_store.proofs.runs.run.Given as goal

-- the replies so far are those of a run of the commands so far
abbrev pub invariant-loop-command : goal.invariant-loop-command
invariant-loop-command l = record {
  all : l.yielded ++ l.command-iterator.rest.items ≡ l.fn.commands.items;
  run : (s : State) → ContentStands l.fn.store s → (t : State) × LastRun s l.yielded l.replies.items t × ContentStands l.store t;
}
