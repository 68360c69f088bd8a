use Rattle.std.proofs.Common.{◌≡◌, ℕ, List, ◌++◌, take}
use Rattle.ds_replica.specs.declared.event.Event.{Event}
use Rattle.ds_replica.specs.declared.outcome.Outcome.{Outcome}
use Rattle.script_services.specs.Services.{AnswersActions}
use Rattle.script_services.proofs.acting.pass_on.Given as goal

-- the actions before the index were written, and sent to the store
abbrev pub invariant-loop-index : goal.invariant-loop-index
invariant-loop-index l =
    (out : List ℕ) × (asks : List (Event × Outcome)) × (l.output.items ≡ l.initial.output.items ++ out) ×
    AnswersActions l.side (take l.index l.actions) l.initial.world out asks l.world
