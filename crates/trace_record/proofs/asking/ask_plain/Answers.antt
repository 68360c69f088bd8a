use Rattle.std.proofs.Common.{sym, ◌∙◌}
use Rattle.trace_record.proofs.asking.ask_plain.Goals as goal

pub returns-clause-step : goal.returns-clause-step
returns-clause-step c s stands =
    let step = c.apply.ensures.step s stands in
    (c.in-Some.command, step.0, sym c.in_ok-command.ensures.command ∙ c.in-Some.is, step.1, c.apply.ensures.last s stands, step.2)
