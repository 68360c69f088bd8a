use Rattle.trace_record.proofs.asking.ask_older.Goals as goal

pub returns-clause-step : goal.returns-clause-step
returns-clause-step c = c.in_ok-reply.ensures.0
