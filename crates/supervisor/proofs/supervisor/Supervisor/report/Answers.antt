use Rattle.std.proofs.Common.{refl, inl}
use Rattle.supervisor.proofs.supervisor.Supervisor.report.Goals as goal

pub returns-in-None-clause-refused : goal.returns-in-None-clause-refused
returns-in-None-clause-refused c = inl (refl, c.in-None.ensures.none refl)
