use Rattle.std.proofs.Common.{◌∙◌, ap, sym}
use Rattle.rs_core.specs.Reading.{is_from}
use Rattle.rs_core.proofs.ReadingLemmas.{due_is_any}
use Rattle.rs_core.proofs.rs.Rs.due.Goals as goal

pub returns-in-Some-clause-first : goal.returns-in-Some-clause-first
returns-in-Some-clause-first c = λ tick now le.
    due_is_any c.args.self.now tick ∙ c.first_due.ensures tick le ∙ ap (λ o. is_from o tick) c.in-Some.is ∙
    sym (c.reached.ensures.first tick now le)

pub returns-in-None-clause-first : goal.returns-in-None-clause-first
returns-in-None-clause-first c = λ tick now le.
    due_is_any c.args.self.now tick ∙ c.first_due.ensures tick le ∙ ap (λ o. is_from o tick) c.in-None.is
