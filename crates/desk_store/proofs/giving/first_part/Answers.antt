use Rattle.std.proofs.Common.{◌∙◌}
use Rattle.desk_store.proofs.giving.first_part.Goals as goal

pub returns-clause-part : goal.returns-clause-part
returns-clause-part c = c.replace.ensures.value ∙ c.in_ok-rest.ensures.kept

pub returns-clause-rest : goal.returns-clause-rest
returns-clause-rest c = c.replace.ensures.after ∙ c.in_ok-rest.ensures.rest
