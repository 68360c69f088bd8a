use Rattle.ds_names.proofs.OrderLemmas.{versions_total, exact_versions}
use Rattle.ds_names.proofs.version.versions_are_ordered.Goals as goal

pub returns-clause-total : goal.returns-clause-total
returns-clause-total c = versions_total

pub returns-clause-exact : goal.returns-clause-exact
returns-clause-exact c = exact_versions
