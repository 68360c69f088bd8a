use Rattle.ds_names.proofs.OrderLemmas.{keys_total, exact_keys}
use Rattle.ds_names.proofs.key.keys_are_ordered.Goals as goal

pub returns-clause-total : goal.returns-clause-total
returns-clause-total c = keys_total

pub returns-clause-exact : goal.returns-clause-exact
returns-clause-exact c = exact_keys
