use Rattle.holders.proofs.PremiseLemmas.{covering_is_needed, exact_is_needed, labels_need_covering, premises_hold}
use Rattle.holders.proofs.StoreRowLemmas.{store_labels_need_covering, stores_agree, stores_need_covering, stores_need_exact}
use Rattle.holders.proofs.laws.two_premises_are_needed.Goals as goal

pub returns-clause-exact : goal.returns-clause-exact
returns-clause-exact c = exact_is_needed

pub returns-clause-covering : goal.returns-clause-covering
returns-clause-covering c = covering_is_needed

pub returns-clause-labels : goal.returns-clause-labels
returns-clause-labels c = labels_need_covering

pub returns-clause-hold : goal.returns-clause-hold
returns-clause-hold c = premises_hold

pub returns-clause-exact_stores : goal.returns-clause-exact_stores
returns-clause-exact_stores c = stores_need_exact

pub returns-clause-covering_stores : goal.returns-clause-covering_stores
returns-clause-covering_stores c = stores_need_covering

pub returns-clause-labels_stores : goal.returns-clause-labels_stores
returns-clause-labels_stores c = store_labels_need_covering

pub returns-clause-hold_stores : goal.returns-clause-hold_stores
returns-clause-hold_stores c = stores_agree
