use Rattle.ds_entry.proofs.ItemLemmas.{covers-refl, covers-trans, covers-query, covers-same, covers-apart}
use Rattle.ds_entry.proofs.laws.items_cover_one_another.Goals as goal

pub returns-clause-reflexive : goal.returns-clause-reflexive
returns-clause-reflexive c = covers-refl

pub returns-clause-transitive : goal.returns-clause-transitive
returns-clause-transitive c = covers-trans

pub returns-clause-query : goal.returns-clause-query
returns-clause-query c = covers-query

pub returns-clause-exact : goal.returns-clause-exact
returns-clause-exact c = covers-same

pub returns-clause-apart : goal.returns-clause-apart
returns-clause-apart c = covers-apart
