use Rattle.ds_replica.proofs.HoldingLemmas.{holders_agree, top_under_query, join_of_holders, join_under_query, more_is_held}
use Rattle.ds_replica.proofs.laws.agreement_laws.Goals as goal

pub returns-clause-equal : goal.returns-clause-equal
returns-clause-equal c = holders_agree

pub returns-clause-query : goal.returns-clause-query
returns-clause-query c = top_under_query

pub returns-clause-join : goal.returns-clause-join
returns-clause-join c = join_of_holders

pub returns-clause-join_query : goal.returns-clause-join_query
returns-clause-join_query c = join_under_query

pub returns-clause-more : goal.returns-clause-more
returns-clause-more c = more_is_held
