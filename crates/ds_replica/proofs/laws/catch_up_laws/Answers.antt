use Rattle.ds_replica.proofs.SentLemmas.{given_is_sent}
use Rattle.ds_replica.proofs.HoldingLemmas.{holds_the_stores, holds_alike, holds_a_top, holds_at_least, any_holder, map_holds_its_query}
use Rattle.ds_replica.proofs.FollowLemmas.{follows_from_snapshot, follows_from_pages}
use Rattle.ds_replica.proofs.laws.catch_up_laws.Goals as goal

pub returns-clause-exact : goal.returns-clause-exact
returns-clause-exact c = holds_the_stores

pub returns-clause-alike : goal.returns-clause-alike
returns-clause-alike c = holds_alike

pub returns-clause-top : goal.returns-clause-top
returns-clause-top c = holds_a_top

pub returns-clause-least : goal.returns-clause-least
returns-clause-least c = holds_at_least

pub returns-clause-holder : goal.returns-clause-holder
returns-clause-holder c = any_holder

pub returns-clause-query : goal.returns-clause-query
returns-clause-query c = map_holds_its_query

pub returns-clause-sent : goal.returns-clause-sent
returns-clause-sent c = given_is_sent

pub returns-clause-snapshot : goal.returns-clause-snapshot
returns-clause-snapshot c = follows_from_snapshot

pub returns-clause-pages : goal.returns-clause-pages
returns-clause-pages c = follows_from_pages
