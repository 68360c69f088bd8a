use Rattle.ds_replica.proofs.WholeLemmas.{snapshot_is_whole, nothing_is_whole, more_is_whole, earlier_is_whole, narrower_is_whole}
use Rattle.ds_replica.proofs.WholeLemmas.{whole_stays, feeds_grow}
use Rattle.ds_replica.proofs.JournalLemmas.{since_extends, sinces_extend}
use Rattle.ds_replica.proofs.laws.whole_laws.Goals as goal

pub returns-clause-snapshot : goal.returns-clause-snapshot
returns-clause-snapshot c = snapshot_is_whole

pub returns-clause-since : goal.returns-clause-since
returns-clause-since c = since_extends

pub returns-clause-sinces : goal.returns-clause-sinces
returns-clause-sinces c = sinces_extend

pub returns-clause-nothing : goal.returns-clause-nothing
returns-clause-nothing c = nothing_is_whole

pub returns-clause-more : goal.returns-clause-more
returns-clause-more c = more_is_whole

pub returns-clause-earlier : goal.returns-clause-earlier
returns-clause-earlier c = earlier_is_whole

pub returns-clause-narrower : goal.returns-clause-narrower
returns-clause-narrower c = narrower_is_whole

pub returns-clause-stays : goal.returns-clause-stays
returns-clause-stays c = whole_stays

pub returns-clause-feeds : goal.returns-clause-feeds
returns-clause-feeds c = feeds_grow
