use Rattle.ds_feed.proofs.LawLemmas.{prefix_is_shortest, prefixes_join}
use Rattle.ds_feed.proofs.laws.prefixes_are_shortest.Goals as goal

pub returns-clause-shortest : goal.returns-clause-shortest
returns-clause-shortest c = prefix_is_shortest

pub returns-clause-join : goal.returns-clause-join
returns-clause-join c = prefixes_join
