use Rattle.ds_replica.proofs.HolderLemmas.{equal_where_known, equal_over_events, nothing_clashes}
use Rattle.ds_replica.proofs.ClashLemmas.{nothing_stops}
use Rattle.ds_replica.proofs.world.holders_agree.Goals as goal

pub returns-clause-equal : goal.returns-clause-equal
returns-clause-equal c = equal_where_known

pub returns-clause-over_events : goal.returns-clause-over_events
returns-clause-over_events c = equal_over_events

pub returns-clause-clashes : goal.returns-clause-clashes
returns-clause-clashes c = nothing_clashes

pub returns-clause-stops : goal.returns-clause-stops
returns-clause-stops c = nothing_stops
