use Rattle.ds_replica.proofs.RowLemmas.{replicas_converge, replicas_differ, maps_catch_up, maps_lag, maps_lead, replicas_clash, maps_clash}
use Rattle.ds_replica.proofs.RowLemmas.{owners_change}
use Rattle.ds_replica.proofs.world.rows_happen.Goals as goal

pub returns-clause-converge : goal.returns-clause-converge
returns-clause-converge c = replicas_converge

pub returns-clause-differ : goal.returns-clause-differ
returns-clause-differ c = replicas_differ

pub returns-clause-catch_up : goal.returns-clause-catch_up
returns-clause-catch_up c = maps_catch_up

pub returns-clause-lag : goal.returns-clause-lag
returns-clause-lag c = maps_lag

pub returns-clause-lead : goal.returns-clause-lead
returns-clause-lead c = maps_lead

pub returns-clause-clash : goal.returns-clause-clash
returns-clause-clash c = replicas_clash

pub returns-clause-map_clash : goal.returns-clause-map_clash
returns-clause-map_clash c = maps_clash

pub returns-clause-renew : goal.returns-clause-renew
returns-clause-renew c = owners_change
