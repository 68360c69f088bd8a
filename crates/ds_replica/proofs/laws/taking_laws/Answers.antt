use Rattle.ds_replica.proofs.TakingLemmas.{holder_takes, new_map_is_map, map_takes}
use Rattle.ds_replica.proofs.laws.taking_laws.Goals as goal

pub returns-clause-holder : goal.returns-clause-holder
returns-clause-holder c = holder_takes

pub returns-clause-new_map : goal.returns-clause-new_map
returns-clause-new_map c = new_map_is_map

pub returns-clause-map : goal.returns-clause-map
returns-clause-map c = map_takes
