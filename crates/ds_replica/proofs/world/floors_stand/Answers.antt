use Rattle.ds_replica.proofs.HolderLemmas.{nothing_below_floors}
use Rattle.ds_replica.proofs.StayLemmas.{known_stays, floors_stand}
use Rattle.ds_replica.proofs.world.floors_stand.Goals as goal

pub returns-clause-known : goal.returns-clause-known
returns-clause-known c = known_stays

pub returns-clause-below : goal.returns-clause-below
returns-clause-below c = nothing_below_floors

pub returns-clause-events : goal.returns-clause-events
returns-clause-events c = floors_stand
