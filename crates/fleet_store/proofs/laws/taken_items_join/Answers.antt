use Rattle.fleet_store.proofs.TakingLemmas.{taken_are_joined, taken_are_joined_in_part}
use Rattle.fleet_store.proofs.laws.taken_items_join.Goals as goal

pub returns-clause-all : goal.returns-clause-all
returns-clause-all c = taken_are_joined

pub returns-clause-part : goal.returns-clause-part
returns-clause-part c = taken_are_joined_in_part
