use Rattle.ds_replica.proofs.HolderLemmas.{whole_is_all, holds_the_stores, holds_at_least, labels_are_newest}
use Rattle.ds_replica.proofs.world.maps_catch_up.Goals as goal

pub returns-clause-all : goal.returns-clause-all
returns-clause-all c = whole_is_all

pub returns-clause-exact : goal.returns-clause-exact
returns-clause-exact c = holds_the_stores

pub returns-clause-least : goal.returns-clause-least
returns-clause-least c = holds_at_least

pub returns-clause-labels : goal.returns-clause-labels
returns-clause-labels c = labels_are_newest
