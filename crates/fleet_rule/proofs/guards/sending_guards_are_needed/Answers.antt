use Rattle.ds_entry.specs.ItemCovers.{covers}
use Rattle.ds_entry.proofs.ItemLemmas.{covers-refl, covers-trans}
use Rattle.fleet_rule.proofs.CarelessSendingLemmas as lemmas
use Rattle.fleet_rule.proofs.guards.sending_guards_are_needed.Goals as goal

pub returns-clause-replicas : goal.returns-clause-replicas
returns-clause-replicas c = lemmas.replicas_are_needed covers covers-refl covers-trans

pub returns-clause-count : goal.returns-clause-count
returns-clause-count c = lemmas.count_is_needed covers covers-refl covers-trans

pub returns-clause-rest : goal.returns-clause-rest
returns-clause-rest c = lemmas.rest_is_needed covers covers-refl covers-trans
