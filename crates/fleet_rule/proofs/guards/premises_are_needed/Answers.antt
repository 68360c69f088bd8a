use Rattle.ds_entry.specs.ItemCovers.{covers}
use Rattle.ds_entry.proofs.ItemLemmas.{covers-refl, covers-trans}
use Rattle.fleet_rule.proofs.PremiseLemmas as lemmas
use Rattle.fleet_rule.proofs.guards.premises_are_needed.Goals as goal

pub returns-clause-seeing : goal.returns-clause-seeing
returns-clause-seeing c = lemmas.seeing_is_needed covers covers-refl covers-trans

pub returns-clause-choice : goal.returns-clause-choice
returns-clause-choice c = lemmas.choice_is_needed covers covers-refl covers-trans
