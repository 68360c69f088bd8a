use Rattle.ds_entry.specs.ItemCovers.{covers}
use Rattle.ds_entry.proofs.ItemLemmas.{covers-refl, covers-trans}
use Rattle.fleet_rule.proofs.CarelessReadingLemmas as lemmas
use Rattle.fleet_rule.proofs.guards.reading_guards_are_needed.Goals as goal

pub returns-clause-history : goal.returns-clause-history
returns-clause-history c = lemmas.same_history_is_needed covers covers-refl covers-trans

pub returns-clause-position : goal.returns-clause-position
returns-clause-position c = lemmas.same_position_is_needed covers covers-refl covers-trans

pub returns-clause-gap : goal.returns-clause-gap
returns-clause-gap c = lemmas.gap_is_needed covers covers-refl covers-trans

pub returns-clause-noting : goal.returns-clause-noting
returns-clause-noting c = lemmas.noting_is_needed covers covers-refl covers-trans
