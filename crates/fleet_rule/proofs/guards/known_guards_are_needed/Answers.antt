use Rattle.ds_entry.specs.ItemCovers.{covers}
use Rattle.ds_entry.proofs.ItemLemmas.{covers-refl, covers-trans}
use Rattle.fleet_rule.proofs.KnownGuardLemmas as lemmas
use Rattle.fleet_rule.proofs.guards.known_guards_are_needed.Goals as goal

pub returns-clause-look : goal.returns-clause-look
returns-clause-look c = lemmas.look_is_needed covers covers-refl covers-trans

pub returns-clause-told : goal.returns-clause-told
returns-clause-told c = lemmas.told_is_needed covers covers-refl covers-trans

pub returns-clause-owed : goal.returns-clause-owed
returns-clause-owed c = lemmas.owed_is_needed covers covers-refl covers-trans

pub returns-clause-wait : goal.returns-clause-wait
returns-clause-wait c = lemmas.wait_is_needed covers covers-refl covers-trans
