use Rattle.ds_entry.specs.ItemCovers.{covers}
use Rattle.ds_entry.proofs.ItemLemmas.{covers-refl, covers-trans}
use Rattle.fleet_rule.proofs.ExampleLemmas as lemmas
use Rattle.fleet_rule.proofs.laws.changes_come.Goals as goal

pub returns-clause-come : goal.returns-clause-come
returns-clause-come c = lemmas.changes_come covers covers-refl covers-trans

pub returns-clause-snapshot : goal.returns-clause-snapshot
returns-clause-snapshot c = lemmas.snapshots_come covers covers-refl covers-trans

pub returns-clause-again : goal.returns-clause-again
returns-clause-again c = lemmas.lost_is_sent_again covers covers-refl covers-trans
