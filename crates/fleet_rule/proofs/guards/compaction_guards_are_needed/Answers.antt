use Rattle.ds_entry.specs.ItemCovers.{covers}
use Rattle.ds_entry.proofs.ItemLemmas.{covers-refl, covers-trans}
use Rattle.fleet_rule.proofs.CarelessCompactionLemmas as lemmas
use Rattle.fleet_rule.proofs.guards.compaction_guards_are_needed.Goals as goal

pub returns-clause-outbox : goal.returns-clause-outbox
returns-clause-outbox c = lemmas.outbox_is_needed covers covers-refl covers-trans

pub returns-clause-resending : goal.returns-clause-resending
returns-clause-resending c = lemmas.resending_is_needed covers covers-refl covers-trans

pub returns-clause-dropping : goal.returns-clause-dropping
returns-clause-dropping c = lemmas.dropping_is_needed covers covers-refl covers-trans

pub returns-clause-history : goal.returns-clause-history
returns-clause-history c = lemmas.history_is_needed covers covers-refl covers-trans

pub returns-clause-later : goal.returns-clause-later
returns-clause-later c = lemmas.later_is_needed covers covers-refl covers-trans
