use Rattle.ds_entry.specs.ItemCovers.{covers}
use Rattle.ds_entry.proofs.ItemLemmas.{covers-refl, covers-trans}
use Rattle.fleet_rule.proofs.EchoLemmas.{nothing_is_echoed}
use Rattle.fleet_rule.proofs.KnownLemmas.{known_is_kept}
use Rattle.fleet_rule.proofs.SameLemmas.{bridges_hold_the_same, tops_join, tops_of_all_join}
use Rattle.fleet_rule.proofs.LawLemmas as lemmas
use Rattle.fleet_rule.proofs.laws.items_are_kept.Goals as goal

pub returns-clause-answered : goal.returns-clause-answered
returns-clause-answered c = lemmas.answered_is_kept covers covers-refl covers-trans

pub returns-clause-known : goal.returns-clause-known
returns-clause-known c = known_is_kept covers covers-refl covers-trans

pub returns-clause-read : goal.returns-clause-read
returns-clause-read c = lemmas.readers_hold_all covers covers-refl covers-trans

pub returns-clause-agree : goal.returns-clause-agree
returns-clause-agree c = lemmas.bridges_agree covers covers-refl covers-trans

pub returns-clause-same : goal.returns-clause-same
returns-clause-same c = bridges_hold_the_same

pub returns-clause-tops : goal.returns-clause-tops
returns-clause-tops c = tops_join

pub returns-clause-tops_of_all : goal.returns-clause-tops_of_all
returns-clause-tops_of_all c = tops_of_all_join

pub returns-clause-snapshots : goal.returns-clause-snapshots
returns-clause-snapshots c = lemmas.snapshots_are_whole covers covers-refl covers-trans

pub returns-clause-held : goal.returns-clause-held
returns-clause-held c = lemmas.nothing_held_is_lost covers covers-refl covers-trans

pub returns-clause-echo : goal.returns-clause-echo
returns-clause-echo c = nothing_is_echoed covers covers-refl covers-trans
