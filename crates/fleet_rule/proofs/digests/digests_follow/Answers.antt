use Rattle.ds_entry.specs.declared.item.Item.{Item}
use Rattle.fleet_rule.proofs.DigestLemmas as lemmas
use Rattle.fleet_rule.proofs.digests.digests_follow.Goals as goal

pub returns-clause-follow : goal.returns-clause-follow
returns-clause-follow c = lemmas.digests_follow Item

pub returns-clause-own : goal.returns-clause-own
returns-clause-own c = lemmas.own_changes_are_not_enough
