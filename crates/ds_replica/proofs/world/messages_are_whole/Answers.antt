use Rattle.ds_replica.proofs.TurnLemmas.{turns_are_run, whole_stays}
use Rattle.ds_replica.proofs.MessageLemmas.{snapshot_is_whole, since_is_turn, since_extends, page_is_turn, check_is_turn}
use Rattle.ds_replica.proofs.CheckLemmas.{checks_are_whole}
use Rattle.ds_replica.proofs.world.messages_are_whole.Goals as goal

pub returns-clause-turns : goal.returns-clause-turns
returns-clause-turns c = turns_are_run

pub returns-clause-stays : goal.returns-clause-stays
returns-clause-stays c = whole_stays

pub returns-clause-snapshot : goal.returns-clause-snapshot
returns-clause-snapshot c = snapshot_is_whole

pub returns-clause-since : goal.returns-clause-since
returns-clause-since c = since_is_turn

pub returns-clause-extends : goal.returns-clause-extends
returns-clause-extends c = since_extends

pub returns-clause-page : goal.returns-clause-page
returns-clause-page c = page_is_turn

pub returns-clause-check : goal.returns-clause-check
returns-clause-check c = check_is_turn

pub returns-clause-checks : goal.returns-clause-checks
returns-clause-checks c = checks_are_whole
