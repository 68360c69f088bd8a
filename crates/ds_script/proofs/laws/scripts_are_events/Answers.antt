use Rattle.ds_script.proofs.LawLemmas.{scripts_are_events, holders_agree, labels_are_newest, shows_agree}
use Rattle.ds_script.proofs.laws.scripts_are_events.Goals as goal

pub returns-clause-events : goal.returns-clause-events
returns-clause-events c = scripts_are_events

pub returns-clause-agree : goal.returns-clause-agree
returns-clause-agree c = holders_agree

pub returns-clause-labels : goal.returns-clause-labels
returns-clause-labels c = labels_are_newest

pub returns-clause-shows : goal.returns-clause-shows
returns-clause-shows c = shows_agree
