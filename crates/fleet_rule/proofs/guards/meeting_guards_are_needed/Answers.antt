use Rattle.ds_entry.specs.ItemCovers.{covers}
use Rattle.ds_entry.proofs.ItemLemmas.{covers-refl, covers-trans}
use Rattle.fleet_rule.proofs.CarelessMeetingLemmas as lemmas
use Rattle.fleet_rule.proofs.guards.meeting_guards_are_needed.Goals as goal

pub returns-clause-position : goal.returns-clause-position
returns-clause-position c = lemmas.position_is_needed covers covers-refl covers-trans

pub returns-clause-consumed : goal.returns-clause-consumed
returns-clause-consumed c = lemmas.consumed_is_needed covers covers-refl covers-trans

pub returns-clause-again : goal.returns-clause-again
returns-clause-again c = lemmas.sending_again_is_needed covers covers-refl covers-trans

pub returns-clause-news : goal.returns-clause-news
returns-clause-news c = lemmas.news_is_needed covers covers-refl covers-trans

pub returns-clause-need : goal.returns-clause-need
returns-clause-need c = lemmas.need_is_needed covers covers-refl covers-trans
