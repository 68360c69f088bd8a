use Rattle.holders.proofs.KnownLemmas.{held_is_top_of_known}
use Rattle.holders.proofs.AgreeLemmas.{all_agree, held_covers_known, two_agree, two_agree_by_held}
use Rattle.holders.proofs.laws.two_holders_agree.Goals as goal

pub returns-clause-top : goal.returns-clause-top
returns-clause-top c = held_is_top_of_known

pub returns-clause-two : goal.returns-clause-two
returns-clause-two c = two_agree

pub returns-clause-held : goal.returns-clause-held
returns-clause-held c = two_agree_by_held

pub returns-clause-given : goal.returns-clause-given
returns-clause-given c = held_covers_known

pub returns-clause-all : goal.returns-clause-all
returns-clause-all c = all_agree
