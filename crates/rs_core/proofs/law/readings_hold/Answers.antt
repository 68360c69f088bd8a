use Rattle.rs_core.proofs.ReadingLemmas as lemmas
use Rattle.rs_core.proofs.law.readings_hold.Goals as goal

pub returns-clause-ticks : goal.returns-clause-ticks
returns-clause-ticks c = lemmas.ticks_act

pub returns-clause-given_up : goal.returns-clause-given_up
returns-clause-given_up c = lemmas.steps_give_up
