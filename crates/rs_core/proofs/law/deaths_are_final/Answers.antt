use Rattle.rs_core.proofs.LateLemmas as lemmas
use Rattle.rs_core.proofs.law.deaths_are_final.Goals as goal

pub returns-clause-dead : goal.returns-clause-dead
returns-clause-dead c = lemmas.dead_are_uncounted

pub returns-clause-late : goal.returns-clause-late
returns-clause-late c = lemmas.uncounted_stay_late

pub returns-clause-single : goal.returns-clause-single
returns-clause-single c = lemmas.single_stays

pub returns-clause-plans : goal.returns-clause-plans
returns-clause-plans c = lemmas.other_plans_keep_next
