use Rattle.rs_core.proofs.LateLemmas as lemmas
use Rattle.rs_core.proofs.law.beats_are_noted.Goals as goal

pub returns-clause-noted : goal.returns-clause-noted
returns-clause-noted c = lemmas.beats_are_noted

pub returns-clause-judged : goal.returns-clause-judged
returns-clause-judged c = lemmas.heard_are_not_missed
