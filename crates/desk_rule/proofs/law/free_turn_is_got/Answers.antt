use Rattle.desk_rule.proofs.FreeLemmas.{free_turn_is_got, free_word_is_place}
use Rattle.desk_rule.proofs.law.free_turn_is_got.Goals as goal

pub returns-clause-word : goal.returns-clause-word
returns-clause-word g c = free_word_is_place _ _

pub returns-clause-got : goal.returns-clause-got
returns-clause-got g c = free_turn_is_got _ _
