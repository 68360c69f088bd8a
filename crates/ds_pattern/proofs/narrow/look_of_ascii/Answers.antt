use Rattle.ds_pattern.proofs.LookLemmas.{word, no_word, word_start, word_end, word_start_half, word_end_half}
use Rattle.ds_pattern.proofs.narrow.look_of_ascii.Goals as goal

pub returns-in-WordUnicode-clause-holds : goal.returns-in-WordUnicode-clause-holds
returns-in-WordUnicode-clause-holds c = rw c.in-WordUnicode.is word

pub returns-in-WordUnicodeNegate-clause-holds : goal.returns-in-WordUnicodeNegate-clause-holds
returns-in-WordUnicodeNegate-clause-holds c = rw c.in-WordUnicodeNegate.is no_word

pub returns-in-WordStartUnicode-clause-holds : goal.returns-in-WordStartUnicode-clause-holds
returns-in-WordStartUnicode-clause-holds c = rw c.in-WordStartUnicode.is word_start

pub returns-in-WordEndUnicode-clause-holds : goal.returns-in-WordEndUnicode-clause-holds
returns-in-WordEndUnicode-clause-holds c = rw c.in-WordEndUnicode.is word_end

pub returns-in-WordStartHalfUnicode-clause-holds : goal.returns-in-WordStartHalfUnicode-clause-holds
returns-in-WordStartHalfUnicode-clause-holds c = rw c.in-WordStartHalfUnicode.is word_start_half

pub returns-in-WordEndHalfUnicode-clause-holds : goal.returns-in-WordEndHalfUnicode-clause-holds
returns-in-WordEndHalfUnicode-clause-holds c = rw c.in-WordEndHalfUnicode.is word_end_half
