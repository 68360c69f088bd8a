use Rattle.holders.proofs.ReaderLemmas.{journal_is_whole, readers_agree}
use Rattle.holders.proofs.ReaderRowLemmas.{nothing_else_is_needed, reader_premises_hold, reading_is_needed}
use Rattle.holders.proofs.laws.readers_agree.Goals as goal

pub returns-clause-agree : goal.returns-clause-agree
returns-clause-agree c = readers_agree

pub returns-clause-journal : goal.returns-clause-journal
returns-clause-journal c = journal_is_whole

pub returns-clause-reading : goal.returns-clause-reading
returns-clause-reading c = reading_is_needed

pub returns-clause-nothing_else : goal.returns-clause-nothing_else
returns-clause-nothing_else c = nothing_else_is_needed

pub returns-clause-hold : goal.returns-clause-hold
returns-clause-hold c = reader_premises_hold
