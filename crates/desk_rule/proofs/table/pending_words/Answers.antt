use Rattle.std.proofs.Common.{refl}
use Rattle.desk_rule.proofs.TableLemmas.{words_more}
use Rattle.desk_rule.proofs.table.pending_words.Goals as goal

pub loop-server-preserved : goal.loop-server-preserved
loop-server-preserved g c = let i = c.loop-server.invariant in
    words_more _ _ c.loop-server.server _ c.word.result c.loop-server-test.true refl i.0 c.word.ensures i.1
