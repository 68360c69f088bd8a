use Rattle.std.proofs.lemmas.List.Elements.{All-nil}
use Rattle.script_commands.proofs.WordLemmas.{IsOther, other_too, none_is}
use Rattle.script_commands.proofs.word.word_of.Goals as goal

pub loop-word-init : goal.loop-word-init
loop-word-init c = All-nil (IsOther c.args.text.now)

pub loop-word-preserved : goal.loop-word-preserved
loop-word-preserved c = other_too c.args.text.now c.text_of.result.now c.all_words-word-items.result.now c.eq.result c.loop-word.word-index
    _ c.all_words-word-items.ensures c.loop-word-test.true c.loop-word.invariant c.text_of.ensures c.eq.ensures c.if-eq.false

pub returns-clause-none : goal.returns-clause-none
returns-clause-none c = none_is c.args.text.now c.all_words-word-items.result.now c.loop-word.word-index c.all_words-word-items.ensures
    c.loop-word-test.false c.loop-word.invariant
