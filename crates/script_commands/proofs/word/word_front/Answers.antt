use Rattle.script_commands.proofs.CommandLemmas.{other_word_only}
use Rattle.script_commands.proofs.word.word_front.Goals as goal

pub returns-in_default-word_of-clause-none : goal.returns-in_default-word_of-clause-none
returns-in_default-word_of-clause-none c =
    other_word_only c.args.line.now c.word_at.result.0.now c.word_at.result.1.now c.word_at.ensures.valid c.word_at.ensures.found
    c.in_default-word_of.ensures.none
