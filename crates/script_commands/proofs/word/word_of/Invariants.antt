use Rattle.std.proofs.Common.{take}
use Rattle.std.specs.List.{All}
use Rattle.script_commands.specs.Words.{all_words}
use Rattle.script_commands.proofs.WordLemmas.{IsOther}
use Rattle.script_commands.proofs.word.word_of.Given as goal

abbrev pub invariant-loop-word : goal.invariant-loop-word
invariant-loop-word l = All (IsOther l.text) (take l.word-index all_words)
