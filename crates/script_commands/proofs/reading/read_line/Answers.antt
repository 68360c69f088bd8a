use Rattle.script_commands.proofs.CommandLemmas.{unknown_word}
use Rattle.script_commands.proofs.FrontLemmas.{reads_front}
use Rattle.script_commands.proofs.reading.read_line.Goals as goal

pub returns-in_default : goal.returns-in_default
returns-in_default c = unknown_word c.args.line.now c.in_default.ensures.none

pub fault_after_word-requires-clause-stop : goal.fault_after_word-requires-clause-stop
fault_after_word-requires-clause-stop c = (c.in-Some.word, c.in-Some.bytes.now, c.in-Some.ensures.found, c.in-Err.ensures)

pub returns : goal.returns
returns c =
    reads_front c.in-Some.word c.args.line.now c.in-Some.bytes.now c.in-Ok.command c.requires c.in-Some.ensures.found c.in-Ok.ensures
