use Rattle.std.proofs.Common.{Err, Ok}
use Rattle.script_commands.specs.Fast.{publish_read}
use Rattle.script_commands.specs.declared.word.Word.TheVariants as words
use Rattle.script_commands.proofs.FrontLemmas.{begins, front_later, reads_front}
use Rattle.script_commands.proofs.fast.fast_publish.Goals as goal

pub fault_after_word-requires-clause-stop : goal.fault_after_word-requires-clause-stop
fault_after_word-requires-clause-stop c =
    let front = begins words.Publish c.args.line.now c.split_at.result.1.now c.requires.publish c.split_at.ensures.back in
    (words.Publish, c.split_at.result.1.now, front, c.in-Err.ensures)

pub returns-in-Ok-clause-first : goal.returns-in-Ok-clause-first
returns-in-Ok-clause-first c =
    let front = begins words.Publish c.args.line.now c.split_at.result.1.now c.requires.publish c.split_at.ensures.back in
    reads_front words.Publish c.args.line.now c.split_at.result.1.now _ c.requires.line front c.in-Ok.ensures

pub returns-in-Ok-clause-later : goal.returns-in-Ok-clause-later
returns-in-Ok-clause-later c =
    let front = begins words.Publish c.args.line.now c.split_at.result.1.now c.requires.publish c.split_at.ensures.back in
    front_later words.Publish c.args.line.now c.split_at.result.1.now (publish_read (Ok c.in-Ok.publication)) (λ same. absurd (cc)) front
    (reads_front words.Publish c.args.line.now c.split_at.result.1.now _ c.requires.line front c.in-Ok.ensures)

pub returns-in-Err-clause-later : goal.returns-in-Err-clause-later
returns-in-Err-clause-later c =
    let front = begins words.Publish c.args.line.now c.split_at.result.1.now c.requires.publish c.split_at.ensures.back in
    front_later words.Publish c.args.line.now c.split_at.result.1.now (Err c.fault_after_word.result) (λ same. absurd (cc)) front
    c.fault_after_word.ensures
