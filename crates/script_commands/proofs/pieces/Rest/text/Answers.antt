use Rattle.std.proofs.Common.{[]}
use Rattle.std.proofs.lemmas.Result.{err_from_is_err_and}
use Rattle.line_io.specs.Lines.{BreaksAt}
use Rattle.line_io.proofs.NewlineLemmas.{unbroken_none}
use Rattle.script_commands.proofs.PieceLemmas.{no_byte}
use Rattle.script_commands.proofs.ServicePieceLemmas.{text_rest, no_newline, text_found}
use Rattle.script_commands.proofs.ReadsLemmas.{finds, misses_at}
use Rattle.script_commands.proofs.pieces.Rest.text.Goals as goal

pub returns-in_err-byte-clause-stop : goal.returns-in_err-byte-clause-stop
returns-in_err-byte-clause-stop c =
    let exit = err_from_is_err_and c.from_residual.result c.from_residual.ensures.1 in
    rw (exit.1, exit.2) (misses_at _ _ _ c.in_err-byte.ensures.stop
    (no_byte 32 text_rest [] c.in_err-byte.field-0.0 c.args.self.now.bytes.now unbroken_none c.in_err-byte.ensures.stop
    c.in_err-byte.ensures.none))

pub returns-in_default-clause-stop : goal.returns-in_default-clause-stop
returns-in_default-clause-stop c =
    misses_at _ _ _ c.stop_at.ensures (no_newline c.stop_at.result c.args.self.now.bytes.now c.byte.new.self.bytes.now
    c.in_ok-byte.ensures.found c.stop_at.ensures c.in_default.ensures)

pub returns-clause-found : goal.returns-clause-found
returns-clause-found c =
    let b : BreaksAt c.byte.new.self.bytes.now c.in-Some.place = c.in-Some.ensures in
    finds _ (text_found c.args.self.now.bytes.now c.byte.new.self.bytes.now c.in-Some.place c.in_ok-byte.ensures.found b)
