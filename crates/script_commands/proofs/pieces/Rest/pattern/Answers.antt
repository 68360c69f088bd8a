use Rattle.std.proofs.Common.{ℕ, List, []}
use Rattle.std.proofs.lemmas.Result.{err_from_is_err_and}
use Rattle.line_io.specs.Lines.{IsUnbroken}
use Rattle.line_io.proofs.NewlineLemmas.{unbroken_none}
use Rattle.script_commands.proofs.PieceLemmas.{one_part, no_byte}
use Rattle.script_commands.proofs.QueryLemmas.{pattern_part, no_pattern, pattern_found}
use Rattle.script_commands.proofs.ReadsLemmas.{misses_at}
use Rattle.script_commands.proofs.pieces.Rest.pattern.Goals as goal

pub returns-in_err-byte-clause-stop : goal.returns-in_err-byte-clause-stop
returns-in_err-byte-clause-stop c =
    let exit = err_from_is_err_and c.from_residual.result c.from_residual.ensures.1 in
    rw (exit.1, exit.2) (misses_at _ _ _ c.in_err-byte.ensures.stop
    (no_byte 32 (one_part (List ℕ) IsUnbroken pattern_part) [] c.in_err-byte.field-0.0 c.args.self.now.bytes.now unbroken_none
    c.in_err-byte.ensures.stop c.in_err-byte.ensures.none))

pub returns-in_default-clause-stop : goal.returns-in_default-clause-stop
returns-in_default-clause-stop c = misses_at _ _ _ c.stop_at.ensures
    (no_pattern c.stop_at.result c.args.self.now.bytes.now _ c.in_ok-byte.ensures.found c.stop_at.ensures c.in_default.ensures.none)

pub returns-clause-found : goal.returns-clause-found
returns-clause-found c = pattern_found c.in-Some.text.now c.args.self.now.bytes.now _ c.in-Some.rest.now c.in_ok-byte.ensures.found
    c.in-Some.ensures.found
