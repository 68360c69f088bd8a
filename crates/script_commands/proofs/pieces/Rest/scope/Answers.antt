use Rattle.ds_machine.specs.declared.command.Scope.TheVariants.{All}
use Rattle.std.proofs.lemmas.Result.{err_from_is_err_and}
use Rattle.script_commands.specs.Reads.{ReadsOr}
use Rattle.script_commands.proofs.PieceLemmas.{no_byte}
use Rattle.script_commands.proofs.QueryLemmas.{pattern_found}
use Rattle.script_commands.proofs.ScopeLemmas.{scope_rest, query_found, scope_kinds_stops}
use Rattle.script_commands.proofs.ReadsLemmas.{finds, misses, misses_at}
use Rattle.script_commands.proofs.pieces.Rest.scope.Goals as goal

pub returns-in_err-byte-clause-stop : goal.returns-in_err-byte-clause-stop
returns-in_err-byte-clause-stop c =
    let exit = err_from_is_err_and c.from_residual.result c.from_residual.ensures.1 in
    rw (exit.1, exit.2) (misses_at _ _ _ c.in_err-byte.ensures.stop
    (no_byte 32 scope_rest All c.in_err-byte.field-0.0 c.args.self.now.bytes.now tt c.in_err-byte.ensures.stop c.in_err-byte.ensures.none))

pub returns-in_err-kinds-clause-stop : goal.returns-in_err-kinds-clause-stop
unfolding ReadsOr
returns-in_err-kinds-clause-stop c =
    let exit = err_from_is_err_and c.from_residual-in_err-kinds.result c.from_residual-in_err-kinds.ensures.1 in
    rw (exit.1, exit.2) (misses _ _ _ c.in_err-kinds.ensures.room
    (scope_kinds_stops c.in-Some-quoted_at.text.now c.in_err-kinds.field-0.0 c.args.self.now.bytes.now _
    (pattern_found c.in-Some-quoted_at.text.now c.args.self.now.bytes.now _ c.in-Some-quoted_at.rest.now c.in_ok-byte.ensures.found
    c.in-Some-quoted_at.ensures.found)
    c.in_err-kinds.ensures.room c.in_err-kinds.ensures.stop))

pub returns-clause-found : goal.returns-clause-found
unfolding ReadsOr
returns-clause-found c =
    let found = pattern_found c.in-Some-quoted_at.text.now c.args.self.now.bytes.now _ c.in-Some-quoted_at.rest.now
    c.in_ok-byte.ensures.found c.in-Some-quoted_at.ensures.found in (
      found.0,
      finds _ (query_found c.in-Some-quoted_at.text.now c.args.self.now.bytes.now _ _ c.in_ok-kinds.kinds found
          c.in_ok-kinds.ensures.found),
    )
