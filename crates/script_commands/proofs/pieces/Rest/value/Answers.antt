use Rattle.script_commands.proofs.PieceLemmas.{no_first_space, no_mark, no_second_space, after_mark, value_stops, value_wants, no_want}
use Rattle.script_commands.proofs.ReadsLemmas.{exits, misses}
use Rattle.script_commands.proofs.pieces.Rest.value.Goals as goal

pub returns-in_err-byte : goal.returns-in_err-byte
returns-in_err-byte c =
    exits _ _ _ _ c.from_residual.ensures.1 (λ room. absurd (no_want _ _ c.in_err-byte.ensures.stop room))
    (no_first_space c.args.kind c.in_err-byte.field-0.0 c.args.self.now.bytes.now c.in_err-byte.ensures.stop c.in_err-byte.ensures.none)

pub returns-in_err-byte-2 : goal.returns-in_err-byte-2
returns-in_err-byte-2 c =
    exits _ _ _ _ c.from_residual-in_err-byte-2.ensures.1 (λ room. absurd (no_want _ _ c.in_err-byte-2.ensures.stop room))
    (no_mark c.args.kind c.in_err-byte-2.field-0.0 c.args.self.now.bytes.now _ c.in_ok-byte.ensures.found c.in_err-byte-2.ensures.stop
    c.in_err-byte-2.ensures.none)

pub returns-in_err-byte-3 : goal.returns-in_err-byte-3
returns-in_err-byte-3 c =
    exits _ _ _ _ c.from_residual-in_err-byte-3.ensures.1 (λ room. absurd (no_want _ _ c.in_err-byte-3.ensures.stop room))
    (no_second_space c.args.kind c.in_err-byte-3.field-0.0 c.args.self.now.bytes.now _ _ c.in_ok-byte.ensures.found
    c.in_ok-byte-2.ensures.found c.in_err-byte-3.ensures.stop c.in_err-byte-3.ensures.none)

pub returns-in-Err : goal.returns-in-Err
returns-in-Err c =
    misses _ _ _ (value_wants c.args.kind c.in-Err.stop c.args.self.now.bytes.now _ _ _ c.in_ok-byte.ensures.found
    c.in_ok-byte-2.ensures.found c.in_ok-byte-3.ensures.found c.in-Err.ensures.stop)
    (after_mark c.args.kind c.in-Err.stop c.args.self.now.bytes.now _ _ _ c.in_ok-byte.ensures.found c.in_ok-byte-2.ensures.found
    c.in_ok-byte-3.ensures.found (value_stops c.args.kind c.in-Err.stop _ c.in-Err.ensures.stop))
