use Rattle.std.proofs.Common.{ℕ, ◌≤◌, arith}
use Rattle.script_commands.proofs.PieceLemmas.{one_part, number_part, no_generation}
use Rattle.script_commands.proofs.ReadsLemmas.{exits_byte, misses_at}
use Rattle.script_commands.proofs.pieces.Rest.generation.Goals as goal

pub returns-in_err-byte : goal.returns-in_err-byte
returns-in_err-byte c = exits_byte 32 (one_part ℕ (λ n. n ≤ 2097151) number_part) 0 (omega arith) _ _ c.from_residual.ensures.1
    c.in_err-byte.ensures.stop c.in_err-byte.ensures.none

pub returns-in_default : goal.returns-in_default
returns-in_default c = misses_at _ _ _ c.stop_at.ensures
    (no_generation c.stop_at.result c.args.self.now.bytes.now _ c.in_ok-byte.ensures.found c.stop_at.ensures c.in_default.ensures.none)
