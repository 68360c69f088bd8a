use Rattle.std.proofs.Common.{ℕ, ◌<◌, ◌≤◌, arith}
use Rattle.script_commands.proofs.PieceLemmas.{one_part, number_part}
use Rattle.script_commands.proofs.WorldPieceLemmas.{no_ring, ring_zero}
use Rattle.script_commands.proofs.ReadsLemmas.{exits_byte, misses_at}
use Rattle.script_commands.proofs.pieces.Rest.ring.Goals as goal

pub returns-in_err-byte : goal.returns-in_err-byte
returns-in_err-byte c = exits_byte 32 (one_part ℕ (λ n. (0 < n) × (n ≤ 4096)) number_part) 1 (omega arith, omega arith) _ _
    c.from_residual.ensures.1 c.in_err-byte.ensures.stop c.in_err-byte.ensures.none

pub returns-in_default : goal.returns-in_default
returns-in_default c = misses_at _ _ _ c.stop_at.ensures
    (no_ring c.stop_at.result c.args.self.now.bytes.now _ c.in_ok-byte.ensures.found c.stop_at.ensures c.in_default.ensures.none)

pub returns-then-number-eq0 : goal.returns-then-number-eq0
returns-then-number-eq0 c =
    misses_at _ _ _ c.stop_at-then-number-eq0.ensures
    (ring_zero c.stop_at-then-number-eq0.result c.args.self.now.bytes.now _ c.in-Some.rest.now c.in-Some.number c.in_ok-byte.ensures.found
    c.stop_at-then-number-eq0.ensures c.in-Some.ensures.found c.if-number-eq0.true)
