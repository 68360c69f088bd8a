use Rattle.std.proofs.Common.{ℕ, Option, None}
use Rattle.script_commands.specs.World.{count_part, IsCount}
use Rattle.script_commands.proofs.PieceLemmas.{one_part}
use Rattle.script_commands.proofs.ReadsLemmas.{exits_byte}
use Rattle.script_commands.proofs.pieces.Rest.count.Goals as goal

pub returns-in_err-byte : goal.returns-in_err-byte
returns-in_err-byte c = exits_byte 32 (one_part (Option ℕ) IsCount count_part) None tt _ _ c.from_residual.ensures.1
    c.in_err-byte.ensures.stop c.in_err-byte.ensures.none
