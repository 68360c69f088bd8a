use Rattle.ds_replica.specs.declared.event.Side.TheVariants.{A}
use Rattle.ds_replica.specs.declared.event.Holder.{Holder}
use Rattle.ds_replica.specs.declared.event.Holder.TheVariants.{Store}
use Rattle.script_commands.specs.World.{IsHolder}
use Rattle.script_commands.proofs.PieceLemmas.{one_part}
use Rattle.script_commands.proofs.WorldPieceLemmas.{holder_part, no_holder}
use Rattle.script_commands.proofs.ReadsLemmas.{exits_byte, misses_at}
use Rattle.script_commands.proofs.pieces.Rest.holder.Goals as goal

pub returns-in_err-byte : goal.returns-in_err-byte
returns-in_err-byte c = exits_byte 32 (one_part Holder IsHolder holder_part) (Store A) tt _ _ c.from_residual.ensures.1
    c.in_err-byte.ensures.stop c.in_err-byte.ensures.none

pub returns-in_default : goal.returns-in_default
returns-in_default c =
    misses_at _ _ _ c.stop_at.ensures
    (no_holder c.stop_at.result c.args.self.now.bytes.now _ c.word_at.result.0.now c.word_at.result.1.now c.in_ok-byte.ensures.found
    c.stop_at.ensures c.word_at.ensures.valid c.word_at.ensures.found c.in_default.ensures.none)
