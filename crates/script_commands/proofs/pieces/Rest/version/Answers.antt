use Rattle.script_commands.specs.Reads.{ReadsOr}
use Rattle.script_commands.proofs.PieceLemmas.{version_epoch_stops, version_seq_stops}
use Rattle.script_commands.proofs.ReadsLemmas.{exits}
use Rattle.script_commands.proofs.pieces.Rest.version.Goals as goal

pub returns-in_err-epoch : goal.returns-in_err-epoch
unfolding ReadsOr
returns-in_err-epoch c =
    exits _ _ _ _ c.from_residual.ensures.1 c.in_err-epoch.ensures.room
    (version_epoch_stops c.in_err-epoch.field-0.0 c.args.self.now.bytes.now c.in_err-epoch.ensures.room c.in_err-epoch.ensures.stop)

pub returns-in_err-seq : goal.returns-in_err-seq
unfolding ReadsOr
returns-in_err-seq c =
    exits _ _ _ _ c.from_residual-in_err-seq.ensures.1 c.in_err-seq.ensures.room
    (version_seq_stops c.in_ok-epoch.epoch c.in_err-seq.field-0.0 c.args.self.now.bytes.now _ c.in_ok-epoch.ensures.found
    c.in_err-seq.ensures.stop)
