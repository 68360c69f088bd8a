use Rattle.script_commands.specs.Reads.{ReadsOr}
use Rattle.script_commands.proofs.PieceLemmas.{key_name_stops, key_kind_stops}
use Rattle.script_commands.proofs.ReadsLemmas.{exits}
use Rattle.script_commands.proofs.pieces.Rest.key.Goals as goal

pub returns-in_err-name : goal.returns-in_err-name
unfolding ReadsOr
returns-in_err-name c =
    exits _ _ _ _ c.from_residual.ensures.1 c.in_err-name.ensures.room
    (key_name_stops c.in_err-name.field-0.0 c.args.self.now.bytes.now c.in_err-name.ensures.room c.in_err-name.ensures.stop)

pub returns-in_err-kind : goal.returns-in_err-kind
unfolding ReadsOr
returns-in_err-kind c =
    exits _ _ _ _ c.from_residual-in_err-kind.ensures.1 c.in_err-kind.ensures.room
    (key_kind_stops c.in_ok-name.name c.in_err-kind.field-0.0 c.args.self.now.bytes.now _ c.in_ok-name.ensures.found
    c.in_err-kind.ensures.stop)
