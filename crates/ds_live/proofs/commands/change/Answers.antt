use Rattle.ds_live.proofs.CommandLemmas.{n_is_name}
use Rattle.ds_live.proofs.commands.change.Goals as goal

pub unreachable-requires : goal.unreachable-requires
unreachable-requires c = c.in_default.ensures (n_is_name c.args.index c.requires)
