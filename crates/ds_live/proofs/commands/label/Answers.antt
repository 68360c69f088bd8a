use Rattle.ds_live.proofs.CommandLemmas.{p_is_name}
use Rattle.ds_live.proofs.commands.label.Goals as goal

pub unreachable-requires : goal.unreachable-requires
unreachable-requires c = c.in_default.ensures (p_is_name c.args.index c.requires)
