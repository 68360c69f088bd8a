use Rattle.std.proofs.Common.{◌∙◌}
use Rattle.ds_held.proofs.RowLemmas.{found_at}
use Rattle.ds_held.proofs.floors.nth_floor.Goals as goal

pub returns : goal.returns
returns c = c.copied.ensures ∙ found_at c.args.floors.now c.args.index c.get.result c.get.ensures.lookup
