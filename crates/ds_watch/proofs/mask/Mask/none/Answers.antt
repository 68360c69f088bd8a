use Rattle.ds_watch.proofs.MaskLemmas.{flags_none}
use Rattle.ds_watch.proofs.mask.Mask.none.Goals as goal

pub returns : goal.returns
returns c = flags_none
