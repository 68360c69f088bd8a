use Rattle.std.proofs.Common.{ap, sym, ◌∙◌}
use Rattle.ds_watch.specs.Mask.{mask}
use Rattle.ds_watch.specs.MaskBits.{mask_flags}
use Rattle.ds_watch.proofs.mask.Mask.number.Goals as goal

pub returns : goal.returns
returns c = sym (mask_flags c.self.inside.bits c.self.invariant) ∙ ap mask c.self.view_is
