use Rattle.std.proofs.Common.{ap₂, ◌∙◌}
use Rattle.ds_watch.specs.Mask.{either}
use Rattle.ds_watch.proofs.MaskLemmas.{flags_or, or_small}
use Rattle.ds_watch.proofs.mask.Mask.add.Goals as goal

pub invariant_of-self : goal.invariant_of-self
invariant_of-self c = or_small c.self.inside.bits c.other.inside.bits c.self.invariant c.other.invariant

pub returns : goal.returns
returns c = flags_or c.self.inside.bits c.other.inside.bits ∙ ap₂ either c.self.view_is c.other.view_is
