use Rattle.std.proofs.Common.{true, false, get_or, set, List, Bool, ap, ◌∙◌}
use Rattle.ds_watch.specs.Mask.{flags}
use Rattle.ds_watch.specs.MaskBits.{flags_long}
use Rattle.ds_watch.proofs.MaskLemmas.{bit_set, set_small, set_here}
use Rattle.ds_watch.proofs.mask.Mask.with.Goals as goal

pub invariant_of-result : goal.invariant_of-result
invariant_of-result c = set_small c.self.inside.bits c.args.sub c.requires c.self.invariant

pub returns-clause-value : goal.returns-clause-value
returns-clause-value c = bit_set c.self.inside.bits c.args.sub c.requires ∙ ap (λ (fs : List Bool). set fs c.args.sub true) c.self.view_is

pub returns-clause-here : goal.returns-clause-here
returns-clause-here c =
    ap (λ (fs : List Bool). get_or fs c.args.sub false) (bit_set c.self.inside.bits c.args.sub c.requires) ∙
    set_here (flags c.self.inside.bits) c.args.sub true (flags_long c.self.inside.bits) c.requires
