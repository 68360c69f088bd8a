use Rattle.std.proofs.Common.{false, get_or, List, Bool, ap, sym, ◌∙◌}
use Rattle.ds_watch.specs.MaskBits.{flag_at}
use Rattle.ds_watch.proofs.MaskLemmas.{tested}
use Rattle.ds_watch.proofs.mask.Mask.has.Goals as goal

pub returns : goal.returns
returns c = tested c.self.inside.bits c.args.sub c.requires ∙ sym (flag_at c.self.inside.bits c.args.sub c.requires) ∙
    ap (λ (fs : List Bool). get_or fs c.args.sub false) c.self.view_is
