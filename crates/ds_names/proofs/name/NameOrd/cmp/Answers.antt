use Rattle.std.proofs.Common.{ap, ◌∙◌}
use Rattle.std.specs.Ordering.{nat_cmp}
use Rattle.std.specs.Cmp.Lexicographic.{slice_cmp}
use Rattle.ds_names.specs.NameBlock.{name_in_block}
use Rattle.ds_names.proofs.WordLemmas.{names_order}
use Rattle.ds_names.proofs.name.NameOrd.cmp.Goals as goal

pub returns : goal.returns
returns c =
    c.block_order.ensures
    ∙ names_order c.self.inside c.other.inside c.self.invariant c.other.invariant
    ∙ ap (λ t. slice_cmp nat_cmp t (name_in_block c.other.inside)) c.self.view_is
    ∙ ap (λ t. slice_cmp nat_cmp c.args.self.now t) c.other.view_is
