use Rattle.std.proofs.Common.{List, ℕ, ap, ◌∙◌}
use Rattle.ds_pattern.specs.Under.{matches_whole, FindsWhole}
use Rattle.ds_pattern.proofs.pattern.Pattern.matches.Goals as goal

pub returns : goal.returns
unfolding FindsWhole
returns c = c.finds.ensures.found ∙ rw c.bytes-bytes.ensures.value (c.self.invariant.1 _ c.bytes-bytes.ensures.name) ∙
    ap (λ (p : List ℕ). matches_whole p c.args.name.now) c.self.view_is
