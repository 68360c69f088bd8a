use Rattle.std.proofs.Common.{rules, ap, ◌∙◌}
use Rattle.std.proofs.lemmas.Fn.{filter_same}
use Rattle.ds_entry.specs.Left.{is_put}
use Rattle.ds_entry.specs.Under.{entries_of}
use Rattle.ds_entry.proofs.items.Items.retain_puts.Goals as goal

pub returns : goal.returns
returns c = filter_same _ is_put _ (λ x b f' t. search rules) _ _ c.retain.ensures.filtered ∙ ap entries_of c.self.view_is
