use Rattle.std.proofs.Common.{◌∙◌, sym, ap, filter, subst}
use Rattle.std.proofs.lemmas.List.Elements.{All-filter}
use Rattle.std.specs.Option.{option_copied, IfSome}
use Rattle.std.specs.List.{slice_get}
use Rattle.ds_entry.specs.Change.{IsChange}
use Rattle.ds_join.specs.Reading.{comes_after}
use Rattle.ds_held.proofs.AfterLemmas.{first_passes}
use Rattle.ds_held.proofs.DropLemmas.{get_drop}
use Rattle.ds_held.proofs.KeptLemmas.{valid_at}
use Rattle.ds_held.proofs.order.first_of.Goals as goal

pub returns-clause-value : goal.returns-clause-value
returns-clause-value c =
    c.get.ensures ∙ sym (get_drop c.begin_after.result c.args.changes.now) ∙ ap (λ l. slice_get l 0) c.begin_after.ensures.begin ∙
    first_passes (comes_after (option_copied c.args.after)) c.args.changes.now

pub returns-clause-change : goal.returns-clause-change
returns-clause-change c =
    let later = filter (comes_after (option_copied c.args.after)) c.args.changes.now in
    subst (λ o. IfSome o IsChange) (sym (c.get.ensures ∙ sym (get_drop c.begin_after.result c.args.changes.now) ∙
    ap (λ l. slice_get l 0) c.begin_after.ensures.begin))
    (valid_at later 0 (All-filter _ IsChange c.args.changes.now c.requires.valid))
