use Rattle.std.proofs.Common.{Ok, sym, ◌∙◌, subst}
use Rattle.std.specs.Option.{IfSome}
use Rattle.ds_entry.specs.Change.{IsChange}
use Rattle.ds_held.specs.Kept.{IsPlace}
use Rattle.ds_held.proofs.KeptLemmas.{change_there, change_none, listed_there, valid_at}
use Rattle.ds_held.proofs.order.change_at.Goals as goal

pub returns-then-is_of-clause-value : goal.returns-then-is_of-clause-value
returns-then-is_of-clause-value c =
    listed_there c.args.changes.now c.args.key.now c.in-Some.ensures.0 c.in-Some.change.now c.requires.rising c.in-Some.ensures.1
    (c.is_of.ensures c.if-is_of.true)

pub returns-then-is_of-clause-change : goal.returns-then-is_of-clause-change
returns-then-is_of-clause-change c = subst (λ o. IfSome o IsChange) c.in-Some.ensures.1
    (valid_at c.args.changes.now c.in-Some.ensures.0 c.requires.valid)

pub returns-in-Ok-clause-value : goal.returns-in-Ok-clause-value
returns-in-Ok-clause-value c =
    let here : IsPlace c.args.changes.now c.args.key.now (Ok c.in-Ok.i) = c.in-Ok.ensures in
    c.get.ensures ∙ sym (change_there c.args.changes.now c.args.key.now c.in-Ok.i c.requires.rising here)

pub returns-in-Ok-clause-change : goal.returns-in-Ok-clause-change
returns-in-Ok-clause-change c = subst (λ o. IfSome o IsChange) (sym (c.get.ensures))
    (valid_at c.args.changes.now c.in-Ok.i c.requires.valid)

pub returns-in-Err-clause-value : goal.returns-in-Err-clause-value
returns-in-Err-clause-value c = sym (change_none c.args.changes.now c.args.key.now c.in-Err.field-0 c.in-Err.ensures)
