use Rattle.std.proofs.Common.{◌≡◌, ◌<◌, Some, subst, ap, sym, ◌∙◌, arith}
use Rattle.std.proofs.lemmas.Option.{slice_get-get_or}
use Rattle.std.specs.List.{slice_get}
use Rattle.ds_watch.specs.declared.masks.Masks.{Masks}
use Rattle.ds_content.specs.Shown.{says_unseen}
use Rattle.ds_content.proofs.NextLemmas.{none_more, next_here, next_nowhere}
use Rattle.ds_content.proofs.content.marking.next_change.Goals as goal

pub loop-index-init : goal.loop-index-init
loop-index-init c = λ k m e l below. absurd (omega (arith, l, below))

pub loop-index-preserved : goal.loop-index-preserved
loop-index-preserved c =
    let marks = c.args.marks.now in
    let masks = c.at.result.now in
    let here : slice_get marks c.loop-index.index ≡ Some masks =
    slice_get-get_or marks c.loop-index.index masks (subst (λ n. c.loop-index.index < n) c.len-index-end.ensures c.loop-index-test.true) ∙
    ap (λ (m : Masks). Some m) (sym c.at.ensures) in
    none_more (says_unseen c.args.sub) marks c.args.from c.loop-index.index masks here (sym c.is_unseen.ensures ∙ c.if-is_unseen.false)
    c.loop-index.invariant

pub returns-then-is_unseen : goal.returns-then-is_unseen
returns-then-is_unseen c =
    let marks = c.args.marks.now in
    let masks = c.at.result.now in
    let here : slice_get marks c.loop-index.index ≡ Some masks =
    slice_get-get_or marks c.loop-index.index masks (subst (λ n. c.loop-index.index < n) c.len-index-end.ensures c.loop-index-test.true) ∙
    ap (λ (m : Masks). Some m) (sym c.at.ensures) in
    next_here (says_unseen c.args.sub) marks c.args.from c.loop-index.index masks c.loop-index.auto.index here
    (sym c.is_unseen.ensures ∙ c.if-is_unseen.true) c.loop-index.invariant

pub returns : goal.returns
returns c = next_nowhere (says_unseen c.args.sub) c.args.marks.now c.args.from c.loop-index.index
    (omega (arith, c.loop-index-test.false, c.len-index-end.ensures)) c.loop-index.invariant
