use Rattle.std.proofs.Common.{◌≡◌, ℕ, ◌+◌, ◌-◌, cond, filter, length, take, ap, subst, arith}
use Rattle.ds_held.specs.Held.{held_items}
use Rattle.ds_index.specs.Marked.{MarkedHolding}
use Rattle.ds_watch.specs.declared.masks.Masks.{Masks}
use Rattle.ds_content.specs.Shown.{is_to_show, IsToShowHere}
use Rattle.ds_content.proofs.BackLemmas.{AreMarkedFrom, all_marked, left_now, marked_before, marked_same}
use Rattle.ds_content.proofs.content.marking.show_first.Goals as goal

pub loop-left-preserved-then-is_unseen_at : goal.loop-left-preserved-then-is_unseen_at
loop-left-preserved-then-is_unseen_at c =
    let old = c.args.held.now in
    let n = c.loop-left.index - 1 in
    let at : c.loop-left.index ≡ n + 1 = omega (arith, c.if-index-gt0.true) in
    let so_far = subst (λ i. AreMarkedFrom old c.loop-left.held i c.args.count c.args.sub) at c.loop-left.invariant.marked in
    let here = subst (λ (h : MarkedHolding Masks). IsToShowHere h c.args.sub n c.is_unseen_at.result) c.marked.ensures
    c.is_unseen_at.ensures in
    let left = left_now old c.loop-left.held n c.args.count c.args.sub so_far c.loop-left.left c.is_unseen_at.result
    (subst (λ i. c.loop-left.left ≡ length (filter (is_to_show old c.args.sub) (take i (held_items old.held)))) at
    c.loop-left.invariant.left) here in
    let one : cond {A = ℕ} c.is_unseen_at.result 1 0 ≡ 1 = ap (λ b. cond {A = ℕ} b 1 0) c.if-is_unseen_at.true in
    let within = c.loop-left.invariant.within in
    record {
      marked = marked_before old c.loop-left.held n c.args.count c.args.sub so_far c.show_one.new.held (omega (arith, within, at))
          c.show_one.ensures;
      left = omega (arith, left, one);
      within = omega (arith, within);
    }

pub loop-left-preserved : goal.loop-left-preserved
loop-left-preserved c =
    let old = c.args.held.now in
    let n = c.loop-left.index - 1 in
    let at : c.loop-left.index ≡ n + 1 = omega (arith, c.if-index-gt0.true) in
    let so_far = subst (λ i. AreMarkedFrom old c.loop-left.held i c.args.count c.args.sub) at c.loop-left.invariant.marked in
    let here = subst (λ (h : MarkedHolding Masks). IsToShowHere h c.args.sub n c.is_unseen_at.result) c.marked.ensures
    c.is_unseen_at.ensures in
    let left = left_now old c.loop-left.held n c.args.count c.args.sub so_far c.loop-left.left c.is_unseen_at.result
    (subst (λ i. c.loop-left.left ≡ length (filter (is_to_show old c.args.sub) (take i (held_items old.held)))) at
    c.loop-left.invariant.left) here in
    let none : cond {A = ℕ} c.is_unseen_at.result 1 0 ≡ 0 = ap (λ b. cond {A = ℕ} b 1 0) c.if-is_unseen_at.false in
    let within = c.loop-left.invariant.within in
    record {
      marked = marked_same old c.loop-left.held n c.args.count c.args.sub so_far c.is_unseen_at.result here.here c.if-is_unseen_at.false;
      left = omega (arith, left, none);
      within = omega (arith, within);
    }

pub returns-after-loop-left : goal.returns-after-loop-left
returns-after-loop-left c =
    let left = c.loop-left.invariant.left in
    all_marked c.args.held.now c.loop-left.held c.loop-left.index c.args.count c.args.sub c.loop-left.invariant.within
    (omega (arith, left, c.loop-left-test.false)) c.loop-left.invariant.marked
