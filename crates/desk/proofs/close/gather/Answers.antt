use Rattle.std.proofs.Common.{◌≡◌, ◌∙◌, arith, subst, sym}
use Rattle.history.specs.History.{Stepped}
use Rattle.desk_rule.specs.Kinds.{after_pass, Looks}
use Rattle.desk_rule.proofs.ListLemmas.{nil_of, prefix_refl}
use Rattle.desk.specs.Pass.{desk_of}
use Rattle.desk.specs.Closing.{HasAllNoticed, HasAllSeen}
use Rattle.desk.proofs.CloseLemmas.{all_last, gathers_more, gathers_none}
use Rattle.desk.proofs.RowLemmas.{wraps_first}
use Rattle.desk_rule.proofs.WaitLemmas.{rests_facts}
use Rattle.desk.proofs.close.gather.Goals as goal

pub loop-pass-init : goal.loop-pass-init
loop-pass-init g c = (
  gathers_none c.args.seat.now c.args.others.items c.args.raise_sums.now c.args.take_sums.now
      (wraps_first c.args.raise_sums.now _ c.requires.counted.0 c.fits-raise_sums)
      (wraps_first c.args.take_sums.now _ c.requires.counted.1 c.fits-take_sums),
  c.requires.others,
)

pub join_pass-requires-clause-at : goal.join_pass-requires-clause-at
join_pass-requires-clause-at g c = (c.loop-pass.invariant.0.same_table ∙ c.requires.at.0, c.requires.at.1, c.requires.at.2)

pub join_pass-requires-clause-other : goal.join_pass-requires-clause-other
join_pass-requires-clause-other g c = let i = c.loop-pass.invariant in let p = c.in-Some.pass in
    let both = all_last (λ p. desk_of p ≡ c.args.shared.now.table_id) c.pop.new.self.items c.loop-pass.others.items p
    c.in-Some.ensures.items i.1 in
    record {
      at = (both.1, c.requires.at.1, c.requires.at.2);
      no_slot = nil_of _ p.nothing_out;
      resting = (rests_facts p.seat.me.0 p.resting).0;
    }

pub loop-pass-preserved : goal.loop-pass-preserved
loop-pass-preserved g c = let i = c.loop-pass.invariant in let p = c.in-Some.pass in let join = c.join_pass.ensures.joined in
    let both = all_last (λ p. desk_of p ≡ c.args.shared.now.table_id) c.pop.new.self.items c.loop-pass.others.items p
    c.in-Some.ensures.items i.1 in (
      gathers_more (Stepped g.M.Machine.stands g.M.Machine.steps) _ _ _ _ _ _ p _ _ _ _ _ _ _ i.0 c.in-Some.ensures.items
          (c.look.ensures.same.0 ∙ join.same.0)
          (subst (λ m. Looks (Stepped g.M.Machine.stands g.M.Machine.steps) m.0 c.look.result m.0.holding c.look.new.seat.me.0)
          {y = (after_pass c.loop-pass.seat.me.0 p.seat.me.0, c.loop-pass.seat.me.1)} join.both_is
          c.look.ensures.looks) p.raises_counted c.add_rows.ensures p.takes_counted c.add_rows-in-Some.ensures,
      both.0,
    )

pub returns-clause-notices : goal.returns-clause-notices
returns-clause-notices g c = let none = c.in_default.ensures.cases.0 in let long = c.loop-pass.others.ok.0 in let seen =
    c.loop-pass.seat.me.0.notices in
    c.loop-pass.invariant.0.noticed seen (prefix_refl seen)
    (subst (HasAllNoticed seen) (sym (nil_of c.loop-pass.others.items (omega arith))) tt)

pub returns-clause-seen : goal.returns-clause-seen
returns-clause-seen g c = let none = c.in_default.ensures.cases.0 in let long = c.loop-pass.others.ok.0 in let seen =
    c.loop-pass.seat.me.0.seen in
    c.loop-pass.invariant.0.seen seen (prefix_refl seen) (subst (HasAllSeen seen) (sym (nil_of c.loop-pass.others.items (omega arith))) tt)
