use Rattle.std.proofs.Common.{◌-◌, ap, arith, ◌∙◌}
use Rattle.desk_rule.specs.Passes.{fresh}
use Rattle.desk.proofs.OpenLemmas.{cut_off, dealt_more, dealt_none, is_new_pass, left_at_first, left_others, one_back}
use Rattle.desk.proofs.open.deal.Goals as goal

pub loop-left-init : goal.loop-left-init
loop-left-init g c = let seat = c.requires.seat in let room = c.requires.room in (
  room.0,
  c.requires.at,
  ap (λ m. m.1) seat,
  left_at_first _ _ _ _ (ap (λ m. m.0) seat),
  room.2,
  dealt_none _ _ _ _ _ room.1,
)

pub split_pass-one-requires-clause-fresh : goal.split_pass-one-requires-clause-fresh
split_pass-one-requires-clause-fresh g c = let i = c.loop-left.invariant in
    (c.loop-left.left - 1 - 1, i.3.passes ∙ ap fresh (one_back c.loop-left.left c.loop-left-test.true))

pub loop-left-preserved : goal.loop-left-preserved
loop-left-preserved g c = let i = c.loop-left.invariant in let cut = c.split_pass-one.ensures.split in let n = c.new_pass.ensures in
    let push = c.push_reserved.ensures in
    let more = c.loop-left-test.true in let room = i.4 in let cap = push.capacity in (
      omega arith,
      (cut.same.0 ∙ i.1.0, i.1.1, i.1.2),
      ap (λ m. m.1) cut.left_is ∙ i.2,
      left_others _ _ _ _ _ more (ap (λ m. m.0) cut.left_is) i.3,
      omega arith,
      dealt_more _ _ _ _ _ _ _ _ i.0 push.items
          (is_new_pass _ _ _ _ c.new_pass.result c.split_pass-one.result n.0 n.1 n.2 (cut.table ∙ i.1.0)
          (cut_off _ _ _ _ _ i.0 (ap (λ m. m.0) cut.right_is) i.3)) i.5,
    )
