use Rattle.std.proofs.Common.{◌∙◌, ◌+◌, ◌-◌, sym, subst, arith}
use Rattle.std.specs.List.{remove}
use Rattle.ds_held.proofs.DropLemmas.{Dropped, dropped_void, dropped_kept, dropped_so, room_for_one}
use Rattle.ds_held.proofs.void.drop_beside.Goals as goal

pub overflow_add-count : goal.overflow_add-count
overflow_add-count g c =
    let few = room_for_one c.args.floor.now c.args.changes.now c.args.marks.now c.loop-i.changes c.loop-i.marks c.loop-i.i c.loop-i.count
    c.loop-i.invariant c.loop-i-test.true
    c.at-change.result.now c.puts_in-count.result c.puts_in-count.ensures in
    omega (arith, few, c.len-i.ensures)

pub loop-i-preserved-then-voids : goal.loop-i-preserved-then-voids
loop-i-preserved-then-voids g c =
    let i = c.loop-i.i - 1 in
    dropped_so c.args.floor.now c.args.changes.now c.args.marks.now (remove c.loop-i.changes i) c.remove.new.self (remove c.loop-i.marks i)
    c.remove-then-voids.new.self i (c.loop-i.count + c.puts_in-count.result)
    (dropped_void c.args.floor.now c.args.changes.now c.args.marks.now c.requires c.loop-i.changes c.loop-i.marks i c.loop-i.count
    (subst (λ n. Dropped c.args.floor.now c.args.changes.now c.args.marks.now c.loop-i.changes c.loop-i.marks n c.loop-i.count)
    {x = c.loop-i.i} {y = i + 1} (omega (arith, c.loop-i-test.true)) c.loop-i.invariant)
    c.at-change.result.now c.at-change.ensures (sym c.voids.ensures ∙ c.if-voids.true) c.puts_in-count.result c.puts_in-count.ensures)
    c.remove.ensures c.remove-then-voids.ensures

pub loop-i-preserved : goal.loop-i-preserved
loop-i-preserved g c =
    let i = c.loop-i.i - 1 in
    dropped_kept c.args.floor.now c.args.changes.now c.args.marks.now c.requires c.loop-i.changes c.loop-i.marks i c.loop-i.count
    (subst (λ n. Dropped c.args.floor.now c.args.changes.now c.args.marks.now c.loop-i.changes c.loop-i.marks n c.loop-i.count)
    {x = c.loop-i.i} {y = i + 1} (omega (arith, c.loop-i-test.true)) c.loop-i.invariant)
    c.at-change.result.now c.at-change.ensures (sym c.voids.ensures ∙ c.if-voids.false)
