use Rattle.std.proofs.Common.{sym, arith}
use Rattle.ds_pattern.proofs.NarrowLemmas.{range_taken, range_left, all_taken, ascii_of_all}
use Rattle.ds_pattern.proofs.narrow.of_ascii.Goals as goal
use Rattle.ds_pattern.proofs.narrow.of_ascii.Goals.{then-first-le-LAST_ASCII+in_ok-push, else-first-le-LAST_ASCII}

pub loop-i-preserved : goal.loop-i-preserved
loop-i-preserved c = elim c.if-first-le-LAST_ASCII.branch [
  | then-first-le-LAST_ASCII+in_ok-push w ↦
      rw (w.ranges-is, w.in_ok-push.ensures.items)
      (range_taken c.loop-i.ranges.items c.args.class.now.ranges.items c.loop-i.i c.index.result.now _
      (omega (arith, c.loop-i-test.true, c.len-i-end.ensures, c.args.class.now.ranges.ok.0)) (sym c.index.ensures) w.min.ensures
      c.loop-i.invariant)
  | else-first-le-LAST_ASCII w ↦
      rw w.ranges-is (range_left c.loop-i.ranges.items c.args.class.now.ranges.items c.loop-i.i c.index.result.now
      (omega (arith, c.loop-i-test.true, c.len-i-end.ensures, c.args.class.now.ranges.ok.0)) (sym c.index.ensures)
      w.if-first-le-LAST_ASCII.false c.loop-i.invariant)
]

pub returns : goal.returns
returns c =
    let taken = all_taken c.loop-i.ranges.items c.args.class.now.ranges.items c.loop-i.i
    (omega (arith, c.loop-i-test.false, c.len-i-end.ensures, c.args.class.now.ranges.ok.0)) c.loop-i.invariant in
    ascii_of_all c.new.result c.loop-i.ranges.items c.args.class.now.ranges.items taken c.new.ensures
