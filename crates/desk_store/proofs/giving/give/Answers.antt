use Rattle.std.proofs.Common.{[], ◌++◌, ◌<◌, ◌≤◌, refl, ◌∙◌, arith, ap, length, length-append, length-drop, length-take, List}
use Rattle.std.proofs.lemmas.Result.{err_from_is_err_and}
use Rattle.ds_entry.specs.declared.item.Item.{Item}
use Rattle.desk_store.proofs.GivingLemmas.{fails_only, gives_both, gives_end, gives_none, gives_rest, leaves_rest, merge_fails, only_front}
use Rattle.desk_store.proofs.GivingLemmas.{only_part, only_rest, part_has_few, part_has_some, parts_more, told_gives, told_only}
use Rattle.desk_store.proofs.giving.give.Goals as goal

pub loop-rest-init : goal.loop-rest-init
loop-rest-init g c =
    let s = g.S.ClientSeat.seat in
    (refl, ([], gives_none (s c.args.seat.now).pass, refl))

-- a part couldn't be split off
pub returns-in_err-part-clause-only : goal.returns-in_err-part-clause-only
returns-in_err-part-clause-only g c =
    let s = g.S.ClientSeat.seat in
    let l = c.loop-rest in (
      l.invariant.0,
      only_front (s c.args.seat.now).pass (s l.seat).pass c.args.items l.invariant.1.0 l.rest l.taken l.invariant.1.1
          l.invariant.1.2,
    )

pub returns-in_err-part-clause-fault : goal.returns-in_err-part-clause-fault
returns-in_err-part-clause-fault g c =
    let s = g.S.ClientSeat.seat in
    let l = c.loop-rest in
    let exit = err_from_is_err_and c.from_residual.result c.from_residual.ensures.1 in
    rw (exit.1, exit.2)
    (leaves_rest (s c.args.seat.now).pass (s l.seat).pass c.args.items l.invariant.1.0 l.rest l.taken l.invariant.1.1 l.invariant.1.2
    (omega (arith, c.loop-rest-test.true, c.len.ensures)))

-- a part was merged, or wasn't
pub returns-in_err-count-clause-only : goal.returns-in_err-count-clause-only
returns-in_err-count-clause-only g c =
    let s = g.S.ClientSeat.seat in
    let l = c.loop-rest in
    let part : List Item = c.in_ok-part.part in
    let is = c.in_ok-part.ensures.part in (
      c.in_err-count.ensures.same ∙ l.invariant.0,
      only_part l.rest part is c.first_part.new.items c.args.items l.invariant.1.0 c.in_ok-part.ensures.rest l.invariant.1.2
          (s c.args.seat.now).pass (s l.seat).pass (s c.merge.new.seat).pass l.taken l.invariant.1.1
          (fails_only (s l.seat).pass (s c.merge.new.seat).pass part c.in_err-count.field-0.0
          (part_has_some l.rest part is (omega (arith, c.loop-rest-test.true))) (part_has_few l.rest part is) c.in_err-count.ensures.fault),
    )

pub returns-in_err-count-clause-fault : goal.returns-in_err-count-clause-fault
returns-in_err-count-clause-fault g c =
    let s = g.S.ClientSeat.seat in
    let l = c.loop-rest in
    let exit = err_from_is_err_and c.from_residual-in_err-count.result c.from_residual-in_err-count.ensures.1 in
    rw (exit.1, exit.2)
    (merge_fails (s c.args.seat.now).pass (s l.seat).pass (s c.merge.new.seat).pass c.args.items l.invariant.1.0 c.in_ok-part.part l.taken
    c.in_err-count.field-0.0 l.invariant.1.1 c.in_err-count.ensures.fault)

pub loop-rest-smaller : goal.loop-rest-smaller
loop-rest-smaller g c =
    omega (arith, ap (λ (x : List Item). length x) c.in_ok-part.ensures.rest, length-drop 256 c.loop-rest.rest, c.loop-rest-test.true)

pub loop-rest-preserved : goal.loop-rest-preserved
loop-rest-preserved g c =
    let s = g.S.ClientSeat.seat in
    let l = c.loop-rest in
    let part : List Item = c.in_ok-part.part in
    let is = c.in_ok-part.ensures.part in
    let gives = told_gives (s l.seat).pass (s c.merge.new.seat).pass part c.in_ok-count.count
    (part_has_some l.rest part is (omega (arith, c.loop-rest-test.true))) (part_has_few l.rest part is) c.in_ok-count.ensures.told in (
      c.in_ok-count.ensures.same ∙ l.invariant.0,
      (
        l.invariant.1.0 ++ part,
        gives_both (s c.args.seat.now).pass (s l.seat).pass (s c.merge.new.seat).pass l.invariant.1.0 part l.taken c.in_ok-count.count
            l.invariant.1.1 gives,
        parts_more l.rest part is c.first_part.new.items c.args.items l.invariant.1.0 c.in_ok-part.ensures.rest l.invariant.1.2,
      ),
    )

pub returns-then-len-eq0-clause-only : goal.returns-then-len-eq0-clause-only
returns-then-len-eq0-clause-only g c =
    let s = g.S.ClientSeat.seat in
    let l = c.loop-rest in (
      l.invariant.0,
      only_front (s c.args.seat.now).pass (s l.seat).pass c.args.items l.invariant.1.0 l.rest l.taken l.invariant.1.1
          l.invariant.1.2,
    )

pub returns-then-len-eq0-clause-given : goal.returns-then-len-eq0-clause-given
returns-then-len-eq0-clause-given g c =
    let s = g.S.ClientSeat.seat in
    let l = c.loop-rest in
    gives_end (s c.args.seat.now).pass (s l.seat).pass c.args.items l.invariant.1.0 l.rest l.taken l.invariant.1.1 l.invariant.1.2
    (omega (arith, c.if-len-eq0.true, c.len-2.ensures))

-- the rest was merged, or wasn't
pub returns-in_err-count-2-clause-only : goal.returns-in_err-count-2-clause-only
returns-in_err-count-2-clause-only g c =
    let s = g.S.ClientSeat.seat in
    let l = c.loop-rest in
    let some : 0 < length l.rest = omega (arith, c.if-len-eq0.false, c.len-2.ensures) in
    let few : length l.rest ≤ 256 = omega (arith, c.loop-rest-test.false) in (
      c.in_err-count-2.ensures.same ∙ l.invariant.0,
      only_rest (s c.args.seat.now).pass (s l.seat).pass (s c.merge-2.new.seat).pass c.args.items l.invariant.1.0 l.rest l.taken
          l.invariant.1.1 l.invariant.1.2
          (fails_only (s l.seat).pass (s c.merge-2.new.seat).pass l.rest c.in_err-count-2.field-0.0 some few
          c.in_err-count-2.ensures.fault),
    )

pub returns-in_err-count-2-clause-fault : goal.returns-in_err-count-2-clause-fault
returns-in_err-count-2-clause-fault g c =
    let s = g.S.ClientSeat.seat in
    let l = c.loop-rest in
    let exit = err_from_is_err_and c.from_residual-in_err-count-2.result c.from_residual-in_err-count-2.ensures.1 in
    rw (exit.1, exit.2)
    (merge_fails (s c.args.seat.now).pass (s l.seat).pass (s c.merge-2.new.seat).pass c.args.items l.invariant.1.0 l.rest l.taken
    c.in_err-count-2.field-0.0 l.invariant.1.1 c.in_err-count-2.ensures.fault)

pub returns-clause-only : goal.returns-clause-only
returns-clause-only g c =
    let s = g.S.ClientSeat.seat in
    let l = c.loop-rest in
    let some : 0 < length l.rest = omega (arith, c.if-len-eq0.false, c.len-2.ensures) in
    let few : length l.rest ≤ 256 = omega (arith, c.loop-rest-test.false) in (
      c.in_ok-count-2.ensures.same ∙ l.invariant.0,
      only_rest (s c.args.seat.now).pass (s l.seat).pass (s c.merge-2.new.seat).pass c.args.items l.invariant.1.0 l.rest l.taken
          l.invariant.1.1 l.invariant.1.2
          (told_only (s l.seat).pass (s c.merge-2.new.seat).pass l.rest c.in_ok-count-2.count some few c.in_ok-count-2.ensures.told),
    )

pub returns-clause-given : goal.returns-clause-given
returns-clause-given g c =
    let s = g.S.ClientSeat.seat in
    let l = c.loop-rest in
    let some : 0 < length l.rest = omega (arith, c.if-len-eq0.false, c.len-2.ensures) in
    let few : length l.rest ≤ 256 = omega (arith, c.loop-rest-test.false) in
    gives_rest (s c.args.seat.now).pass (s l.seat).pass (s c.merge-2.new.seat).pass c.args.items l.invariant.1.0 l.rest l.taken
    l.invariant.1.1 l.invariant.1.2 c.in_ok-count-2.count
    (told_gives (s l.seat).pass (s c.merge-2.new.seat).pass l.rest c.in_ok-count-2.count some few c.in_ok-count-2.ensures.told)

pub overflow_add-taken : goal.overflow_add-taken
overflow_add-taken g c =
    let s = g.S.ClientSeat.seat in
    let l = c.loop-rest in
    let part : List Item = c.in_ok-part.part in
    let is = c.in_ok-part.ensures.part in
    let gives = told_gives (s l.seat).pass (s c.merge.new.seat).pass part c.in_ok-count.count
    (part_has_some l.rest part is (omega (arith, c.loop-rest-test.true))) (part_has_few l.rest part is) c.in_ok-count.ensures.told in
    omega (
      arith,
      c.len-most.ensures,
      c.len-most.type_inv,
      l.invariant.1.1.within,
      gives.within,
      length-append l.invariant.1.0 l.rest,
      ap length
          l.invariant.1.2,
      ap length is,
      length-take 256 l.rest,
    )

pub overflow_add-result : goal.overflow_add-result
overflow_add-result g c =
    let s = g.S.ClientSeat.seat in
    let l = c.loop-rest in
    let some : 0 < length l.rest = omega (arith, c.if-len-eq0.false, c.len-2.ensures) in
    let few : length l.rest ≤ 256 = omega (arith, c.loop-rest-test.false) in
    let gives = told_gives (s l.seat).pass (s c.merge-2.new.seat).pass l.rest c.in_ok-count-2.count some few c.in_ok-count-2.ensures.told in
    omega (
      arith,
      c.len-most.ensures,
      c.len-most.type_inv,
      l.invariant.1.1.within,
      gives.within,
      length-append l.invariant.1.0 l.rest,
      ap length
          l.invariant.1.2,
    )
