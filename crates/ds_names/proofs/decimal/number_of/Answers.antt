use Rattle.std.proofs.Common.{◌≡◌, ◌<◌, true, take, get_or, arith}
use Rattle.std.specs.Char.{is_ascii_digit}
use Rattle.std.specs.List.{prefix_len}
use Rattle.std.proofs.lemmas.Bool.Decides.{nat_tests}
use Rattle.ds_names.proofs.DecimalLemmas.{front_at, goes_on, short_more, value_more}
use Rattle.ds_names.proofs.decimal.number_of.Goals as goal

pub overflow_mul-number : goal.overflow_mul-number
overflow_mul-number c =
    let front = front_at c.min.result c.args.bytes.now c.loop-at.at c.loop-at-test.true in
    omega (arith, short_more c.loop-at.number c.loop-at.at 0 c.loop-at.invariant.limit (omega arith) (omega arith))

pub overflow_add-number : goal.overflow_add-number
overflow_add-number c =
    let front = front_at c.min.result c.args.bytes.now c.loop-at.at c.loop-at-test.true in
    let small : c.from.result < 10 = grind (arith, nat_tests) in
    omega (arith, short_more c.loop-at.number c.loop-at.at c.from.result c.loop-at.invariant.limit (omega arith) small)

pub loop-at-preserved : goal.loop-at-preserved
loop-at-preserved c =
    let front = front_at c.min.result c.args.bytes.now c.loop-at.at c.loop-at-test.true in
    let digit : is_ascii_digit (get_or c.args.bytes.now c.loop-at.at 0) ≡ true = grind (arith, nat_tests) in
    let more = goes_on c.args.bytes.now c.loop-at.at front.1 c.loop-at.invariant.run digit in
    let value = value_more (take (prefix_len is_ascii_digit c.args.bytes.now) c.args.bytes.now) c.loop-at.at more.within more.digits in
    record {
      value = omega (arith, value.2, more.byte, front.2, c.from.ensures, c.loop-at.invariant.value);
      limit =
          omega (
            arith,
            short_more c.loop-at.number c.loop-at.at c.from.result c.loop-at.invariant.limit (omega arith)
                (omega (arith, value.1, more.byte)),
          );
      run = more.run;
    }
