use Rattle.std.proofs.Common.{◌≡◌, true, take, get_or, arith}
use Rattle.std.specs.Char.{is_ascii_digit}
use Rattle.std.specs.List.{prefix_len}
use Rattle.std.proofs.lemmas.Bool.Decides.{nat_tests}
use Rattle.ds_names.proofs.DecimalLemmas.{goes_on, value_more, too_large}
use Rattle.ds_names.proofs.decimal.long_number_of.Goals as goal

pub returns-in_err-checked_mul : goal.returns-in_err-checked_mul
returns-in_err-checked_mul c =
    let digit : is_ascii_digit (get_or c.args.bytes.now c.loop-at.at 0) ≡ true = grind (arith, nat_tests) in
    let more = goes_on c.args.bytes.now c.loop-at.at c.loop-at-test.true c.loop-at.invariant.run digit in
    rw c.from_residual.ensures (too_large (take (prefix_len is_ascii_digit c.args.bytes.now) c.args.bytes.now) c.loop-at.at more.within
    more.digits (omega (arith, c.in_err-checked_mul.ensures, c.loop-at.invariant.value)))

pub returns-in_err-number : goal.returns-in_err-number
returns-in_err-number c =
    let digit : is_ascii_digit (get_or c.args.bytes.now c.loop-at.at 0) ≡ true = grind (arith, nat_tests) in
    let more = goes_on c.args.bytes.now c.loop-at.at c.loop-at-test.true c.loop-at.invariant.run digit in
    rw c.from_residual-in_err-number.ensures (too_large (take (prefix_len is_ascii_digit c.args.bytes.now) c.args.bytes.now) c.loop-at.at
    more.within more.digits
    (omega (arith, c.in_err-number.ensures, c.in_ok-checked_mul.ensures, c.from.ensures, c.loop-at.invariant.value, more.byte)))

pub loop-at-preserved : goal.loop-at-preserved
loop-at-preserved c =
    let digit : is_ascii_digit (get_or c.args.bytes.now c.loop-at.at 0) ≡ true = grind (arith, nat_tests) in
    let more = goes_on c.args.bytes.now c.loop-at.at c.loop-at-test.true c.loop-at.invariant.run digit in
    let value = value_more (take (prefix_len is_ascii_digit c.args.bytes.now) c.args.bytes.now) c.loop-at.at more.within more.digits in
    record {
      value =
          omega (arith, value.2, more.byte, c.in_ok-number.ensures, c.in_ok-checked_mul.ensures, c.from.ensures, c.loop-at.invariant.value);
      limit = omega (arith, c.in_ok-number.ensures);
      run = more.run;
    }
