use Rattle.std.proofs.Common.{◌≡◌, ◌+◌, ◌-◌, ◌/◌, ◌<◌, length, not, false, sym, ap, ◌∙◌, subst, arith}
use Rattle.std.specs.List.{AllWithin}
use Rattle.std.specs.Option.{option_copied}
use Rattle.ds_names.specs.Key.{key_cmp}
use Rattle.ds_names.proofs.OrderLemmas.{keys_total, exact_keys}
use Rattle.ds_entry.specs.Change.{ChangeRecord}
use Rattle.ds_join.specs.Reading.{comes_after}
use Rattle.ds_join.proofs.NextLemmas.{after_partitioned}
use Rattle.ds_held.specs.Kept.{keyed}
use Rattle.ds_held.proofs.AfterLemmas.{all_after}
use Rattle.ds_held.proofs.SearchLemmas.{rising_order, passed_upto, failed_from}
use Rattle.ds_held.proofs.order.begin_after.Goals as goal

pub loop-low-preserved-then-comes_after : goal.loop-low-preserved-then-comes_after
loop-low-preserved-then-comes_after c =
    let after = option_copied c.args.after in
    let xs = c.args.changes.now in
    let i = c.loop-low.invariant in
    let middle = c.loop-low.low + (c.loop-low.high - c.loop-low.low) / 2 in
    let inside : middle < c.loop-low.high = omega (arith, c.loop-low-test.true) in (
      omega arith,
      omega (arith, inside, i.1),
      i.2,
      failed_from (λ (x : ChangeRecord). not (comes_after after x)) xs
          (after_partitioned after xs (rising_order key_cmp keys_total exact_keys keyed xs c.requires))
          middle c.at.result.now (omega (arith, inside, i.1)) c.at.ensures (ap not (sym c.comes_after.ensures ∙ c.if-comes_after.true)),
    )

pub loop-low-preserved : goal.loop-low-preserved
loop-low-preserved c =
    let after = option_copied c.args.after in
    let xs = c.args.changes.now in
    let i = c.loop-low.invariant in
    let middle = c.loop-low.low + (c.loop-low.high - c.loop-low.low) / 2 in
    let inside : middle < c.loop-low.high = omega (arith, c.loop-low-test.true) in (
      omega (arith, inside),
      i.1,
      passed_upto (λ (x : ChangeRecord). not (comes_after after x)) xs
          (after_partitioned after xs (rising_order key_cmp keys_total exact_keys keyed xs c.requires))
          middle c.at.result.now (omega (arith, inside, i.1)) c.at.ensures (ap not (sym c.comes_after.ensures ∙ c.if-comes_after.false)),
      i.3,
    )

pub returns-clause-begin : goal.returns-clause-begin
returns-clause-begin c =
    let after = option_copied c.args.after in
    let xs = c.args.changes.now in
    let i = c.loop-low.invariant in
    all_after (comes_after after) xs c.loop-low.low (
      i.2,
      subst (λ n. AllWithin (λ (x : ChangeRecord). not (comes_after after x) ≡ false) xs n (length xs)) {x = c.loop-low.high}
          {y = c.loop-low.low} (omega (arith, i.0, c.loop-low-test.false)) i.3,
    )
