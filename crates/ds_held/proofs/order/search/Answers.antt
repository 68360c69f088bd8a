use Rattle.std.proofs.Common.{◌+◌, ◌-◌, ◌/◌, ◌<◌, sym, ap, ◌∙◌, arith}
use Rattle.ds_names.specs.declared.key.Key.{Key}
use Rattle.ds_names.specs.Key.{key_cmp}
use Rattle.ds_names.proofs.OrderLemmas.{keys_total, exact_keys}
use Rattle.ds_held.specs.Kept.{keyed}
use Rattle.ds_held.proofs.SearchLemmas.{less_upto, greater_from}
use Rattle.ds_held.proofs.order.search.Goals as goal

pub loop-low-preserved-in-Less : goal.loop-low-preserved-in-Less
loop-low-preserved-in-Less c =
    let i = c.loop-low.invariant in
    let middle = c.loop-low.low + (c.loop-low.high - c.loop-low.low) / 2 in
    let inside : middle < c.loop-low.high = omega (arith, c.loop-low-test.true) in (
      omega (arith, inside),
      i.1,
      less_upto key_cmp keys_total exact_keys keyed c.args.key.now c.args.changes.now c.requires middle c.at.result.now
          (omega (arith, inside, i.1)) c.at.ensures
          (ap (λ (k : Key). key_cmp k c.args.key.now) (sym c.key.ensures.value) ∙ sym c.in-Less.ensures),
      i.3,
    )

pub loop-low-preserved : goal.loop-low-preserved
loop-low-preserved c =
    let i = c.loop-low.invariant in
    let middle = c.loop-low.low + (c.loop-low.high - c.loop-low.low) / 2 in
    let inside : middle < c.loop-low.high = omega (arith, c.loop-low-test.true) in (
      omega arith,
      omega (arith, inside, i.1),
      i.2,
      greater_from key_cmp keys_total exact_keys keyed c.args.key.now c.args.changes.now c.requires middle c.at.result.now
          (omega (arith, inside, i.1)) c.at.ensures
          (ap (λ (k : Key). key_cmp k c.args.key.now) (sym c.key.ensures.value) ∙ sym c.in-Greater.ensures),
    )
