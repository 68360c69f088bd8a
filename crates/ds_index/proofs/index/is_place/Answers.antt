use Rattle.std.proofs.Common.{◌≡◌, ◌-◌, ◌≤◌, false, true, length, sym, ◌∙◌, ap, subst, arith}
use Rattle.ds_index.specs.Named.{is_label_after, IsLabelPlace}
use Rattle.ds_index.proofs.NamedLemmas.{after_nth, after_partitioned, point_first, point_next, point_bound}
use Rattle.ds_index.proofs.index.is_place.Goals as goal
use Rattle.ds_index.proofs.index.is_place.Goals.{else-place-gt0-via-then-place-gt0+else-not-is_after_nth, else-place-gt0-via-else-place-gt0}
use Rattle.std.proofs.lemmas.Bool.{not-true}

pub returns : goal.returns
returns c = λ e.
    let p = c.args.named.now in
    let xs = c.args.names.now in
    let parted = after_partitioned p xs c.requires in
    let high : after_nth p xs c.args.place ≡ false = sym c.is_after_nth-2.ensures ∙ not-true c.is_after_nth-2.result e in
    elim c.else-place-gt0.branch [
      | else-place-gt0-via-then-place-gt0+else-not-is_after_nth w ↦
          (let low : after_nth p xs (c.args.place - 1) ≡ true = sym w.is_after_nth.ensures ∙ w.if-not-is_after_nth.false in (
            point_bound (is_label_after p) xs parted c.args.place (c.args.place - 1) (omega (arith, w.if-place-gt0.true)) low,
            point_next (is_label_after p) xs parted c.args.place (c.args.place - 1) (omega (arith, w.if-place-gt0.true)) low high,
          ))
      | else-place-gt0-via-else-place-gt0 w ↦
          (let none : c.args.place ≡ 0 = omega (arith, w.if-place-gt0.false) in
          subst (λ n. (n ≤ length xs) × IsLabelPlace p xs n) (sym none)
          (omega arith, point_first (is_label_after p) xs parted (ap (after_nth p xs) (sym none) ∙ high)))
    ]
