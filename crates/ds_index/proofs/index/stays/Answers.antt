use Rattle.std.proofs.Common.{◌≡◌, ◌+◌, ◌-◌, false, true, sym, ◌∙◌, ap, subst, arith}
use Rattle.ds_index.specs.Named.{IsNearLabel}
use Rattle.ds_index.proofs.NamedLemmas.{after_nth, near_first, near_next}
use Rattle.ds_index.proofs.index.stays.Goals as goal
use Rattle.ds_index.proofs.index.stays.Goals.{else-index-gt0-via-then-index-gt0+else-not-is_after_nth, else-index-gt0-via-else-index-gt0}
use Rattle.std.proofs.lemmas.Bool.{not-true}

pub returns : goal.returns
returns c = λ e.
    let p = c.args.named.now in
    let xs = c.args.names.now in
    let high : after_nth p xs (c.args.index + 1) ≡ false = sym c.is_after_nth-2.ensures ∙ not-true c.is_after_nth-2.result e in
    elim c.else-index-gt0.branch [
      | else-index-gt0-via-then-index-gt0+else-not-is_after_nth w ↦
          (let low : after_nth p xs (c.args.index - 1) ≡ true = sym w.is_after_nth.ensures ∙ w.if-not-is_after_nth.false in
          near_next p xs c.requires.sorted c.args.index (c.args.index - 1) (omega (arith, w.if-index-gt0.true)) low high)
      | else-index-gt0-via-else-index-gt0 w ↦
          (let none : c.args.index ≡ 0 = omega (arith, w.if-index-gt0.false) in
          subst (IsNearLabel p xs) (sym none) (near_first p xs c.requires.sorted (ap (λ n. after_nth p xs (n + 1)) (sym none) ∙ high)))
    ]
