use Rattle.std.proofs.Common.{◌∙◌, drop, ap, sym, refl, arith}
use Rattle.trace_walk.proofs.NumberLemmas.{number_one}
use Rattle.trace_walk.proofs.stopping.stop_of.Goals as goal

pub returns-else-done-count-clause-none : goal.returns-else-done-count-clause-none
returns-else-done-count-clause-none c done less few is =
    let found = c.in_ok-done.ensures.found in
    let one = number_one c.in_ok-done.done done 32 _ _ (omega (arith, found.0)) (omega (arith, less, few)) refl
    (ap (drop 10) (sym found.1 ∙ is)) in
    omega (arith, one.0, less, c.if-done-count.false)
