use Rattle.std.proofs.Common.{◌≡◌, ◌++◌, List, Some, take, drop, sym, subst, arith}
use Rattle.std.specs.List.{slice_get}
use Rattle.std.specs.Option.{option_copied}
use Rattle.std.proofs.lemmas.List.{take_all}
use Rattle.driver_tables.specs.declared.moves.Move.{Move}
use Rattle.c_store.specs.Giving.{GivesMoves}
use Rattle.c_store.proofs.GivingLemmas.{round_next}
use Rattle.c_store.proofs.giving.give_round.Goals as goal

pub loop-index-preserved : goal.loop-index-preserved
loop-index-preserved c = record {
  from = omega (arith, c.loop-index.invariant.from);
  given = λ moves place given.
      let round = c.args.round.now in
      let i = c.loop-index.index in
      let x = c.in-Some.step.now in
      let at : slice_get round i ≡ Some x = sym (subst (λ o. option_copied o ≡ slice_get round i) c.in-Some.is c.get.ensures) in
      subst (λ (l : List Move). GivesMoves l place c.give_one-count.result c.give_one-count.new.room)
      (round_next moves round c.args.first i x at c.loop-index.invariant.from)
      (c.give_one-count.ensures (moves ++ drop c.args.first (take i round)) place (c.loop-index.invariant.given moves place given));
}

pub returns : goal.returns
returns c moves place given =
    let round = c.args.round.now in
    let all : take c.loop-index.index round ≡ round =
    take_all c.loop-index.index round (omega (arith, c.len-index-end.ensures, c.loop-index-test.false)) in
    subst (λ (l : List Move). GivesMoves (moves ++ drop c.args.first l) place c.loop-index.count c.loop-index.room) all
    (c.loop-index.invariant.given moves place given)
