use Rattle.std.proofs.Common.{◌≡◌, List, Some, length, take, drop, get_or, refl, ap, ◌∙◌, subst, arith}
use Rattle.std.specs.List.{slice_get}
use Rattle.std.proofs.lemmas.Option.{slice_get_read}
use Rattle.driver_tables.specs.declared.moves.Move.{Move}
use Rattle.rs_to_store.specs.Submitting.{all_in}
use Rattle.c_store.specs.Giving.{GivesMoves}
use Rattle.c_store.proofs.GivingLemmas.{rounds_next, left_next}
use Rattle.c_store.proofs.moves.LastMoves.give.Goals as goal

pub loop-round-preserved : goal.loop-round-preserved
loop-round-preserved c =
    let rounds = c.self.inside.rounds.items in
    let i = c.loop-round.round-index in
    let round = c.round-item.result in
    let same : c.deref-round-items.result.now ≡ rounds = c.deref-round-items.ensures.value in
    let at : slice_get rounds i ≡ Some round =
    slice_get_read rounds (length rounds) i round refl (omega (arith, c.loop-round-test.true, ap length same))
    (c.round-item.is ∙ ap (λ l. get_or l i round) same) in
    let left = c.loop-round.invariant.left in record {
      left = c.saturating_sub-left.ensures ∙ left_next rounds i c.args.first c.loop-round.left c.len.result round at left c.len.ensures;
      given = subst (λ (l : List Move). GivesMoves l c.args.room.now c.give_round-count.result c.give_round-count.new.room)
          (rounds_next rounds i c.args.first c.loop-round.left round at left)
          (c.give_round-count.ensures (drop c.args.first (all_in (take i rounds))) c.args.room.now c.loop-round.invariant.given);
    }
