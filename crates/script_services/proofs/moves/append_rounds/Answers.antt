use Rattle.std.proofs.Common.{take, arith}
use Rattle.rs_to_store.specs.Submitting.{all_in}
use Rattle.script_services.proofs.ListLemmas.{some_more}
use Rattle.script_answers.proofs.AppendLemmas.{on_each}
use Rattle.script_services.proofs.MoveLemmas.{moves_few, moves_fit}
use Rattle.script_services.proofs.moves.append_rounds.Goals as goal

pub returns-in_err-count-clause-some : goal.returns-in_err-count-clause-some
returns-in_err-count-clause-some c =
    on_each c.from_residual.result (some_more c.args.output.now.items c.loop-round.output.items c.append_round.new.output.items
    (_, c.loop-round.invariant.lines) (c.in_err-count.ensures).some)

pub overflow_add-count : goal.overflow_add-count
overflow_add-count c =
    let fit = moves_fit (all_in (take c.loop-round.round-index c.deref-round-items.result.now)) c.round-item.result c.args.output.now.items
    c.loop-round.output.items c.append_round.new.output.items c.loop-round.count c.in_ok-count.field-0
    c.loop-round.invariant.count (c.in_ok-count.ensures).count c.loop-round.invariant.lines (c.in_ok-count.ensures).written in
    omega (arith, fit, c.append_round.new.output.ok, c.append_round.new.output.small)

pub returns-clause-few : goal.returns-clause-few
returns-clause-few c =
    let few = moves_few (all_in (take c.loop-round.round-index c.deref-round-items.result.now)) c.args.output.now.items
    c.loop-round.output.items c.loop-round.count c.loop-round.invariant.count c.loop-round.invariant.lines in
    omega (arith, few, c.loop-round.output.ok)
