use Rattle.std.proofs.lemmas.Result.{IfErr-weaker, IfOk-weaker}
use Rattle.history.specs.History.{Stepped}
use Rattle.desk_rule.proofs.FreeLemmas.{holds_later, misses_later, waits_busy, worn_later}
use Rattle.desk_rule.proofs.free_call.try_turn.Goals as goal

pub returns-in-Ok-clause-turn : goal.returns-in-Ok-clause-turn
returns-in-Ok-clause-turn g c = holds_later _ _ c.loop.seat _ _ c.loop.invariant c.in-Ok.ensures.turn

pub returns-in-Err-Worn-clause-missed : goal.returns-in-Err-Worn-clause-missed
returns-in-Err-Worn-clause-missed g c = worn_later (Stepped g.M.Machine.stands g.M.Machine.steps) g.M.Machine.owes _ c.loop.seat _ _
    c.in-Err-Worn.field-0-is c.loop.invariant c.in-Err-Worn.ensures.missed

pub loop-preserved : goal.loop-preserved
loop-preserved g c = waits_busy (Stepped g.M.Machine.stands g.M.Machine.steps) g.M.Machine.owes _ c.loop.seat _ _ c.in-Err-Busy.field-0-is
    c.requires.rests c.loop.invariant c.try_once.ensures.same c.in-Err-Busy.ensures.missed

pub returns-clause-turn : goal.returns-clause-turn
returns-clause-turn g c = IfOk-weaker c.try_once-2.result _ _ (λ place h. holds_later _ _ c.loop.seat _ place c.loop.invariant h)
    c.try_once-2.ensures.turn

pub returns-clause-missed : goal.returns-clause-missed
returns-clause-missed g c =
    IfErr-weaker c.try_once-2.result _ _ (λ stop m. misses_later _ g.M.Machine.owes _ c.loop.seat _ stop c.loop.invariant m)
    c.try_once-2.ensures.missed
