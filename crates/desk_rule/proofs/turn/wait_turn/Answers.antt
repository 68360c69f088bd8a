use Rattle.history.specs.History.{Stepped}
use Rattle.desk_rule.proofs.FreeLemmas.{holds_later, waits_busy, worn_later}
use Rattle.desk_rule.proofs.turn.wait_turn.Goals as goal

pub returns-in-Ok-clause-turn : goal.returns-in-Ok-clause-turn
returns-in-Ok-clause-turn g c = holds_later _ _ c.loop.seat _ _ c.loop.invariant.2 c.in-Ok.ensures.turn

pub returns-in-Err-Worn-clause-worn : goal.returns-in-Err-Worn-clause-worn
returns-in-Err-Worn-clause-worn g c = worn_later (Stepped g.M.Machine.stands g.M.Machine.steps) g.M.Machine.owes _ c.loop.seat _ _
    c.in-Err-Worn.field-0-is c.loop.invariant.2 c.in-Err-Worn.ensures.missed

pub loop-preserved : goal.loop-preserved
loop-preserved g c = (
  tt,
  tt,
  waits_busy (Stepped g.M.Machine.stands g.M.Machine.steps) g.M.Machine.owes _ c.loop.seat _ _ c.in-Err-Busy.field-0-is
      c.requires.rests c.loop.invariant.2 c.try_once.ensures.same c.in-Err-Busy.ensures.missed,
)
