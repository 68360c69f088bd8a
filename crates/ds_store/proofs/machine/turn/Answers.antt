use Rattle.ds_store.proofs.machine.turn.Goals as goal

pub returns : goal.returns
returns c = record { stood = c.cursor-stood.ensures.stood; steps = c.apply.ensures.step; last = c.apply.ensures.last }
