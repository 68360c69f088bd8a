use Rattle.std.proofs.Common.{inl, inr}
use Rattle.c_store.proofs.session.Session.ask.Goals as goal

pub returns-in-Ok-Some : goal.returns-in-Ok-Some
returns-in-Ok-Some c = inl
    (record { command = c.in-Ok-Some.command; stands = rw c.in-Ok-Some.field-0-is at c.in-Ok-Some.ensures; answered = c.answer.ensures })

pub returns-in-Ok-None : goal.returns-in-Ok-None
returns-in-Ok-None c = inr (inl (rw c.in-Ok-None.field-0-is at c.in-Ok-None.ensures, c.decline.ensures))

pub returns-in-Err : goal.returns-in-Err
returns-in-Err c = inr (inr (c.in-Err.ensures, c.refuse.ensures))
