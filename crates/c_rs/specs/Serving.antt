-- What an event does to a session with RS, and what leaves RS unchanged.
use Rattle.std.specs.Prelude.{◌≡◌, ℕ, None, Some}
use Rattle.ds_machine.specs.declared.refusal.Refusal.{Refusal}
use Rattle.ds_machine.specs.declared.reply.Reply.TheVariants.{Refused}
use Rattle.rs_core.specs.declared.event.Event.{Event}
use Rattle.rs_store.specs.Serving.{EventTurn}
use Rattle.rs_store.specs.declared.call.RsReply.{RsReply}
use Rattle.script_answers.specs.declared.wording.Wording.TheVariants.{AsMerge}
use Rattle.c_values.specs.declared.answer.Answer.{Answer}
use Rattle.c_values.specs.Answer.{answer_of}
use Rattle.c_store.specs.declared.last.Last.TheVariants.{Reply}
use Rattle.c_store.specs.declared.session.Session.{Session}
use Rattle.c_store.specs.Called.{Rests}
use Rattle.c_rs.specs.declared.session.RsSession.{RsSession}
use Rattle.c_rs.specs.Telling.{told_answer}

-- Whether an event is a turn of RS and its store, whose reply is answered and kept.
pub record ServesBy (event : Event) (tick : ℕ) (old : RsSession) (answer : Answer) (new : RsSession) : Type 0 where
  pub reply : RsReply
  pub served : EventTurn event tick old.session.node.services old.session.node.store reply new.session.node.services new.session.node.store
  pub told_is : answer ≡ told_answer reply
  pub kept : new.told ≡ Some reply

-- Whether the session changes so, in no turn of RS.
pub record SessionDoes (does : Session → Answer → Session → Type 0) (old : RsSession) (answer : Answer) (new : RsSession) : Type 0 where
  pub done : does old.session answer new.session
  pub told : new.told ≡ None

-- Whether a command is refused, and the store and RS are unchanged.
abbrev pub RefusesCommand : Refusal → RsSession → Answer → RsSession → Type 0
RefusesCommand refusal old answer new =
    SessionDoes (λ s a t. Rests s (answer_of (Refused refusal)) (Reply (Refused refusal) AsMerge) a t) old answer new
