use Rattle.std.proofs.Common.{subst, inr}
use Rattle.std.proofs.lemmas.Result.{IfErr-weaker}
use Rattle.ds_machine.specs.declared.reply.Reply.{Reply}
use Rattle.desk_store.specs.Called.{MadeCall}
use Rattle.ds_live.proofs.publishing.ask_for_change.Goals as goal

pub returns-clause-fault : goal.returns-clause-fault
returns-clause-fault g c =
    let p = c.args.seat.now.pass in
    let q = c.ask.new.self.pass in
    let answer = c.in_ok-answer.answer in
    IfErr-weaker c.accepted.result _ _
    (λ fault told. inr
    (told.0, answer.place, subst (λ (r : Reply). MadeCall p q c.args.command r answer.place) told.1 c.in_ok-answer.ensures.called, told.2))
    c.accepted.ensures.refused
