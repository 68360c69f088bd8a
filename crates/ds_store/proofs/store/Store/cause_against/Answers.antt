use Rattle.std.proofs.Common.{IfNone, subst}
use Rattle.ds_machine.specs.Asking.{change_asked}
use Rattle.ds_store.specs.Asked.{request_of}
use Rattle.ds_store.specs.Standing.{machine_standing}
use Rattle.ds_store.proofs.StandingLemmas.{asked_cause, none_free}
use Rattle.ds_store.proofs.store.Store.cause_against.Goals as goal
use Rattle.ds_content.specs.Standing.{standing_in}
use Rattle.ds_machine.specs.Standing.{IsFree}

pub returns-clause-first : goal.returns-clause-first
returns-clause-first c = λ s stands.
    asked_cause c.args.self.now s (request_of c.args.asked.now) c.args.body.now c.args.caller.now
    (machine_standing c.standing_before-standing.result) c.cause_of_asked.result
    stands c.requires.named (c.standing_before-standing.ensures c.args.body.now) c.cause_of_asked.ensures.first

pub returns-clause-free : goal.returns-clause-free
returns-clause-free c =
    let a = request_of c.args.asked.now in
    subst (λ m. IfNone c.cause_of_asked.result
    (IsFree (standing_in c.args.self.now (change_asked m a c.args.body.now)) (change_asked m a c.args.body.now))) c.requires.named
    (none_free c.cause_of_asked.result c.args.self.now (change_asked c.args.caller.now a c.args.body.now)
    (machine_standing c.standing_before-standing.result)
    (c.standing_before-standing.ensures c.args.body.now) c.cause_of_asked.ensures.free)
