use Rattle.std.proofs.Common.{◌≡◌, IfErr, IfOk, ap, subst}
use Rattle.std.proofs.lemmas.Result.{IfErr-weaker, IfOk-weaker}
use Rattle.desk_rule.proofs.WaitLemmas.{rests_facts}
use Rattle.desk_store.specs.Called.{FoundWorn, MadeCall}
use Rattle.desk_store.specs.Record.{PassRecord, pass_record}
use Rattle.desk_store.specs.Seat.{SeatRecord}
use Rattle.desk_store.proofs.PassLemmas.{call_fits, call_made, found_worn}
use Rattle.desk_store.proofs.seat.Seat.ask.Goals as goal

pub returns-clause-called : goal.returns-clause-called
returns-clause-called g c =
    let p = c.self.inside.pass.now in
    let same : pass_record p ≡ c.args.self.now.pass = ap (λ (s : SeatRecord). s.pass) c.self.view_is in
    subst (λ (x : PassRecord). IfOk c.call.result (λ a. MadeCall x (pass_record c.call.new.pass) c.args.command a.reply a.place)) same
    (IfOk-weaker c.call.result _ _ (λ a called.
    call_made p c.call.new.pass c.args.command a.reply a.place called c.call.ensures.same.1 (rests_facts p.seat.me.0 p.resting).2)
    c.call.ensures.called)

pub returns-clause-fits : goal.returns-clause-fits
returns-clause-fits g c =
    let p = c.self.inside.pass.now in
    IfOk-weaker c.call.result _ _ (λ a called.
    call_fits p c.call.new.pass c.args.command a.reply a.place called (rests_facts p.seat.me.0 p.resting).2) c.call.ensures.called

pub returns-clause-worn : goal.returns-clause-worn
returns-clause-worn g c =
    let p = c.self.inside.pass.now in
    let same : pass_record p ≡ c.args.self.now.pass = ap (λ (s : SeatRecord). s.pass) c.self.view_is in
    subst (λ (x : PassRecord). IfErr c.call.result (λ fault. FoundWorn x (pass_record c.call.new.pass) fault)) same
    (IfErr-weaker c.call.result _ _ (λ fault found. found_worn p c.call.new.pass fault c.call.ensures.same.1 found) c.call.ensures.worn)
