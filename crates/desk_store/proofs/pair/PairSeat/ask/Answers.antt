use Rattle.std.proofs.Common.{◌≡◌, ap, subst}
use Rattle.std.proofs.lemmas.Result.{err_from_is_err_and}
use Rattle.desk.specs.Calls.{Calls}
use Rattle.desk_rule.proofs.WaitLemmas.{rests_facts}
use Rattle.desk_store.specs.Called.{FoundWorn, MadeCall}
use Rattle.desk_store.specs.Record.{PassRecord}
use Rattle.desk_store.specs.Seat.{SeatRecord}
use Rattle.rs_store.specs.Turns.{RsTurn}
use Rattle.rs_store.specs.declared.call.RsCommand.TheVariants.{Ask}
use Rattle.rs_store.specs.declared.call.RsReply.{RsReply}
use Rattle.desk_store.specs.PairRecord.{is_pair, pair_record}
use Rattle.desk_store.proofs.PairPassLemmas.{call_fits, call_made, found_worn, replied}
use Rattle.desk_store.proofs.pair.PairSeat.ask.Goals as goal

-- no place was left
pub returns-in_err-reply-clause-worn : goal.returns-in_err-reply-clause-worn
returns-in_err-reply-clause-worn g c =
    let p = c.self.inside.pass.now in
    let same : pair_record p ≡ c.args.self.now.pass = ap (λ (s : SeatRecord). s.pass) c.self.view_is in
    let exit = err_from_is_err_and c.from_residual.result c.from_residual.ensures.1 in
    rw (exit.1, exit.2)
    (subst (λ (x : PassRecord). FoundWorn x (pair_record c.call.new.pass) c.in_err-reply.field-0.0) same
    (found_worn p c.call.new.pass c.in_err-reply.field-0.0 c.call.ensures.same.1 c.in_err-reply.ensures.worn))

-- the command isn't in RS's name, so the reply is the store's
pub unreachable-requires : goal.unreachable-requires
unreachable-requires g c =
    let p = c.self.inside.pass.now in
    let at = c.in_ok-reply.field-0 in
    let store = replied p c.call.new.pass (rests_facts p.seat.me.0 p.resting).2 c.args.command at.reply at.place
    c.in_ok-reply.ensures.called c.requires in
    c.in_default.not-Replied store.0 store.1

pub returns-clause-called : goal.returns-clause-called
returns-clause-called g c =
    let p = c.self.inside.pass.now in
    let at = c.in_ok-reply.field-0 in
    let same : pair_record p ≡ c.args.self.now.pass = ap (λ (s : SeatRecord). s.pass) c.self.view_is in
    let called = subst (λ (r : RsReply). Calls is_pair RsTurn p c.call.new.pass (Ask c.args.command) r at.place) c.in-Replied.is
    c.in_ok-reply.ensures.called in
    subst (λ (x : PassRecord). MadeCall x (pair_record c.call.new.pass) c.args.command c.in-Replied.reply at.place) same
    (call_made p c.call.new.pass c.pairs_take_turns.ensures.store c.args.command c.in-Replied.reply at.place called c.call.ensures.same.1
    (rests_facts p.seat.me.0 p.resting).2)

pub returns-clause-fits : goal.returns-clause-fits
returns-clause-fits g c =
    let p = c.self.inside.pass.now in
    let at = c.in_ok-reply.field-0 in
    let called = subst (λ (r : RsReply). Calls is_pair RsTurn p c.call.new.pass (Ask c.args.command) r at.place) c.in-Replied.is
    c.in_ok-reply.ensures.called in
    call_fits p c.call.new.pass c.pairs_take_turns.ensures.store c.args.command c.in-Replied.reply at.place called
    (rests_facts p.seat.me.0 p.resting).2
