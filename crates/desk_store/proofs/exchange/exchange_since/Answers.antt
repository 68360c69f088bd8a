use Rattle.std.proofs.Common.{ℕ, nat_le, Some, refl, sym, subst}
use Rattle.std.proofs.lemmas.Result.{err_from_is_err_and}
use Rattle.desk_store.specs.Exchange.{Exchanges}
use Rattle.desk_store.proofs.PageLemmas.{since_ends, since_fails, since_fault, since_only, since_stops}
use Rattle.desk_store.proofs.exchange.exchange_since.Goals as goal

pub returns-in_err-items-clause-only : goal.returns-in_err-items-clause-only
returns-in_err-items-clause-only g c =
    let here = g.A.ClientSeat.seat in
    let there = g.B.ClientSeat.seat in (
      c.in_err-items.ensures.same,
      refl,
      since_fails (here c.args.a.now).pass (here c.since.new.seat).pass c.args.from
          (there c.args.b.now).pass c.in_err-items.field-0.0 c.in_err-items.ensures.fault,
    )

pub returns-in_err-items-clause-fault : goal.returns-in_err-items-clause-fault
returns-in_err-items-clause-fault g c =
    let here = g.A.ClientSeat.seat in
    let there = g.B.ClientSeat.seat in
    let exit = err_from_is_err_and c.from_residual.result c.from_residual.ensures.1 in
    rw (exit.1, exit.2) (since_fault (here c.args.a.now).pass (here c.since.new.seat).pass c.args.from (there c.args.b.now).pass
    c.in_err-items.field-0.0 c.in_err-items.ensures.fault)

pub returns-in_err-taken-clause-only : goal.returns-in_err-taken-clause-only
returns-in_err-taken-clause-only g c =
    let here = g.A.ClientSeat.seat in
    let there = g.B.ClientSeat.seat in
    let only = c.in_err-taken.ensures.only in (
      c.in_ok-items.ensures.same,
      only.0,
      since_only (here c.args.a.now).pass (here c.since.new.seat).pass c.args.from (there c.args.b.now).pass (there c.give.new.seat).pass
          c.in_ok-items.field-0 c.in_ok-items.ensures.told only.1,
    )

pub returns-in_err-taken-clause-fault : goal.returns-in_err-taken-clause-fault
returns-in_err-taken-clause-fault g c =
    let here = g.A.ClientSeat.seat in
    let there = g.B.ClientSeat.seat in
    let exit = err_from_is_err_and c.from_residual-in_err-taken.result c.from_residual-in_err-taken.ensures.1 in
    rw (exit.1, exit.2)
    (since_stops (here c.args.a.now).pass (here c.since.new.seat).pass c.args.from (there c.args.b.now).pass (there c.give.new.seat).pass
    c.in_ok-items.field-0 c.in_ok-items.ensures.told
    c.in_err-taken.field-0.0 c.in_err-taken.ensures.fault)

pub returns-clause-only : goal.returns-clause-only
returns-clause-only g c =
    let here = g.A.ClientSeat.seat in
    let there = g.B.ClientSeat.seat in
    let only = c.in_ok-taken.ensures.only in (
      c.in_ok-items.ensures.same,
      only.0,
      since_only (here c.args.a.now).pass (here c.since.new.seat).pass c.args.from (there c.args.b.now).pass (there c.give.new.seat).pass
          c.in_ok-items.field-0 c.in_ok-items.ensures.told only.1,
    )

pub returns-clause-exchanged : goal.returns-clause-exchanged
returns-clause-exchanged g c =
    let here = g.A.ClientSeat.seat in
    let there = g.B.ClientSeat.seat in
    let p = (here c.args.a.now).pass in
    let q = (here c.since.new.seat).pass in
    let r = (there c.args.b.now).pass in
    let s = (there c.give.new.seat).pass in
    let since = c.in_ok-items.field-0 in
    let taken = c.in_ok-taken.taken in
    subst (λ (n : ℕ). Exchanges p q r s (Some c.args.from)
    (record { cursor = since.cursor; done = n; taken = taken; more = nat_le 256 n })) (sym c.len-done.ensures)
    (since_ends p q c.args.from r s since c.in_ok-items.ensures.told taken c.in_ok-taken.ensures.given)
