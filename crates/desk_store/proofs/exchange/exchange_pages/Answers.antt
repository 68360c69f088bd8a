use Rattle.std.proofs.Common.{ℕ, ◌+◌, ◌<◌, ◌^◌, length, Option, Some, None, refl, sym, ◌∙◌, subst, arith, false}
use Rattle.std.proofs.lemmas.Result.{err_from_is_err_and}
use Rattle.ds_names.specs.declared.key.Key.{Key}
use Rattle.ds_feed.specs.declared.cursor.Cursor.{Cursor}
use Rattle.ds_replica.specs.Paged.{last_key}
use Rattle.desk_store.specs.Asking.{GoesByPages}
use Rattle.desk_store.specs.Exchange.{Exchanges}
use Rattle.desk_store.proofs.PageLemmas.{page_fails, page_fault, page_only, page_stops, pages_end, pages_more, pages_none, taken_few}
use Rattle.desk_store.proofs.PageLemmas.{told_few}
use Rattle.desk_store.proofs.exchange.exchange_pages.Goals as goal

pub loop-init : goal.loop-init
loop-init g c =
    let here = g.A.ClientSeat.seat in
    let there = g.B.ClientSeat.seat in
    (tt, tt, refl, refl, pages_none (here c.args.a.now).pass (there c.args.b.now).pass)

pub returns-in_err-items-clause-only : goal.returns-in_err-items-clause-only
returns-in_err-items-clause-only g c =
    let here = g.A.ClientSeat.seat in
    let there = g.B.ClientSeat.seat in
    let l = c.loop in (
      c.in_err-items.ensures.same ∙ l.invariant.2,
      l.invariant.3,
      page_fails (here c.args.a.now).pass (here l.a).pass (there c.args.b.now).pass (there l.b).pass (here c.page.new.seat).pass l.after
          l.first l.done l.taken l.invariant.4 c.in_err-items.field-0.0 c.in_err-items.ensures.fault,
    )

pub returns-in_err-items-clause-fault : goal.returns-in_err-items-clause-fault
returns-in_err-items-clause-fault g c =
    let here = g.A.ClientSeat.seat in
    let there = g.B.ClientSeat.seat in
    let l = c.loop in
    let exit = err_from_is_err_and c.from_residual.result c.from_residual.ensures.1 in
    rw (exit.1, exit.2)
    (page_fault (here c.args.a.now).pass (here l.a).pass (there c.args.b.now).pass (there l.b).pass (here c.page.new.seat).pass l.after
    l.first l.done l.taken l.invariant.4 c.in_err-items.field-0.0 c.in_err-items.ensures.fault)

pub returns-in_err-given-clause-only : goal.returns-in_err-given-clause-only
returns-in_err-given-clause-only g c =
    let here = g.A.ClientSeat.seat in
    let there = g.B.ClientSeat.seat in
    let l = c.loop in
    let only = c.in_err-given.ensures.only in (
      c.in_ok-items.ensures.same ∙ l.invariant.2,
      only.0 ∙ l.invariant.3,
      page_only (here c.args.a.now).pass (here l.a).pass (there c.args.b.now).pass (there l.b).pass (here c.page.new.seat).pass l.after
          l.first l.done l.taken l.invariant.4
          (there c.give.new.seat).pass c.in_ok-items.field-0 c.in_ok-items.ensures.told only.1,
    )

pub returns-in_err-given-clause-fault : goal.returns-in_err-given-clause-fault
returns-in_err-given-clause-fault g c =
    let here = g.A.ClientSeat.seat in
    let there = g.B.ClientSeat.seat in
    let l = c.loop in
    let exit = err_from_is_err_and c.from_residual-in_err-given.result c.from_residual-in_err-given.ensures.1 in
    rw (exit.1, exit.2)
    (page_stops (here c.args.a.now).pass (here l.a).pass (there c.args.b.now).pass (there l.b).pass (here c.page.new.seat).pass l.after
    l.first l.done l.taken l.invariant.4
    (there c.give.new.seat).pass c.in_ok-items.field-0 c.in_ok-items.ensures.told
    c.in_err-given.field-0.0 c.in_err-given.ensures.fault)

pub returns-then-last-clause-only : goal.returns-then-last-clause-only
returns-then-last-clause-only g c =
    let here = g.A.ClientSeat.seat in
    let there = g.B.ClientSeat.seat in
    let l = c.loop in
    let only = c.in_ok-given.ensures.only in (
      c.in_ok-items.ensures.same ∙ l.invariant.2,
      only.0 ∙ l.invariant.3,
      page_only (here c.args.a.now).pass (here l.a).pass (there c.args.b.now).pass (there l.b).pass (here c.page.new.seat).pass l.after
          l.first l.done l.taken l.invariant.4
          (there c.give.new.seat).pass c.in_ok-items.field-0 c.in_ok-items.ensures.told only.1,
    )

pub returns-then-last-clause-exchanged : goal.returns-then-last-clause-exchanged
returns-then-last-clause-exchanged g c =
    let here = g.A.ClientSeat.seat in
    let there = g.B.ClientSeat.seat in
    let l = c.loop in
    let p = (here c.args.a.now).pass in
    let q = (here c.page.new.seat).pass in
    let r = (there c.args.b.now).pass in
    let s = (there c.give.new.seat).pass in
    let page = c.in_ok-items.field-0 in
    let given = c.in_ok-given.given in
    let ends = pages_end p (here l.a).pass r (there l.b).pass q l.after l.first l.done l.taken l.invariant.4 s page
    c.in_ok-items.ensures.told given c.in_ok-given.ensures.given c.if-last.true in
    subst (λ (n : ℕ). Exchanges p q r s None (record
    { cursor = c.unwrap_or-from.result; done = l.done + n; taken = l.taken + given; more = false })) (sym c.len-count.ensures)
    (subst (λ (x : Cursor). Exchanges p q r s None
    (record { cursor = x; done = l.done + length page.items; taken = l.taken + given; more = false })) (sym c.unwrap_or-from.ensures) ends)

pub loop-preserved : goal.loop-preserved
loop-preserved g c =
    let here = g.A.ClientSeat.seat in
    let there = g.B.ClientSeat.seat in
    let l = c.loop in
    let p = (here c.args.a.now).pass in
    let q = (here c.page.new.seat).pass in
    let r = (there c.args.b.now).pass in
    let s = (there c.give.new.seat).pass in
    let page = c.in_ok-items.field-0 in
    let given = c.in_ok-given.given in
    let few : length page.items < 2 ^ 64 = omega (arith, c.len-count.ensures, c.len-count.type_inv) in
    let more = pages_more p (here l.a).pass r (there l.b).pass q l.after l.first l.done l.taken l.invariant.4 s page
    c.in_ok-items.ensures.told given c.in_ok-given.ensures.given c.if-last.false few in (
      tt,
      tt,
      c.in_ok-items.ensures.same ∙ l.invariant.2,
      c.in_ok-given.ensures.only.0 ∙ l.invariant.3,
      subst (λ (k : Option Key). GoesByPages p q r s k (Some c.unwrap_or-from.result) (l.done + c.len-count.result) (l.taken + given))
          (sym c.go_past.ensures)
          (subst (λ (n : ℕ). GoesByPages p q r s (last_key l.after page.items) (Some c.unwrap_or-from.result) (l.done + n)
          (l.taken + given)) (sym c.len-count.ensures)
          (subst (λ (x : Cursor). GoesByPages p q r s (last_key l.after page.items) (Some x) (l.done + length page.items)
          (l.taken + given)) (sym c.unwrap_or-from.ensures) more)),
    )

pub overflow_add-done : goal.overflow_add-done
overflow_add-done g c =
    let here = g.A.ClientSeat.seat in
    let there = g.B.ClientSeat.seat in
    let l = c.loop in
    let few : length c.in_ok-items.field-0.items < 2 ^ 64 = omega (arith, c.len-count.ensures, c.len-count.type_inv) in
    omega (
      arith,
      c.len-count.ensures,
      told_few (here c.args.a.now).pass (here l.a).pass (there c.args.b.now).pass (there l.b).pass (here c.page.new.seat).pass l.after
          l.first l.done l.taken l.invariant.4
          (there c.give.new.seat).pass c.in_ok-items.field-0 c.in_ok-items.ensures.told c.in_ok-items.ensures.bound few,
    )

pub overflow_add-taken : goal.overflow_add-taken
overflow_add-taken g c =
    let here = g.A.ClientSeat.seat in
    let there = g.B.ClientSeat.seat in
    let l = c.loop in
    let few : length c.in_ok-items.field-0.items < 2 ^ 64 = omega (arith, c.len-count.ensures, c.len-count.type_inv) in
    omega (
      arith,
      taken_few (here c.args.a.now).pass (here l.a).pass (there c.args.b.now).pass (there l.b).pass (here c.page.new.seat).pass l.after
          l.first l.done l.taken l.invariant.4
          (there c.give.new.seat).pass c.in_ok-items.field-0 c.in_ok-items.ensures.told c.in_ok-given.given c.in_ok-given.ensures.given
          c.in_ok-items.ensures.bound few,
    )
