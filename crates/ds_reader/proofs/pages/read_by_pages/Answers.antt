use Rattle.std.proofs.Common.{Err, ap, ◌≡◌, ◌+◌, ◌++◌, ◌≤◌, List, Option, Some, None, arith, refl, sym, ◌∙◌, subst, inl, inr}
use Rattle.std.specs.Option.{unwrap_or}
use Rattle.std.proofs.lemmas.Result.{err_from_is_err_and}
use Rattle.ds_names.specs.declared.key.Key.{Key}
use Rattle.ds_entry.specs.declared.item.Item.{Item}
use Rattle.ds_feed.specs.declared.cursor.Cursor.{Cursor}
use Rattle.ds_feed.specs.Page.{page_of}
use Rattle.ds_replica.specs.Paged.{last_key}
use Rattle.ds_machine.specs.declared.command.Scope.{Scope}
use Rattle.ds_machine.specs.Scope.{is_kept}
use Rattle.ds_machine.specs.State.{held, cursor}
use Rattle.ds_reader.specs.CaughtUp.{IsCaughtUp}
use Rattle.ds_reader.specs.GivesUp.{StopsSinces}
use Rattle.ds_reader.specs.Questions.{IsPageOf}
use Rattle.ds_reader.proofs.StopLemmas.{nothing_read, has_room, by_fault, stops_worn, stops_page}
use Rattle.ds_reader.proofs.StateLemmas.{paged_there}
use Rattle.ds_reader.proofs.PageLemmas.{Paging, all_paged, gone, not_begun, paged_more, paged_on, read_each, read_whole}
use Rattle.ds_reader.proofs.QuestionLemmas.{by_both, by_pages, none_asked, pages_more}
use Rattle.ds_reader.proofs.pages.read_by_pages.Goals as goal

pub loop-question-init : goal.loop-question-init
loop-question-init g c = (
  refl,
  none_asked g.A.Asks.asks_once (IsPageOf c.args.reading.now) 0 c.args.asked.now,
  λ s stands.
      (let stood = g.A.Asks.stands c.args.asked.now in
      subst (λ (l : List Item). Paging stood s c.args.reading.now l None None 0) (sym c.new-items.ensures)
      (not_begun c.laws.ensures stood s c.args.reading.now stands)),
)

pub loop-question-preserved : goal.loop-question-preserved
loop-question-preserved g c = (
  c.page.ensures.same ∙ c.loop-question.invariant.0,
  pages_more g.A.Asks.asks_once c.args.reading.now c.loop-question._question c.args.asked.now c.loop-question.asked c.page.new.asked _
      c.loop-question.after c.in_ok-scope.ensures.same c.loop-question.invariant.1 c.page.ensures.only,
  λ s stands.
      (let reading = c.args.reading.now in
      let q = c.loop-question in
      let next = g.A.Asks.stands c.page.new.asked in
      let k = q.invariant.2 s stands in
      let given = c.in_ok-given.given in
      let a = c.in_ok-given.ensures.given k.now k.stands in
      let there = paged_there c.laws.ensures k.now a.0 _ q.after reading.max given a.1 in
      let is = subst (λ (x : Scope). given ≡ page_of (is_kept x) q.after reading.max (held a.0) (cursor a.0)) c.in_ok-scope.ensures.same
      there.0
      in
      let on = paged_on c.laws.ensures (g.A.Asks.stands q.asked) s reading q.items q.after q.from q._question k a.0 there.1 given is next
      a.2 c.if-given.false in
      subst (λ (l : List Item). Paging next s reading l c.go_past.new.key (Some c.unwrap_or-first.result) (q._question + 1))
      (sym c.in_ok-append_copies.ensures.added)
      (subst (λ (x : Option Key). Paging next s reading (q.items ++ given.items) x (Some c.unwrap_or-first.result) (q._question + 1))
      (sym c.go_past.ensures)
      (subst (λ (x : Cursor). Paging next s reading (q.items ++ given.items) (last_key q.after given.items) (Some x) (q._question + 1))
      (sym c.unwrap_or-first.ensures) on))),
)

pub returns-clause-stopped : goal.returns-clause-stopped
returns-clause-stopped g c = λ s stands.
    let k = c.loop-question.invariant.2 s stands in
    let last : c.loop-question._question ≡ c.args.reading.now.questions = omega
    (arith, c.loop-question-test.false, c.loop-question.auto._question-end) in
    (k.now, k.goes, k.stands, inl (k.turns, k.all, k.count_is ∙ last))

pub returns-in_err-scope-clause-stopped : goal.returns-in_err-scope-clause-stopped
returns-in_err-scope-clause-stopped g c =
    let exit = err_from_is_err_and c.from_residual.result c.from_residual.ensures.1 in
    rw (exit.1, exit.2) (λ s stands. (let k = c.loop-question.invariant.2 s stands in
    let test = c.loop-question-test.true in (
      k.now,
      k.goes,
      k.stands,
      inl
          (k.turns, omega (arith, test, k.count_is), inl (k.all, c.in_err-scope.ensures.room)),
    )))

pub returns-in_err-given-clause-stopped : goal.returns-in_err-given-clause-stopped
returns-in_err-given-clause-stopped g c =
    let exit = err_from_is_err_and c.from_residual-in_err-given.result c.from_residual-in_err-given.ensures.1 in
    let q = c.loop-question in
    rw (exit.1, exit.2) (λ s stands.
    stops_page c.laws.ensures g.A.Asks.stands g.A.Asks.is_worn q.asked c.page.new.asked s c.args.reading.now _ q.items q.after q.from
    q._question c.in_err-given.field-0.0 c.in_ok-scope.ensures.same c.in_err-given.ensures.refused (q.invariant.2 s stands))

pub returns-in_err-append_copies-clause-stopped : goal.returns-in_err-append_copies-clause-stopped
returns-in_err-append_copies-clause-stopped g c =
    let exit = err_from_is_err_and c.from_residual-in_err-append_copies.result c.from_residual-in_err-append_copies.ensures.1 in
    rw (exit.1, exit.2) (λ s stands.
    (let q = c.loop-question in
    let k = q.invariant.2 s stands in
    let a = c.in_ok-given.ensures.given k.now k.stands in
    let given = c.in_ok-given.given in
    let reading = c.args.reading.now in
    let there = paged_there c.laws.ensures k.now a.0 _ q.after reading.max given a.1 in
    let is = subst (λ (x : Scope). given ≡ page_of (is_kept x) q.after reading.max (held a.0) (cursor a.0)) c.in_ok-scope.ensures.same
    there.0 in
    let test = c.loop-question-test.true in (
      a.0,
      gone c.laws.ensures (g.A.Asks.stands q.asked) s reading q.items q.after q.from q._question k a.0 there.1,
      a.2,
      inl (
        k.turns,
        omega (arith, test, k.count_is),
        inr
            (paged_more c.laws.ensures (g.A.Asks.stands q.asked) s reading q.items q.after q.from q._question k a.0 there.1 given is
            c.in_err-append_copies.ensures.room),
      ),
    )))

pub returns-in_err-catch_up-clause-stopped : goal.returns-in_err-catch_up-clause-stopped
returns-in_err-catch_up-clause-stopped g c =
    let exit = err_from_is_err_and c.from_residual-in_err-catch_up.result c.from_residual-in_err-catch_up.ensures.1 in
    rw (exit.1, exit.2) (λ s stands.
    (let reading = c.args.reading.now in
    let q = c.loop-question in
    let stood = g.A.Asks.stands q.asked in
    let given = c.in_ok-given.given in
    let k = q.invariant.2 s stands in
    let a = c.in_ok-given.ensures.given k.now k.stands in
    let there = paged_there c.laws.ensures k.now a.0 _ q.after reading.max given a.1 in
    let is = subst (λ (x : Scope). given ≡ page_of (is_kept x) q.after reading.max (held a.0) (cursor a.0)) c.in_ok-scope.ensures.same
    there.0 in
    let b = c.in_err-catch_up.ensures.stopped a.0 a.2 in
    let all =
    all_paged c.laws.ensures stood s reading q.items q.after q.from q._question k a.0 there.1 given is c.if-given.true b.0 b.1 in (
      b.0,
      c.laws.ensures.later s a.0 b.0 (gone c.laws.ensures stood s reading q.items q.after q.from q._question k a.0 there.1) b.1,
      b.2,
      inr (
        unwrap_or q.from given.cursor,
        all,
        subst (λ (x : Cursor). StopsSinces b.0 reading x c.in_err-catch_up.field-0.0)
            c.unwrap_or-first.ensures b.3,
      ),
    )))

pub returns-then-given-clause-whole : goal.returns-then-given-clause-whole
returns-then-given-clause-whole g c = λ s stands.
    let reading = c.args.reading.now in
    let q = c.loop-question in
    let stood = g.A.Asks.stands q.asked in
    let given = c.in_ok-given.given in
    let k = q.invariant.2 s stands in
    let a = c.in_ok-given.ensures.given k.now k.stands in
    let there = paged_there c.laws.ensures k.now a.0 _ q.after reading.max given a.1 in
    let is = subst (λ (x : Scope). given ≡ page_of (is_kept x) q.after reading.max (held a.0) (cursor a.0)) c.in_ok-scope.ensures.same
    there.0 in
    let b = c.in_ok-catch_up.ensures.caught a.0 a.2 in
    let first = subst (λ (x : Cursor). IsCaughtUp b.0 reading.query x c.append_copies.new.self c.catch_up.new.items)
    c.unwrap_or-first.ensures b.3
    in
    let caught = subst (λ (l : List Item). IsCaughtUp b.0 reading.query (unwrap_or q.from given.cursor) l c.catch_up.new.items)
    c.in_ok-append_copies.ensures.added first in (
      b.0,
      c.laws.ensures.later s a.0 b.0 (gone c.laws.ensures stood s reading q.items q.after q.from q._question k a.0 there.1) b.1,
      b.2,
      read_whole c.laws.ensures stood s reading q.items q.after q.from q._question k a.0 there.1 given is c.if-given.true b.0
          c.catch_up.new.items b.1 caught,
    )

-- ---- each item comes once

pub returns-then-given-clause-items : goal.returns-then-given-clause-items
returns-then-given-clause-items g c = λ s stands.
    let reading = c.args.reading.now in
    let q = c.loop-question in
    let stood = g.A.Asks.stands q.asked in
    let given = c.in_ok-given.given in
    let k = q.invariant.2 s stands in
    let a = c.in_ok-given.ensures.given k.now k.stands in
    let there = paged_there c.laws.ensures k.now a.0 _ q.after reading.max given a.1 in
    let is = subst (λ (x : Scope). given ≡ page_of (is_kept x) q.after reading.max (held a.0) (cursor a.0)) c.in_ok-scope.ensures.same
    there.0 in
    let b = c.in_ok-catch_up.ensures.caught a.0 a.2 in
    let first = subst (λ (x : Cursor). IsCaughtUp b.0 reading.query x c.append_copies.new.self c.catch_up.new.items)
    c.unwrap_or-first.ensures b.3
    in
    let caught = subst (λ (l : List Item). IsCaughtUp b.0 reading.query (unwrap_or q.from given.cursor) l c.catch_up.new.items)
    c.in_ok-append_copies.ensures.added first in (
      b.0,
      c.laws.ensures.later s a.0 b.0 (gone c.laws.ensures stood s reading q.items q.after q.from q._question k a.0 there.1) b.1,
      b.2,
      read_each c.laws.ensures stood s reading q.items q.after q.from q._question k a.0 there.1 given is c.if-given.true b.0
          c.catch_up.new.items b.1 caught,
    )

pub returns-clause-items : goal.returns-clause-items
returns-clause-items g c = tt

pub returns-in_err-scope-clause-items : goal.returns-in_err-scope-clause-items
returns-in_err-scope-clause-items g c = nothing_read c.from_residual.result _ _ c.from_residual.ensures.1

pub returns-in_err-given-clause-items : goal.returns-in_err-given-clause-items
returns-in_err-given-clause-items g c = nothing_read c.from_residual-in_err-given.result _ _ c.from_residual-in_err-given.ensures.1

pub returns-in_err-append_copies-clause-items : goal.returns-in_err-append_copies-clause-items
returns-in_err-append_copies-clause-items g c =
    nothing_read c.from_residual-in_err-append_copies.result _ _ c.from_residual-in_err-append_copies.ensures.1

pub returns-in_err-catch_up-clause-items : goal.returns-in_err-catch_up-clause-items
returns-in_err-catch_up-clause-items g c = nothing_read c.from_residual-in_err-catch_up.result _ _ c.from_residual-in_err-catch_up.ensures.1

-- ---- which commands it sent
pub returns-in_err-scope-clause-only : goal.returns-in_err-scope-clause-only
returns-in_err-scope-clause-only g c =
    let q = c.loop-question in
    by_pages g.A.Asks.asks_once c.args.reading.now q._question c.args.asked.now q.asked (omega (arith, c.loop-question-test.true))
    q.invariant.1

pub returns-in_err-given-clause-only : goal.returns-in_err-given-clause-only
returns-in_err-given-clause-only g c =
    let q = c.loop-question in
    let reading = c.args.reading.now in
    by_pages g.A.Asks.asks_once reading (q._question + 1) c.args.asked.now c.page.new.asked (omega (arith, c.loop-question-test.true))
    (pages_more g.A.Asks.asks_once reading q._question c.args.asked.now q.asked c.page.new.asked _ q.after c.in_ok-scope.ensures.same
    q.invariant.1 c.page.ensures.only)

pub returns-in_err-append_copies-clause-only : goal.returns-in_err-append_copies-clause-only
returns-in_err-append_copies-clause-only g c =
    let q = c.loop-question in
    let reading = c.args.reading.now in
    by_pages g.A.Asks.asks_once reading (q._question + 1) c.args.asked.now c.page.new.asked (omega (arith, c.loop-question-test.true))
    (pages_more g.A.Asks.asks_once reading q._question c.args.asked.now q.asked c.page.new.asked _ q.after c.in_ok-scope.ensures.same
    q.invariant.1 c.page.ensures.only)

pub returns-in_err-catch_up-clause-only : goal.returns-in_err-catch_up-clause-only
returns-in_err-catch_up-clause-only g c =
    let q = c.loop-question in
    let reading = c.args.reading.now in
    by_both g.A.Asks.asks_once reading (q._question + 1) c.args.asked.now c.page.new.asked c.catch_up.new.asked
    (omega (arith, c.loop-question-test.true))
    (pages_more g.A.Asks.asks_once reading q._question c.args.asked.now q.asked c.page.new.asked _ q.after c.in_ok-scope.ensures.same
    q.invariant.1 c.page.ensures.only) c.catch_up.ensures.only

pub returns-then-given-clause-only : goal.returns-then-given-clause-only
returns-then-given-clause-only g c =
    let q = c.loop-question in
    let reading = c.args.reading.now in
    by_both g.A.Asks.asks_once reading (q._question + 1) c.args.asked.now c.page.new.asked c.catch_up.new.asked
    (omega (arith, c.loop-question-test.true))
    (pages_more g.A.Asks.asks_once reading q._question c.args.asked.now q.asked c.page.new.asked _ q.after c.in_ok-scope.ensures.same
    q.invariant.1 c.page.ensures.only) c.catch_up.ensures.only

pub returns-clause-only : goal.returns-clause-only
returns-clause-only g c =
    let q = c.loop-question in
    let small : q._question ≤ c.args.reading.now.questions = omega (arith, c.loop-question-test.false, q.auto._question-end) in
    by_pages g.A.Asks.asks_once c.args.reading.now q._question c.args.asked.now q.asked small q.invariant.1

-- ---- which reader it was, and what a reader that gives up says

pub returns-in_err-scope-clause-worn : goal.returns-in_err-scope-clause-worn
returns-in_err-scope-clause-worn g c = has_room c.from_residual.result c.from_residual.ensures.1

pub returns-in_err-scope-clause-same : goal.returns-in_err-scope-clause-same
returns-in_err-scope-clause-same g c = c.loop-question.invariant.0

pub returns-in_err-given-clause-worn : goal.returns-in_err-given-clause-worn
returns-in_err-given-clause-worn g c =
    by_fault c.from_residual-in_err-given.result c.in_err-given.field-0.0 c.from_residual-in_err-given.ensures.1
    (stops_worn c.laws.ensures g.A.Asks.stands g.A.Asks.is_worn c.loop-question.asked c.page.new.asked _ c.in_err-given.field-0.0
    c.in_err-given.ensures.refused)

pub returns-in_err-given-clause-same : goal.returns-in_err-given-clause-same
returns-in_err-given-clause-same g c = c.page.ensures.same ∙ c.loop-question.invariant.0

pub returns-in_err-append_copies-clause-worn : goal.returns-in_err-append_copies-clause-worn
returns-in_err-append_copies-clause-worn g c =
    has_room c.from_residual-in_err-append_copies.result c.from_residual-in_err-append_copies.ensures.1

pub returns-in_err-append_copies-clause-same : goal.returns-in_err-append_copies-clause-same
returns-in_err-append_copies-clause-same g c = c.page.ensures.same ∙ c.loop-question.invariant.0

pub returns-in_err-catch_up-clause-worn : goal.returns-in_err-catch_up-clause-worn
returns-in_err-catch_up-clause-worn g c = by_fault c.from_residual-in_err-catch_up.result c.in_err-catch_up.field-0.0
    c.from_residual-in_err-catch_up.ensures.1 (λ e. c.in_err-catch_up.ensures.worn (ap Err e))

pub returns-in_err-catch_up-clause-same : goal.returns-in_err-catch_up-clause-same
returns-in_err-catch_up-clause-same g c = c.catch_up.ensures.same ∙ c.page.ensures.same ∙ c.loop-question.invariant.0

pub returns-then-given-clause-stopped : goal.returns-then-given-clause-stopped
returns-then-given-clause-stopped g c = tt

pub returns-then-given-clause-worn : goal.returns-then-given-clause-worn
returns-then-given-clause-worn g c = λ e. absurd (cc)

pub returns-then-given-clause-same : goal.returns-then-given-clause-same
returns-then-given-clause-same g c = c.catch_up.ensures.same ∙ c.page.ensures.same ∙ c.loop-question.invariant.0

pub returns-clause-whole : goal.returns-clause-whole
returns-clause-whole g c = tt

pub returns-clause-worn : goal.returns-clause-worn
returns-clause-worn g c = λ e. absurd (cc)

pub returns-clause-same : goal.returns-clause-same
returns-clause-same g c = c.loop-question.invariant.0

pub returns-in_err-scope-clause-whole : goal.returns-in_err-scope-clause-whole
returns-in_err-scope-clause-whole g c = nothing_read c.from_residual.result _ _ c.from_residual.ensures.1

pub returns-in_err-given-clause-whole : goal.returns-in_err-given-clause-whole
returns-in_err-given-clause-whole g c = nothing_read c.from_residual-in_err-given.result _ _ c.from_residual-in_err-given.ensures.1

pub returns-in_err-append_copies-clause-whole : goal.returns-in_err-append_copies-clause-whole
returns-in_err-append_copies-clause-whole g c =
    nothing_read c.from_residual-in_err-append_copies.result _ _ c.from_residual-in_err-append_copies.ensures.1

pub returns-in_err-catch_up-clause-whole : goal.returns-in_err-catch_up-clause-whole
returns-in_err-catch_up-clause-whole g c = nothing_read c.from_residual-in_err-catch_up.result _ _ c.from_residual-in_err-catch_up.ensures.1
