use Rattle.std.proofs.Common.{refl, ◌≡◌, ◌+◌, ◌<◌, ◌≤◌, List, length, arith, sym, ◌∙◌, subst, inl, inr}
use Rattle.std.proofs.lemmas.Result.{err_from_is_err_and}
use Rattle.ds_entry.specs.declared.item.Item.{Item}
use Rattle.ds_pattern.specs.declared.query.Query.{Query}
use Rattle.ds_reader.specs.Asked.{Asked, subscribe_anew}
use Rattle.ds_reader.specs.ReadWhole.{AreChecked, IsReadWhole}
use Rattle.ds_reader.proofs.StopLemmas.{nothing_read, has_room, has_room_still, by_fault, by_overtaken, stops_worn, stops_otherwise}
use Rattle.ds_reader.proofs.StopLemmas.{stops_check, stops_subscribe}
use Rattle.ds_reader.proofs.CheckLemmas.{Checking, begun, all_full, checked_more, checked_on, gone, overtaken, read_each, read_whole}
use Rattle.ds_reader.proofs.QuestionLemmas.{by_checks, checks_more, has_begun}
use Rattle.ds_machine.specs.declared.reply.Reply.TheVariants as replies
use Rattle.ds_reader.proofs.checks.read_by_checks.Goals as goal

pub returns-in_err-stamp-clause-stopped : goal.returns-in_err-stamp-clause-stopped
returns-in_err-stamp-clause-stopped g c =
    let exit = err_from_is_err_and c.from_residual-in_err-stamp.result c.from_residual-in_err-stamp.ensures.1 in
    rw (exit.1, exit.2) (λ s stands. stops_subscribe c.laws.ensures g.A.Asks.stands g.A.Asks.is_worn c.args.asked.now c.subscribe.new.asked
    s c.args.sub c.args.reading.now _ c.in_err-stamp.field-0.0 c.in_ok-query.ensures.same c.in_err-stamp.ensures.refused stands)

pub loop-question-init : goal.loop-question-init
loop-question-init g c = (
  c.subscribe.ensures.same,
  has_begun g.A.Asks.asks_once c.args.sub c.args.reading.now c.args.asked.now c.subscribe.new.asked _ c.in_ok-query.ensures.same
      c.subscribe.ensures.only,
  λ s stands.
      (let reading = c.args.reading.now in
      let stood = g.A.Asks.stands c.subscribe.new.asked in
      let stamp = c.in_ok-stamp.stamp in
      let made = c.in_ok-stamp.ensures.made in
      let m = made.1 s stands in
      let a = subst (λ (q : Query). Asked s (subscribe_anew c.args.sub q) (replies.Subscribed stamp made.0) m.0) c.in_ok-query.ensures.same
      m.1
      in
      subst (λ (l : List Item). Checking stood s c.args.sub reading.max reading.query l stamp 0) (sym c.new-items.ensures)
      (begun c.laws.ensures stood s m.0 c.args.sub reading.max reading.query stamp made.0 a m.2)),
)

pub returns-in_err-shown-clause-stopped : goal.returns-in_err-shown-clause-stopped
returns-in_err-shown-clause-stopped g c =
    let exit = err_from_is_err_and c.from_residual-in_err-shown.result c.from_residual-in_err-shown.ensures.1 in
    let q = c.loop-question in
    rw (exit.1, exit.2) (λ s stands. stops_check c.laws.ensures g.A.Asks.stands g.A.Asks.is_worn q.asked c.check.new.asked s c.args.sub
    q.stamp q._question c.args.reading.now q.items c.in_err-shown.field-0.0 c.in_err-shown.ensures.refused (q.invariant.2 s stands))

pub returns-then-shown-stamp-clause-stopped : goal.returns-then-shown-stamp-clause-stopped
returns-then-shown-stamp-clause-stopped g c = λ s stands.
    let q = c.loop-question in
    let reading = c.args.reading.now in
    let stood = g.A.Asks.stands q.asked in
    let shown = c.in_ok-shown.shown in
    let k = q.invariant.2 s stands in
    let a = c.in_ok-shown.ensures.shown k.now k.stands in
    let over = overtaken c.laws.ensures stood s c.args.sub q.stamp q._question reading q.items shown.items k a.0 shown.before shown.after
    a.1 c.if-shown-stamp.true in (
      a.0,
      gone c.laws.ensures stood s c.args.sub reading.query q.items shown.items reading.max q.stamp q._question k a.0 shown.before
          shown.after a.1,
      a.2,
      (over.0, over.1),
    )

pub returns-in_err-append_copies-clause-stopped : goal.returns-in_err-append_copies-clause-stopped
returns-in_err-append_copies-clause-stopped g c =
    let exit = err_from_is_err_and c.from_residual-in_err-append_copies.result c.from_residual-in_err-append_copies.ensures.1 in
    rw (exit.1, exit.2) (λ s stands.
    (let q = c.loop-question in
    let reading = c.args.reading.now in
    let shown = c.in_ok-shown.shown in
    let k = q.invariant.2 s stands in
    let a = c.in_ok-shown.ensures.shown k.now k.stands in (
      a.0,
      gone c.laws.ensures (g.A.Asks.stands q.asked) s c.args.sub reading.query q.items shown.items reading.max q.stamp q._question k a.0
          shown.before shown.after a.1,
      a.2,
      inr
          (checked_more c.laws.ensures (g.A.Asks.stands q.asked) s c.args.sub q.stamp q._question reading q.items shown.items k a.0
          shown.before shown.after a.1 c.if-shown-stamp.false c.in_err-append_copies.ensures.room
          (omega (arith, c.loop-question-test.true))),
    )))

pub returns-then-len-reading-clause-whole : goal.returns-then-len-reading-clause-whole
returns-then-len-reading-clause-whole g c = λ s stands.
    let q = c.loop-question in
    let reading = c.args.reading.now in
    let stood = g.A.Asks.stands q.asked in
    let shown = c.in_ok-shown.shown in
    let k = q.invariant.2 s stands in
    let a = c.in_ok-shown.ensures.shown k.now k.stands in
    let few : length shown.items < reading.max = omega (arith, c.len.ensures, c.if-len-reading.true) in (
      a.0,
      gone c.laws.ensures stood s c.args.sub reading.query q.items shown.items reading.max q.stamp q._question k a.0 shown.before
          shown.after a.1,
      a.2,
      subst (λ (l : List Item). IsReadWhole a.0 reading.query l) (sym c.in_ok-append_copies.ensures.added)
          (read_whole c.laws.ensures stood s c.args.sub reading.query q.items shown.items reading.max q.stamp q._question k a.0 shown.before
          shown.after a.1 c.if-shown-stamp.false few),
    )

pub loop-question-preserved : goal.loop-question-preserved
loop-question-preserved g c = (
  c.check.ensures.same ∙ c.loop-question.invariant.0,
  checks_more g.A.Asks.asks_once c.args.sub c.args.reading.now c.loop-question._question c.args.asked.now c.loop-question.asked
      c.check.new.asked c.loop-question.invariant.1 c.check.ensures.only,
  λ s stands.
      (let q = c.loop-question in
      let reading = c.args.reading.now in
      let stood = g.A.Asks.stands q.asked in
      let next = g.A.Asks.stands c.check.new.asked in
      let shown = c.in_ok-shown.shown in
      let k = q.invariant.2 s stands in
      let a = c.in_ok-shown.ensures.shown k.now k.stands in
      let full : reading.max ≤ length shown.items = omega (arith, c.len.ensures, c.if-len-reading.false) in
      subst (λ (l : List Item). Checking next s c.args.sub reading.max reading.query l shown.after (q._question + 1))
      (sym c.in_ok-append_copies.ensures.added)
      (checked_on c.laws.ensures stood s c.args.sub reading.query q.items shown.items reading.max q.stamp q._question k a.0 shown.before
      shown.after a.1 c.if-shown-stamp.false next a.2 full)),
)

pub returns-clause-stopped : goal.returns-clause-stopped
returns-clause-stopped g c = λ s stands.
    let q = c.loop-question in
    let k = q.invariant.2 s stands in
    let last : q._question ≡ c.args.reading.now.questions = omega (arith, c.loop-question-test.false, q.auto._question-end) in (
      k.now,
      k.goes,
      k.stands,
      (
        k.turns,
        all_full (g.A.Asks.stands q.asked) s c.args.sub q.stamp q._question c.args.reading.now q.items k,
        k.count_is ∙ last,
      ),
    )

-- ---- which commands it sent
pub returns-in_err-stamp-clause-only : goal.returns-in_err-stamp-clause-only
returns-in_err-stamp-clause-only g c =
    let reading = c.args.reading.now in
    by_checks g.A.Asks.asks_once c.args.sub reading 0 c.args.asked.now c.subscribe.new.asked (omega arith)
    (has_begun g.A.Asks.asks_once c.args.sub reading c.args.asked.now c.subscribe.new.asked _ c.in_ok-query.ensures.same
    c.subscribe.ensures.only)

pub returns-in_err-shown-clause-only : goal.returns-in_err-shown-clause-only
returns-in_err-shown-clause-only g c =
    let q = c.loop-question in
    let reading = c.args.reading.now in
    by_checks g.A.Asks.asks_once c.args.sub reading (q._question + 1) c.args.asked.now c.check.new.asked
    (omega (arith, c.loop-question-test.true))
    (checks_more g.A.Asks.asks_once c.args.sub reading q._question c.args.asked.now q.asked c.check.new.asked q.invariant.1
    c.check.ensures.only)

pub returns-then-shown-stamp-clause-only : goal.returns-then-shown-stamp-clause-only
returns-then-shown-stamp-clause-only g c =
    let q = c.loop-question in
    let reading = c.args.reading.now in
    by_checks g.A.Asks.asks_once c.args.sub reading (q._question + 1) c.args.asked.now c.check.new.asked
    (omega (arith, c.loop-question-test.true))
    (checks_more g.A.Asks.asks_once c.args.sub reading q._question c.args.asked.now q.asked c.check.new.asked q.invariant.1
    c.check.ensures.only)

pub returns-in_err-append_copies-clause-only : goal.returns-in_err-append_copies-clause-only
returns-in_err-append_copies-clause-only g c =
    let q = c.loop-question in
    let reading = c.args.reading.now in
    by_checks g.A.Asks.asks_once c.args.sub reading (q._question + 1) c.args.asked.now c.check.new.asked
    (omega (arith, c.loop-question-test.true))
    (checks_more g.A.Asks.asks_once c.args.sub reading q._question c.args.asked.now q.asked c.check.new.asked q.invariant.1
    c.check.ensures.only)

pub returns-then-len-reading-clause-only : goal.returns-then-len-reading-clause-only
returns-then-len-reading-clause-only g c =
    let q = c.loop-question in
    let reading = c.args.reading.now in
    by_checks g.A.Asks.asks_once c.args.sub reading (q._question + 1) c.args.asked.now c.check.new.asked
    (omega (arith, c.loop-question-test.true))
    (checks_more g.A.Asks.asks_once c.args.sub reading q._question c.args.asked.now q.asked c.check.new.asked q.invariant.1
    c.check.ensures.only)

pub returns-clause-only : goal.returns-clause-only
returns-clause-only g c =
    let q = c.loop-question in
    let small : q._question ≤ c.args.reading.now.questions = omega (arith, c.loop-question-test.false, q.auto._question-end) in
    by_checks g.A.Asks.asks_once c.args.sub c.args.reading.now q._question c.args.asked.now q.asked small q.invariant.1

-- ---- which reader it was, and what a reader that gives up says

pub returns-in_err-query-clause-worn : goal.returns-in_err-query-clause-worn
returns-in_err-query-clause-worn g c = has_room c.from_residual.result c.from_residual.ensures.1

pub returns-in_err-query-clause-same : goal.returns-in_err-query-clause-same
returns-in_err-query-clause-same g c = refl

pub returns-in_err-stamp-clause-worn : goal.returns-in_err-stamp-clause-worn
returns-in_err-stamp-clause-worn g c =
    by_fault c.from_residual-in_err-stamp.result c.in_err-stamp.field-0.0 c.from_residual-in_err-stamp.ensures.1
    (stops_worn c.laws.ensures g.A.Asks.stands g.A.Asks.is_worn c.args.asked.now c.subscribe.new.asked _ c.in_err-stamp.field-0.0
    c.in_err-stamp.ensures.refused)

pub returns-in_err-stamp-clause-same : goal.returns-in_err-stamp-clause-same
returns-in_err-stamp-clause-same g c = c.subscribe.ensures.same

pub returns-in_err-shown-clause-worn : goal.returns-in_err-shown-clause-worn
returns-in_err-shown-clause-worn g c =
    by_fault c.from_residual-in_err-shown.result c.in_err-shown.field-0.0 c.from_residual-in_err-shown.ensures.1
    (stops_worn c.laws.ensures g.A.Asks.stands g.A.Asks.is_worn c.loop-question.asked c.check.new.asked _ c.in_err-shown.field-0.0
    c.in_err-shown.ensures.refused)

pub returns-in_err-shown-clause-same : goal.returns-in_err-shown-clause-same
returns-in_err-shown-clause-same g c = c.check.ensures.same ∙ c.loop-question.invariant.0

pub returns-in_err-append_copies-clause-worn : goal.returns-in_err-append_copies-clause-worn
returns-in_err-append_copies-clause-worn g c =
    has_room c.from_residual-in_err-append_copies.result c.from_residual-in_err-append_copies.ensures.1

pub returns-in_err-append_copies-clause-same : goal.returns-in_err-append_copies-clause-same
returns-in_err-append_copies-clause-same g c = c.check.ensures.same ∙ c.loop-question.invariant.0

pub returns-then-shown-stamp-clause-whole : goal.returns-then-shown-stamp-clause-whole
returns-then-shown-stamp-clause-whole g c = tt

pub returns-then-shown-stamp-clause-worn : goal.returns-then-shown-stamp-clause-worn
returns-then-shown-stamp-clause-worn g c = λ e. absurd (cc)

pub returns-then-shown-stamp-clause-same : goal.returns-then-shown-stamp-clause-same
returns-then-shown-stamp-clause-same g c = c.check.ensures.same ∙ c.loop-question.invariant.0

pub returns-then-len-reading-clause-stopped : goal.returns-then-len-reading-clause-stopped
returns-then-len-reading-clause-stopped g c = tt

pub returns-then-len-reading-clause-worn : goal.returns-then-len-reading-clause-worn
returns-then-len-reading-clause-worn g c = λ e. absurd (cc)

pub returns-then-len-reading-clause-same : goal.returns-then-len-reading-clause-same
returns-then-len-reading-clause-same g c = c.check.ensures.same ∙ c.loop-question.invariant.0

pub returns-clause-whole : goal.returns-clause-whole
returns-clause-whole g c = tt

pub returns-clause-worn : goal.returns-clause-worn
returns-clause-worn g c = λ e. absurd (cc)

pub returns-clause-same : goal.returns-clause-same
returns-clause-same g c = c.loop-question.invariant.0

pub returns-in_err-query-clause-whole : goal.returns-in_err-query-clause-whole
returns-in_err-query-clause-whole g c = nothing_read c.from_residual.result _ _ c.from_residual.ensures.1

pub returns-in_err-stamp-clause-whole : goal.returns-in_err-stamp-clause-whole
returns-in_err-stamp-clause-whole g c = nothing_read c.from_residual-in_err-stamp.result _ _ c.from_residual-in_err-stamp.ensures.1

pub returns-in_err-shown-clause-whole : goal.returns-in_err-shown-clause-whole
returns-in_err-shown-clause-whole g c = nothing_read c.from_residual-in_err-shown.result _ _ c.from_residual-in_err-shown.ensures.1

pub returns-in_err-append_copies-clause-whole : goal.returns-in_err-append_copies-clause-whole
returns-in_err-append_copies-clause-whole g c =
    nothing_read c.from_residual-in_err-append_copies.result _ _ c.from_residual-in_err-append_copies.ensures.1

pub returns-in_err-query-clause-stopped : goal.returns-in_err-query-clause-stopped
returns-in_err-query-clause-stopped g c =
    let exit = err_from_is_err_and c.from_residual.result c.from_residual.ensures.1 in
    rw (exit.1, exit.2) (λ s stands. (s, c.laws.ensures.same s, stands, inl (refl, c.in_err-query.ensures.room)))

-- ---- each item comes once

pub returns-then-len-reading-clause-items : goal.returns-then-len-reading-clause-items
returns-then-len-reading-clause-items g c = λ s stands.
    let q = c.loop-question in
    let reading = c.args.reading.now in
    let stood = g.A.Asks.stands q.asked in
    let shown = c.in_ok-shown.shown in
    let k = q.invariant.2 s stands in
    let a = c.in_ok-shown.ensures.shown k.now k.stands in (
      a.0,
      gone c.laws.ensures stood s c.args.sub reading.query q.items shown.items reading.max q.stamp q._question k a.0 shown.before
          shown.after a.1,
      a.2,
      subst (λ (l : List Item). AreChecked s a.0 reading.query l) (sym c.in_ok-append_copies.ensures.added)
          (read_each c.laws.ensures stood s c.args.sub reading.query q.items shown.items reading.max q.stamp q._question k a.0 shown.before
          shown.after a.1 c.if-shown-stamp.false),
    )

pub returns-then-shown-stamp-clause-items : goal.returns-then-shown-stamp-clause-items
returns-then-shown-stamp-clause-items g c = tt

pub returns-clause-items : goal.returns-clause-items
returns-clause-items g c = tt

pub returns-in_err-query-clause-items : goal.returns-in_err-query-clause-items
returns-in_err-query-clause-items g c = nothing_read c.from_residual.result _ _ c.from_residual.ensures.1

pub returns-in_err-stamp-clause-items : goal.returns-in_err-stamp-clause-items
returns-in_err-stamp-clause-items g c = nothing_read c.from_residual-in_err-stamp.result _ _ c.from_residual-in_err-stamp.ensures.1

pub returns-in_err-shown-clause-items : goal.returns-in_err-shown-clause-items
returns-in_err-shown-clause-items g c = nothing_read c.from_residual-in_err-shown.result _ _ c.from_residual-in_err-shown.ensures.1

pub returns-in_err-append_copies-clause-items : goal.returns-in_err-append_copies-clause-items
returns-in_err-append_copies-clause-items g c =
    nothing_read c.from_residual-in_err-append_copies.result _ _ c.from_residual-in_err-append_copies.ensures.1

-- ---- how many Checks it sent before it was overtaken

pub returns-in_err-query-clause-overtaken : goal.returns-in_err-query-clause-overtaken
returns-in_err-query-clause-overtaken g c = has_room_still c.from_residual.result c.from_residual.ensures.1

pub returns-in_err-stamp-clause-overtaken : goal.returns-in_err-stamp-clause-overtaken
returns-in_err-stamp-clause-overtaken g c =
    by_overtaken c.from_residual-in_err-stamp.result c.in_err-stamp.field-0.0 c.from_residual-in_err-stamp.ensures.1
    (stops_otherwise g.A.Asks.stands g.A.Asks.is_worn c.args.asked.now c.subscribe.new.asked _ c.in_err-stamp.field-0.0
    c.in_err-stamp.ensures.refused)

pub returns-in_err-shown-clause-overtaken : goal.returns-in_err-shown-clause-overtaken
returns-in_err-shown-clause-overtaken g c =
    by_overtaken c.from_residual-in_err-shown.result c.in_err-shown.field-0.0 c.from_residual-in_err-shown.ensures.1
    (stops_otherwise g.A.Asks.stands g.A.Asks.is_worn c.loop-question.asked c.check.new.asked _ c.in_err-shown.field-0.0
    c.in_err-shown.ensures.refused)

pub returns-then-shown-stamp-clause-overtaken : goal.returns-then-shown-stamp-clause-overtaken
returns-then-shown-stamp-clause-overtaken g c e =
    let q = c.loop-question in
    let reading = c.args.reading.now in (
      q._question,
      omega (arith, c.loop-question-test.true),
      checks_more g.A.Asks.asks_once c.args.sub reading q._question c.args.asked.now q.asked c.check.new.asked q.invariant.1
          c.check.ensures.only,
      λ s stands.
          (let stood = g.A.Asks.stands q.asked in
          let shown = c.in_ok-shown.shown in
          let k = q.invariant.2 s stands in
          let a = c.in_ok-shown.ensures.shown k.now k.stands in (
            a.0,
            gone c.laws.ensures stood s c.args.sub reading.query q.items shown.items reading.max q.stamp q._question k a.0 shown.before
                shown.after a.1,
            a.2,
            overtaken c.laws.ensures stood s c.args.sub q.stamp q._question reading q.items shown.items k a.0 shown.before shown.after
                a.1 c.if-shown-stamp.true,
          )),
    )

pub returns-in_err-append_copies-clause-overtaken : goal.returns-in_err-append_copies-clause-overtaken
returns-in_err-append_copies-clause-overtaken g c =
    has_room_still c.from_residual-in_err-append_copies.result c.from_residual-in_err-append_copies.ensures.1

pub returns-then-len-reading-clause-overtaken : goal.returns-then-len-reading-clause-overtaken
returns-then-len-reading-clause-overtaken g c = λ e. absurd (cc)

pub returns-clause-overtaken : goal.returns-clause-overtaken
returns-clause-overtaken g c = λ e. absurd (cc)
