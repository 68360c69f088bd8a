use Rattle.std.proofs.Common.{◌≡◌, ◌+◌, ◌<◌, ◌≤◌, List, length, arith, refl, sym, ◌∙◌, subst, inl, inr}
use Rattle.std.proofs.lemmas.Result.{err_from_is_err_and}
use Rattle.ds_entry.specs.declared.item.Item.{Item}
use Rattle.ds_feed.specs.Since.{IsGiven}
use Rattle.ds_machine.specs.declared.command.Scope.{Scope}
use Rattle.ds_machine.specs.Scope.{is_kept}
use Rattle.ds_reader.specs.CaughtUp.{IsCaughtUp}
use Rattle.ds_reader.specs.Questions.{IsSinceOf}
use Rattle.ds_reader.proofs.StopLemmas.{nothing_read, has_room, by_fault, stops_worn, stops_since}
use Rattle.ds_reader.proofs.StateLemmas.{journaled_there}
use Rattle.ds_reader.proofs.SinceLemmas.{Catching, caught_on, caught_up, gone, journaled_more, not_begun}
use Rattle.ds_reader.proofs.QuestionLemmas.{fewer, none_asked, sinces_more}
use Rattle.ds_reader.proofs.pages.catch_up.Goals as goal

pub loop-question-init : goal.loop-question-init
loop-question-init g c = (
  refl,
  none_asked g.A.Asks.asks_once (IsSinceOf c.args.reading.now) 0 c.args.asked.now,
  λ s stands.
      (not_begun c.laws.ensures (g.A.Asks.stands c.args.asked.now) s c.args.reading.now c.args.from c.args.items.now stands),
)

pub loop-question-preserved : goal.loop-question-preserved
loop-question-preserved g c = (
  c.since.ensures.same ∙ c.loop-question.invariant.0,
  sinces_more g.A.Asks.asks_once c.args.reading.now c.loop-question._question c.args.asked.now c.loop-question.asked c.since.new.asked _
      c.loop-question.at c.in_ok-scope.ensures.same c.loop-question.invariant.1 c.since.ensures.only,
  λ s stands.
      (let reading = c.args.reading.now in
      let q = c.loop-question in
      let stood = g.A.Asks.stands q.asked in
      let next = g.A.Asks.stands c.since.new.asked in
      let given = c.in_ok-given.given in
      let k = q.invariant.2 s stands in
      let a = c.in_ok-given.ensures.given k.now k.stands in
      let there = journaled_there c.laws.ensures k.now a.0 _ q.at reading.max given a.1 in
      let is = subst (λ (x : Scope). IsGiven a.0.feed (is_kept x) q.at reading.max given) c.in_ok-scope.ensures.same there.0 in
      let full : reading.max ≤ length given.items = omega (arith, c.len.ensures, c.if-len-reading.false) in
      subst (λ (l : List Item). Catching next s reading c.args.from given.cursor c.args.items.now l (q._question + 1))
      (sym c.in_ok-append_copies.ensures.added)
      (caught_on c.laws.ensures stood s reading c.args.from q.at c.args.items.now q.items q._question k a.0 there.1 given is next a.2
      full)),
)

pub returns-in_err-scope-clause-stopped : goal.returns-in_err-scope-clause-stopped
returns-in_err-scope-clause-stopped g c =
    let exit = err_from_is_err_and c.from_residual.result c.from_residual.ensures.1 in
    rw (exit.1, exit.2) (λ s stands. (let k = c.loop-question.invariant.2 s stands in
    let test = c.loop-question-test.true in (
      k.now,
      k.goes,
      k.stands,
      (
        k.turns,
        omega (arith, test, k.count_is),
        inl (k.all, c.in_err-scope.ensures.room),
      ),
    )))

pub returns-in_err-given-clause-stopped : goal.returns-in_err-given-clause-stopped
returns-in_err-given-clause-stopped g c =
    let exit = err_from_is_err_and c.from_residual-in_err-given.result c.from_residual-in_err-given.ensures.1 in
    let q = c.loop-question in
    rw (exit.1, exit.2) (λ s stands.
    stops_since c.laws.ensures g.A.Asks.stands g.A.Asks.is_worn q.asked c.since.new.asked s c.args.reading.now _ c.args.from q.at
    c.args.items.now q.items q._question c.in_err-given.field-0.0 c.in_ok-scope.ensures.same c.in_err-given.ensures.refused
    (q.invariant.2 s stands))

pub returns-in_err-append_copies-clause-stopped : goal.returns-in_err-append_copies-clause-stopped
returns-in_err-append_copies-clause-stopped g c =
    let exit = err_from_is_err_and c.from_residual-in_err-append_copies.result c.from_residual-in_err-append_copies.ensures.1 in
    rw (exit.1, exit.2) (λ s stands.
    (let reading = c.args.reading.now in
    let q = c.loop-question in
    let k = q.invariant.2 s stands in
    let a = c.in_ok-given.ensures.given k.now k.stands in
    let given = c.in_ok-given.given in
    let there = journaled_there c.laws.ensures k.now a.0 _ q.at reading.max given a.1 in
    let is = subst (λ (x : Scope). IsGiven a.0.feed (is_kept x) q.at reading.max given) c.in_ok-scope.ensures.same there.0 in
    let test = c.loop-question-test.true in (
      a.0,
      gone c.laws.ensures (g.A.Asks.stands q.asked) s reading c.args.from q.at c.args.items.now q.items q._question k a.0 there.1,
      a.2,
      (
        k.turns,
        omega (arith, test, k.count_is),
        inr
            (journaled_more c.laws.ensures (g.A.Asks.stands q.asked) s reading c.args.from q.at c.args.items.now q.items q._question k
            a.0 there.1 given is c.in_err-append_copies.ensures.room),
      ),
    )))

pub returns-then-len-reading-clause-caught : goal.returns-then-len-reading-clause-caught
returns-then-len-reading-clause-caught g c = λ s stands.
    let reading = c.args.reading.now in
    let q = c.loop-question in
    let stood = g.A.Asks.stands q.asked in
    let given = c.in_ok-given.given in
    let k = q.invariant.2 s stands in
    let a = c.in_ok-given.ensures.given k.now k.stands in
    let there = journaled_there c.laws.ensures k.now a.0 _ q.at reading.max given a.1 in
    let is = subst (λ (x : Scope). IsGiven a.0.feed (is_kept x) q.at reading.max given) c.in_ok-scope.ensures.same there.0 in
    let few : length given.items < reading.max = omega (arith, c.len.ensures, c.if-len-reading.true) in
    let all = caught_up c.laws.ensures stood s reading c.args.from q.at c.args.items.now q.items q._question k a.0 there.1 given is few in (
      a.0,
      gone c.laws.ensures stood s reading c.args.from q.at c.args.items.now q.items q._question k a.0 there.1,
      a.2,
      subst (λ (l : List Item). IsCaughtUp a.0 reading.query c.args.from c.args.items.now l) (sym c.in_ok-append_copies.ensures.added) all,
    )

pub returns-clause-stopped : goal.returns-clause-stopped
returns-clause-stopped g c = λ s stands.
    let k = c.loop-question.invariant.2 s stands in
    let last : c.loop-question._question ≡ c.args.reading.now.questions = omega
    (arith, c.loop-question-test.false, c.loop-question.auto._question-end) in
    (k.now, k.goes, k.stands, (k.turns, k.all, k.count_is ∙ last))

-- ---- which commands it sent
pub returns-in_err-scope-clause-only : goal.returns-in_err-scope-clause-only
returns-in_err-scope-clause-only g c =
    let q = c.loop-question in
    let reading = c.args.reading.now in
    fewer g.A.Asks.asks_once (IsSinceOf reading) q._question reading.questions c.args.asked.now q.asked
    (omega (arith, c.loop-question-test.true)) q.invariant.1

pub returns-in_err-given-clause-only : goal.returns-in_err-given-clause-only
returns-in_err-given-clause-only g c =
    let q = c.loop-question in
    let reading = c.args.reading.now in
    fewer g.A.Asks.asks_once (IsSinceOf reading) (q._question + 1) reading.questions c.args.asked.now c.since.new.asked
    (omega (arith, c.loop-question-test.true))
    (sinces_more g.A.Asks.asks_once reading q._question c.args.asked.now q.asked c.since.new.asked _ q.at c.in_ok-scope.ensures.same
    q.invariant.1 c.since.ensures.only)

pub returns-in_err-append_copies-clause-only : goal.returns-in_err-append_copies-clause-only
returns-in_err-append_copies-clause-only g c =
    let q = c.loop-question in
    let reading = c.args.reading.now in
    fewer g.A.Asks.asks_once (IsSinceOf reading) (q._question + 1) reading.questions c.args.asked.now c.since.new.asked
    (omega (arith, c.loop-question-test.true))
    (sinces_more g.A.Asks.asks_once reading q._question c.args.asked.now q.asked c.since.new.asked _ q.at c.in_ok-scope.ensures.same
    q.invariant.1 c.since.ensures.only)

pub returns-then-len-reading-clause-only : goal.returns-then-len-reading-clause-only
returns-then-len-reading-clause-only g c =
    let q = c.loop-question in
    let reading = c.args.reading.now in
    fewer g.A.Asks.asks_once (IsSinceOf reading) (q._question + 1) reading.questions c.args.asked.now c.since.new.asked
    (omega (arith, c.loop-question-test.true))
    (sinces_more g.A.Asks.asks_once reading q._question c.args.asked.now q.asked c.since.new.asked _ q.at c.in_ok-scope.ensures.same
    q.invariant.1 c.since.ensures.only)

pub returns-clause-only : goal.returns-clause-only
returns-clause-only g c =
    let q = c.loop-question in
    let reading = c.args.reading.now in
    let small : q._question ≤ reading.questions = omega (arith, c.loop-question-test.false, q.auto._question-end) in
    fewer g.A.Asks.asks_once (IsSinceOf reading) q._question reading.questions c.args.asked.now q.asked small q.invariant.1

-- ---- which reader it was, and what a reader that gives up says

pub returns-in_err-scope-clause-worn : goal.returns-in_err-scope-clause-worn
returns-in_err-scope-clause-worn g c = has_room c.from_residual.result c.from_residual.ensures.1

pub returns-in_err-scope-clause-same : goal.returns-in_err-scope-clause-same
returns-in_err-scope-clause-same g c = c.loop-question.invariant.0

pub returns-in_err-given-clause-worn : goal.returns-in_err-given-clause-worn
returns-in_err-given-clause-worn g c =
    by_fault c.from_residual-in_err-given.result c.in_err-given.field-0.0 c.from_residual-in_err-given.ensures.1
    (stops_worn c.laws.ensures g.A.Asks.stands g.A.Asks.is_worn c.loop-question.asked c.since.new.asked _ c.in_err-given.field-0.0
    c.in_err-given.ensures.refused)

pub returns-in_err-given-clause-same : goal.returns-in_err-given-clause-same
returns-in_err-given-clause-same g c = c.since.ensures.same ∙ c.loop-question.invariant.0

pub returns-in_err-append_copies-clause-worn : goal.returns-in_err-append_copies-clause-worn
returns-in_err-append_copies-clause-worn g c =
    has_room c.from_residual-in_err-append_copies.result c.from_residual-in_err-append_copies.ensures.1

pub returns-in_err-append_copies-clause-same : goal.returns-in_err-append_copies-clause-same
returns-in_err-append_copies-clause-same g c = c.since.ensures.same ∙ c.loop-question.invariant.0

pub returns-then-len-reading-clause-stopped : goal.returns-then-len-reading-clause-stopped
returns-then-len-reading-clause-stopped g c = tt

pub returns-then-len-reading-clause-worn : goal.returns-then-len-reading-clause-worn
returns-then-len-reading-clause-worn g c = λ e. absurd (cc)

pub returns-then-len-reading-clause-same : goal.returns-then-len-reading-clause-same
returns-then-len-reading-clause-same g c = c.since.ensures.same ∙ c.loop-question.invariant.0

pub returns-clause-caught : goal.returns-clause-caught
returns-clause-caught g c = tt

pub returns-clause-worn : goal.returns-clause-worn
returns-clause-worn g c = λ e. absurd (cc)

pub returns-clause-same : goal.returns-clause-same
returns-clause-same g c = c.loop-question.invariant.0

pub returns-in_err-scope-clause-caught : goal.returns-in_err-scope-clause-caught
returns-in_err-scope-clause-caught g c = nothing_read c.from_residual.result _ _ c.from_residual.ensures.1

pub returns-in_err-given-clause-caught : goal.returns-in_err-given-clause-caught
returns-in_err-given-clause-caught g c = nothing_read c.from_residual-in_err-given.result _ _ c.from_residual-in_err-given.ensures.1

pub returns-in_err-append_copies-clause-caught : goal.returns-in_err-append_copies-clause-caught
returns-in_err-append_copies-clause-caught g c =
    nothing_read c.from_residual-in_err-append_copies.result _ _ c.from_residual-in_err-append_copies.ensures.1
