use Rattle.std.proofs.Common.{◌<◌, length, take, inr, ◌∙◌, arith}
use Rattle.std.proofs.lemmas.List.{length-set, take_more_set}
use Rattle.c_rs.proofs.RunningLemmas.{calls_next, silent_next, after_next}
use Rattle.c_rs.proofs.session.RsSession.run.Goals as goal
use Rattle.c_rs.proofs.session.RsSession.run.Goals.{then-requests-answers, else-requests-answers}

-- the answer has a text, and it ends there
pub returns-then-answer-gt0 : goal.returns-then-answer-gt0
returns-then-answer-gt0 c =
    let rs = c.args.requests.now in let place = c.args.answers.now in let k = c.loop-index in let a = c.call.new.answer in
    let asks : k.index < length rs = elim c.if-requests-answers.branch [
      | then-requests-answers w ↦ omega (arith, c.loop-index-test.true, w.count-is, w.if-requests-answers.true)
      | else-requests-answers w ↦ omega (arith, c.loop-index-test.true, w.count-is, w.if-requests-answers.false)
    ] in
    let places : k.index < length place = elim c.if-requests-answers.branch [
      | then-requests-answers w ↦ omega (arith, c.loop-index-test.true, w.count-is, w.if-requests-answers.true)
      | else-requests-answers w ↦ omega (arith, c.loop-index-test.true, w.count-is, w.if-requests-answers.false)
    ] in
    let here : k.index < length k.answers = omega (arith, places, k.invariant.many) in
    record {
      within = (omega (arith, asks), omega (arith, places));
      calls = calls_next c.args.texts.now rs k.answers c.args.self.now k.self c.call.new.self k.index _ a asks here k.invariant.calls
          c.call.ensures;
      past = after_next k.answers place k.index a k.invariant.past;
      ended = inr
          (take k.index k.answers, a, take_more_set k.answers k.index a here, k.invariant.silent, omega (arith, c.if-answer-gt0.true));
    }

-- it has none, and the next request follows
pub loop-index-preserved : goal.loop-index-preserved
loop-index-preserved c =
    let rs = c.args.requests.now in let place = c.args.answers.now in let k = c.loop-index in let a = c.call.new.answer in
    let asks : k.index < length rs = elim c.if-requests-answers.branch [
      | then-requests-answers w ↦ omega (arith, c.loop-index-test.true, w.count-is, w.if-requests-answers.true)
      | else-requests-answers w ↦ omega (arith, c.loop-index-test.true, w.count-is, w.if-requests-answers.false)
    ] in
    let places : k.index < length place = elim c.if-requests-answers.branch [
      | then-requests-answers w ↦ omega (arith, c.loop-index-test.true, w.count-is, w.if-requests-answers.true)
      | else-requests-answers w ↦ omega (arith, c.loop-index-test.true, w.count-is, w.if-requests-answers.false)
    ] in
    let here : k.index < length k.answers = omega (arith, places, k.invariant.many) in
    record {
      calls = calls_next c.args.texts.now rs k.answers c.args.self.now k.self c.call.new.self k.index _ a asks here k.invariant.calls
          c.call.ensures;
      silent = silent_next k.answers k.index a here k.invariant.silent (omega (arith, c.if-answer-gt0.false));
      past = after_next k.answers place k.index a k.invariant.past;
      many = length-set k.answers k.index a ∙ k.invariant.many;
    }
