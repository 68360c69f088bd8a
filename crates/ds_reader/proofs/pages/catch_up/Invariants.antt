use Rattle.std.proofs.Common.{◌≡◌}
use Rattle.ds_machine.specs.State.{State}
use Rattle.ds_reader.proofs.QuestionLemmas.{Sinces}
use Rattle.ds_reader.proofs.SinceLemmas.{Catching}
use Rattle.ds_reader.proofs.pages.catch_up.Given as goal

-- the journal's replies so far added these items, each as many as the Since asked for
abbrev pub invariant-loop-question : goal.invariant-loop-question
invariant-loop-question g l =
    (g.A.Asks.origin_of l.asked ≡ g.A.Asks.origin_of l.fn.asked) ×
    Sinces g.A.Asks.asks_once l.reading l._question l.fn.asked l.asked ×
    ((s : State) → g.A.Asks.stands l.fn.asked s →
    Catching (g.A.Asks.stands l.asked) s l.reading l.fn.from l.at l.fn.items l.items l._question)
