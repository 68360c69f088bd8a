use Rattle.std.proofs.Common.{◌≡◌}
use Rattle.ds_machine.specs.State.{State}
use Rattle.ds_reader.proofs.CheckLemmas.{Checking}
use Rattle.ds_reader.proofs.QuestionLemmas.{HasChecked}
use Rattle.ds_reader.proofs.checks.read_by_checks.Given as goal

-- after it subscribed, the checks so far showed these items, each as many as it asked for
abbrev pub invariant-loop-question : goal.invariant-loop-question
invariant-loop-question g l =
    (g.A.Asks.origin_of l.asked ≡ g.A.Asks.origin_of l.fn.asked) ×
    HasChecked g.A.Asks.asks_once l.sub l.reading l._question l.fn.asked l.asked ×
    ((s : State) → g.A.Asks.stands l.fn.asked s →
    Checking (g.A.Asks.stands l.asked) s l.sub l.reading.max l.reading.query l.items l.stamp l._question)
