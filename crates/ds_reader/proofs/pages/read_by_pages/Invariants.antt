use Rattle.std.proofs.Common.{◌≡◌}
use Rattle.ds_machine.specs.State.{State}
use Rattle.ds_reader.proofs.PageLemmas.{Paging}
use Rattle.ds_reader.proofs.QuestionLemmas.{Pages}
use Rattle.ds_reader.proofs.pages.read_by_pages.Given as goal

-- the pages so far had these items, and none was the last
abbrev pub invariant-loop-question : goal.invariant-loop-question
invariant-loop-question g l =
    (g.A.Asks.origin_of l.asked ≡ g.A.Asks.origin_of l.fn.asked) ×
    Pages g.A.Asks.asks_once l.reading l._question l.fn.asked l.asked ×
    ((s : State) → g.A.Asks.stands l.fn.asked s →
    Paging (g.A.Asks.stands l.asked) s l.reading l.items l.after l.from l._question)
