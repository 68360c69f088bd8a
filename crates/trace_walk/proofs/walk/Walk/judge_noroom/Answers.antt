use Rattle.std.proofs.Common.{◌++◌, ◌∙◌, List, ℕ, refl, ap}
use Rattle.script_answers.specs.Reply.{refused_noroom}
use Rattle.trace_walk.proofs.walk.Walk.judge_noroom.Goals as goal

pub returns-clause-goes : goal.returns-clause-goes
returns-clause-goes c =
    record {
      lines = refl;
      store = refl;
      header = refl;
      asked_is = refl;
      reply = c.in_ok-append_noroom.ensures.written ∙ ap (λ (l : List ℕ). l ++ refused_noroom) c.clear.ensures.items;
      becomes = c.refused.ensures;
    }
