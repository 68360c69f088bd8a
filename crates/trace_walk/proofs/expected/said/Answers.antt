use Rattle.std.proofs.Common.{refl, ◌∙◌}
use Rattle.std.proofs.lemmas.Bool.{false≢true}
use Rattle.trace_walk.specs.Walking.{IsThere}
use Rattle.trace_walk.proofs.FaultLemmas.{wrong_there}
use Rattle.trace_walk.proofs.expected.said.Goals as goal

pub returns-then-not-is_marked-clause-fails : goal.returns-then-not-is_marked-clause-fails
returns-then-not-is_marked-clause-fails c start bytes base here remaining h line_is p =
    wrong_there start bytes base here c.args.lines.now remaining c.count.result (IsThere here c.args.line.now) h p
    (λ f. false≢true (c.if-not-is_marked.ensures.1 (c.line.ensures ∙ line_is ∙ f refl))) c.count.ensures.value
