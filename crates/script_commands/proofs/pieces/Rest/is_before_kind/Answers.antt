use Rattle.script_commands.proofs.RangeLemmas.{kind_next}
use Rattle.script_commands.proofs.pieces.Rest.is_before_kind.Goals as goal

pub returns-in-Some : goal.returns-in-Some
returns-in-Some c = kind_next c.kind_at.result (λ b. b.now) c.is_some.result c.args.self.now.bytes.now c.in-Some.rest.now
    c.in-Some.ensures.found c.is_some.ensures c.kind_at.ensures.found c.kind_at.ensures.none
