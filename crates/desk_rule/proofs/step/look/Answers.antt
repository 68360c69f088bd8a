use Rattle.std.proofs.Common.{arith}
use Rattle.desk_rule.proofs.TurnLemmas.{look_allowed}
use Rattle.desk_rule.proofs.step.look.Goals as goal

pub load-requires : goal.load-requires
load-requires g c = (c.requires.0, omega arith, look_allowed _ _ _ _ _ _ _ _)
