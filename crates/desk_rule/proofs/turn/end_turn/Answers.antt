use Rattle.std.proofs.Common.{arith, []}
use Rattle.desk_rule.proofs.TurnLemmas.{end_of}
use Rattle.desk_rule.proofs.turn.end_turn.Goals as goal

pub fetch_add-requires : goal.fetch_add-requires
fetch_add-requires g c = (c.requires.at.0, omega arith, end_of _ _ _ _ _ _ _ c.requires.ends)

pub returns-clause-ended : goal.returns-clause-ended
returns-clause-ended g c h l out last = c.fetch_add.ensures.2 h l [] out last
