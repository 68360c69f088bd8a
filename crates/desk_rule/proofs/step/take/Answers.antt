use Rattle.std.proofs.Common.{arith}
use Rattle.desk_rule.proofs.NoticeLemmas.{take_allowed}
use Rattle.desk_rule.proofs.step.take.Goals as goal

pub swap-requires : goal.swap-requires
swap-requires g c = let small = c.requires.server in let at = c.requires.at in
    (at.0, omega arith, take_allowed _ _ _ _ _ _ _ _ c.args.server c.requires.server c.requires.some_pass)
