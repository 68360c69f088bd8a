use Rattle.std.proofs.Common.{arith, refl}
use Rattle.desk_rule.proofs.TurnLemmas.{hold_allowed}
use Rattle.desk_rule.proofs.turn.hold.Goals as goal

pub compare_exchange-requires : goal.compare_exchange-requires
compare_exchange-requires g c = let free = c.requires.free in
    (c.requires.at.0, omega arith, hold_allowed _ _ _ _ _ _ _ _ _ _ free.0 free.1 refl free.2 c.requires.some_pass)
