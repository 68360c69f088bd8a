use Rattle.desk_rule.proofs.FreeLemmas.{found_overtaken, turn_got}
use Rattle.desk_rule.proofs.turn.try_once.Goals as goal

pub returns-then-hold-word-clause-turn : goal.returns-then-hold-word-clause-turn
returns-then-hold-word-clause-turn g c =
    turn_got _ g.M.Machine.owes _ c.look-word.new.seat _ _ _ _ c.requires.rests c.look-word.ensures c.in-Some.ensures.free c.if-word.false
    c.if-hold-word.true
    (c.hold.ensures.held c.if-hold-word.true)

pub returns-else-hold-word-clause-missed : goal.returns-else-hold-word-clause-missed
returns-else-hold-word-clause-missed g c =
    found_overtaken _ _ _ c.look-word.new.seat _ _ _ _ c.requires.rests c.look-word.ensures c.in-Some.ensures.free c.hold.ensures.same
    (c.hold.ensures.missed c.if-hold-word.false)
    c.hold.ensures.turn c.if-hold-word.false
