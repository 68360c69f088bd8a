use Rattle.desk_rule.proofs.WaitLemmas.{ended, ends, legal_after, put_back}
use Rattle.desk_rule.proofs.turn.run_turn.Goals as goal

pub end_turn-requires-clause-ends : goal.end_turn-requires-clause-ends
end_turn-requires-clause-ends g c = let o = c.machine_out-machine.ensures in
    ends _ c.args.seat.now c.machine_back.new.seat c.machine_out-machine.result _ _ _ _ _ c.requires.holds o.machine c.step-reply.ensures
    c.of-said.ensures c.of.ensures
    (put_back c.args.seat.now c.machine_out-machine.new.seat c.machine_back.new.seat _ o.out c.machine_back.ensures.back)

pub returns-clause-ended : goal.returns-clause-ended
returns-clause-ended g c =
    (ended c.args.seat.now c.machine_back.new.seat c.end_turn.new.seat _ _ _ _ _
    (put_back c.args.seat.now c.machine_out-machine.new.seat c.machine_back.new.seat _ c.machine_out-machine.ensures.out
    c.machine_back.ensures.back) c.of-said.ensures
    c.of.ensures c.end_turn.ensures.ended).0

pub returns-clause-own : goal.returns-clause-own
returns-clause-own g c =
    (ended c.args.seat.now c.machine_back.new.seat c.end_turn.new.seat _ _ _ _ _
    (put_back c.args.seat.now c.machine_out-machine.new.seat c.machine_back.new.seat _ c.machine_out-machine.ensures.out
    c.machine_back.ensures.back) c.of-said.ensures
    c.of.ensures c.end_turn.ensures.ended).1

pub returns-clause-legal : goal.returns-clause-legal
returns-clause-legal g c = legal_after _ c.args.seat.now c.end_turn.new.seat c.machine_out-machine.result _ _ _
    c.machine_out-machine.ensures.machine c.step-reply.ensures (returns-clause-ended g c)
