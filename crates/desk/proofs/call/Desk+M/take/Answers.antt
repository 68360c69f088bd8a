use Rattle.std.proofs.Common.{arith, ◌∙◌}
use Rattle.desk.proofs.CallLemmas.{owed_later, place_taken, take_counts, take_raises, take_room}
use Rattle.desk.proofs.SeeLemmas.{sees_taken, takes_pending}
use Rattle.desk_rule.proofs.WaitLemmas.{rests_facts}
use Rattle.desk.proofs.call.Desk+M.take.Goals as goal

pub tally-requires-clause-room : goal.tally-requires-clause-room
tally-requires-clause-room g c = let small = c.if-server-ge16.false in
    take_room _ _ _ _ _ _ (omega arith) c.take-bits.ensures.taken (rests_facts c.args.pass.now.seat.me.0 c.args.pass.now.resting).1
    c.args.pass.now.takes_counted

pub invariant_of-pass-clause-raises_counted : goal.invariant_of-pass-clause-raises_counted
invariant_of-pass-clause-raises_counted g c =
    take_raises _ _ _ _ _ _ _ _ _ _ c.take-bits.ensures.taken c.look-floor.ensures.looks
    (rests_facts c.args.pass.now.seat.me.0 c.args.pass.now.resting).1 c.args.pass.now.raises_counted

pub invariant_of-pass-clause-takes_counted : goal.invariant_of-pass-clause-takes_counted
invariant_of-pass-clause-takes_counted g c = take_counts _ _ _ _ _ _ _ _ _ _ _ c.take-bits.ensures.taken c.look-floor.ensures.looks
    (rests_facts c.args.pass.now.seat.me.0 c.args.pass.now.resting).1 c.tally.ensures c.args.pass.now.takes_counted

pub take-bits-requires-clause-some_pass : goal.take-bits-requires-clause-some_pass
take-bits-requires-clause-some_pass g c = let one = (rests_facts c.args.pass.now.seat.me.0 c.args.pass.now.resting).1 in omega arith

pub returns-clause-taken : goal.returns-clause-taken
returns-clause-taken g c = let t = c.take-bits.ensures.taken in let look = c.look-floor.ensures in let l = look.looks in let low =
    t.eight_bits in
    let small = c.if-server-ge16.false in let r = rests_facts c.args.pass.now.seat.me.0 c.args.pass.now.resting in record {
      server_is = omega arith;
      sees = sees_taken _ _ _ _ _ c.take-bits.new.seat.me.0 _ _ _ _ t l (look.same.0 ∙ c.take-bits.ensures.same.0.0) r.1;
      pending = takes_pending g.M.Machine.stands g.M.Machine.steps _ _ _ c.take-bits.new.seat.me.0 _ _ _ _ _ t l r.1 (omega arith);
      owed = λ b set_bit. owed_later _ _ _ _ _ _ _ _ b _ t l set_bit;
      floor = place_taken _ _ _ _ _ _ _ _ _ t l r.2;
    }
