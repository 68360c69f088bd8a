use Rattle.std.proofs.Common.{ap, ◌∙◌}
use Rattle.desk.proofs.CallLemmas.{can_post, last_owes, mask_raised, same_taken, tallies_taken}
use Rattle.desk.proofs.SeeLemmas.{calls_once, posts_owed}
use Rattle.desk.proofs.FreeLemmas.{misses}
use Rattle.desk_rule.proofs.WaitLemmas.{rests_facts}
use Rattle.desk.proofs.free_call.Desk+M.call_if_free.Goals as goal

pub post_owed-raised-requires-clause-last : goal.post_owed-raised-requires-clause-last
post_owed-raised-requires-clause-last g c = let t = c.in-Ok.ensures.called in
    last_owes _ t.held _ _ _ _ (ap (λ m. m.0) t.ended) c.owed-owed.ensures

pub post_owed-raised-requires-clause-room : goal.post_owed-raised-requires-clause-room
post_owed-raised-requires-clause-room g c = let t = c.in-Ok.ensures.called in let r =
    rests_facts c.args.pass.now.seat.me.0 c.args.pass.now.resting in
    can_post _ _ _ t.held _ _ _ t.turn r.1 r.2 (ap (λ m. m.0) t.ended)

pub invariant_of-pass-clause-takes_counted : goal.invariant_of-pass-clause-takes_counted
invariant_of-pass-clause-takes_counted g c = let t = c.in-Ok.ensures.called in
    tallies_taken c.args.pass.now.seat.me.0 c.post_owed-raised.new.seat.me.0 _
    (same_taken _ _ t.held _ _ _ _ _ _ _ t.turn (ap (λ m. m.0) t.ended) c.post_owed-raised.ensures.posts
    (rests_facts c.args.pass.now.seat.me.0 c.args.pass.now.resting).1)
    c.args.pass.now.takes_counted

pub returns-in-Ok-clause-called : goal.returns-in-Ok-clause-called
returns-in-Ok-clause-called g c = let r = rests_facts c.args.pass.now.seat.me.0 c.args.pass.now.resting in let t = c.in-Ok.ensures.called in
    calls_once _ _ _ _ t.held _ _ _ _ _ t.turn (ap (λ m. m.0) t.ended) c.post_owed-raised.ensures.posts t.own t.legal
    (c.post_owed-raised.ensures.same.0.0 ∙ t.same.0) r.1 r.2

pub returns-in-Ok-clause-posted : goal.returns-in-Ok-clause-posted
returns-in-Ok-clause-posted g c = let r = rests_facts c.args.pass.now.seat.me.0 c.args.pass.now.resting in let t =
    c.in-Ok.ensures.called in let ended = ap (λ m. m.0) t.ended in record {
      owed = c.owed-owed.ensures;
      posted = posts_owed g.M.Machine.stands g.M.Machine.steps _ _ t.held _ _ _ _ _ t.turn ended c.post_owed-raised.ensures.posts r.2 r.1;
      raised = mask_raised _ _ t.held _ _ _ _ _ _ _ _ t.turn ended c.post_owed-raised.ensures.posts r.1 c.post_owed-raised.ensures.raised;
    }

pub returns-in-Err-clause-missed : goal.returns-in-Err-clause-missed
returns-in-Err-clause-missed g c = let r = rests_facts c.args.pass.now.seat.me.0 c.args.pass.now.resting in
    misses g.M.Machine.stands g.M.Machine.steps g.M.Machine.owes c.args.pass.now _ c.in-Err.stop c.in-Err.ensures.missed r.1 r.2
