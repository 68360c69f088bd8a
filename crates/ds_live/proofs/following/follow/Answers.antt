use Rattle.desk_store.specs.Record.{pass_record}
use Rattle.ds_live.proofs.WorkerLemmas.{follow_failed, followed, looked_called, looked_keeps, looked_only, looked_refreshed, same_called}
use Rattle.ds_live.proofs.following.follow.Goals as goal

pub returns-in_err-_taken-clause-called : goal.returns-in_err-_taken-clause-called
returns-in_err-_taken-clause-called g c = same_called c.args.pass.now c.take.new.pass c.in_err-_taken.ensures.refused.2

pub refresh_once-requires-clause-keeps : goal.refresh_once-requires-clause-keeps
refresh_once-requires-clause-keeps g c = looked_keeps c.args.pass.now c.take.new.pass c.in_ok-_taken.ensures.taken.sees
    c.take.ensures.same.1 c.args.follower.now c.requires.keeps

pub returns-in_err-refresh_once-clause-called : goal.returns-in_err-refresh_once-clause-called
returns-in_err-refresh_once-clause-called g c =
    looked_called c.args.pass.now c.take.new.pass c.in_ok-_taken.ensures.taken.sees c.take.ensures.same.1
    (pass_record c.refresh_once.new.pass) c.in_err-refresh_once.ensures.called

pub returns-clause-called : goal.returns-clause-called
returns-clause-called g c =
    looked_called c.args.pass.now c.take.new.pass c.in_ok-_taken.ensures.taken.sees c.take.ensures.same.1
    (pass_record c.refresh_once.new.pass) c.in_ok-refresh_once.ensures.called

pub returns-clause-followed : goal.returns-clause-followed
returns-clause-followed g c =
    followed c.args.pass.now c.take.new.pass c.refresh_once.new.pass c.args.follower.now c.sub.result c.in_ok-_taken._taken.bits
    c.sub.ensures c.in_ok-_taken.ensures.taken.pending
    c.in_ok-refresh_once.ensures.refreshed

pub returns-clause-refreshed : goal.returns-clause-refreshed
returns-clause-refreshed g c =
    looked_refreshed c.args.pass.now c.take.new.pass c.in_ok-_taken.ensures.taken.sees c.take.ensures.same.1
    (pass_record c.refresh_once.new.pass) c.args.follower.now c.in_ok-refresh_once.ensures.refreshed

pub returns-in_err-refresh_once-clause-fault : goal.returns-in_err-refresh_once-clause-fault
returns-in_err-refresh_once-clause-fault g c =
    let e = c.in_err-refresh_once.ensures in
    follow_failed (pass_record c.args.pass.now) (pass_record c.take.new.pass) (pass_record c.refresh_once.new.pass) c.args.follower.now
    c.from_residual-in_err-refresh_once.result
    c.in_err-refresh_once.field-0.0 c.from_residual-in_err-refresh_once.ensures.1 e.fault
    (looked_only c.args.pass.now c.take.new.pass c.in_ok-_taken.ensures.taken.sees c.take.ensures.same.1
    (pass_record c.refresh_once.new.pass) c.args.follower.now 8 e.only)
