use Rattle.ds_live.proofs.TurnLemmas.{refreshed}
use Rattle.ds_live.proofs.following.refresh_at.Goals as goal

pub returns-in_err-_fresh-clause-called : goal.returns-in_err-_fresh-clause-called
returns-in_err-_fresh-clause-called g c = let only = c.in_err-_fresh.ensures.only in (only.0, (only.1.own, only.1.made))

pub returns-clause-called : goal.returns-clause-called
returns-clause-called g c = let only = c.in_ok-_fresh.ensures.only in (only.0, (only.1.own, only.1.made))

pub returns-clause-refreshed : goal.returns-clause-refreshed
returns-clause-refreshed g c =
    refreshed c.args.seat.now.pass c.refresh.new.seat.pass c.args.follower.now c.refresh.new.follower c.in_ok-_fresh._fresh
    c.in_ok-_fresh.ensures.only.1 c.in_ok-_fresh.ensures.fresh

pub returns-in_err-_fresh-clause-only : goal.returns-in_err-_fresh-clause-only
returns-in_err-_fresh-clause-only g c = c.in_err-_fresh.ensures.only.1

pub returns-clause-only : goal.returns-clause-only
returns-clause-only g c = c.in_ok-_fresh.ensures.only.1
