use Rattle.std.proofs.Common.{refl, ◌∙◌, ◌++◌}
use Rattle.std.proofs.lemmas.Result.{err_from_is_err_and}
use Rattle.desk_store.proofs.RecordLemmas.{made_more}
use Rattle.ds_live.proofs.TurnLemmas.{brought, gone_again, gone_from}
use Rattle.ds_live.proofs.following.bring_up_at.Goals as goal

pub loop-init : goal.loop-init
loop-init g c = record {
  next = (tt, tt);
  seat = refl;
  gone = gone_from c.args.seat.now.pass c.args.follower.now;
  keeps = c.requires;
}

pub loop-preserved : goal.loop-preserved
loop-preserved g c =
    let l = c.loop in let i = l.invariant in let e = c.in_ok-fresh.ensures in record {
      next = (tt, tt);
      seat = e.only.0 ∙ i.seat;
      gone = gone_again c.args.seat.now.pass l.seat.pass c.refresh.new.seat.pass c.args.follower.now l.follower c.refresh.new.follower 65536
          i.gone e.same c.in_ok-fresh.fresh c.in_default.not-UpTo e.fresh;
      keeps = e.keeps;
    }

pub returns-in_err-fresh-clause-called : goal.returns-in_err-fresh-clause-called
returns-in_err-fresh-clause-called g c =
    let l = c.loop in let i = l.invariant in let only = c.in_err-fresh.ensures.only in (
      only.0 ∙ i.seat,
      (
        i.gone.own ++ only.1.own,
        made_more c.args.seat.now.pass l.seat.pass c.refresh.new.seat.pass i.gone.own only.1.own i.gone.made
            only.1.made,
      ),
    )

pub returns-in_err-fresh-clause-same : goal.returns-in_err-fresh-clause-same
returns-in_err-fresh-clause-same g c =
    let i = c.loop.invariant in let same = c.in_err-fresh.ensures.same in
    record { sub = same.sub ∙ i.gone.same.sub; query = same.query ∙ i.gone.same.query }

pub returns-in-UpTo-clause-called : goal.returns-in-UpTo-clause-called
returns-in-UpTo-clause-called g c =
    let l = c.loop in let i = l.invariant in let only = c.in_ok-fresh.ensures.only in (
      only.0 ∙ i.seat,
      (
        i.gone.own ++ only.1.own,
        made_more c.args.seat.now.pass l.seat.pass c.refresh.new.seat.pass i.gone.own only.1.own i.gone.made
            only.1.made,
      ),
    )

pub returns-in-UpTo-clause-same : goal.returns-in-UpTo-clause-same
returns-in-UpTo-clause-same g c =
    let i = c.loop.invariant in let same = c.in_ok-fresh.ensures.same in
    record { sub = same.sub ∙ i.gone.same.sub; query = same.query ∙ i.gone.same.query }

pub returns-in-UpTo-clause-brought : goal.returns-in-UpTo-clause-brought
returns-in-UpTo-clause-brought g c =
    let l = c.loop in let i = l.invariant in let e = c.in_ok-fresh.ensures in
    brought c.args.seat.now.pass l.seat.pass c.refresh.new.seat.pass c.args.follower.now l.follower c.refresh.new.follower 65536 i.gone
    e.same c.in_ok-fresh.fresh c.in-UpTo.field-0 c.in-UpTo.is e.fresh

pub returns-in_err-fresh-clause-fault : goal.returns-in_err-fresh-clause-fault
returns-in_err-fresh-clause-fault g c =
    let exit = err_from_is_err_and c.from_residual.result c.from_residual.ensures.1 in
    let l = c.loop in let i = l.invariant in
    let e = c.in_err-fresh.ensures in
    rw (exit.1, exit.2) (l.seat.pass, l.follower, i.gone, e.fault, e.only.1)
