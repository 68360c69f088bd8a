use Rattle.std.proofs.Common.{false, refl, suc, true}
use Rattle.ds_live.proofs.TurnLemmas.{exchanged_as, handed_over, seat_called_more, seat_called_none}
use Rattle.ds_live.proofs.exchanging.hand_over_at.Goals as goal

pub loop-init : goal.loop-init
loop-init g c = (tt, tt, seat_called_none c.args.first.now, seat_called_none c.args.second.now, (0, (refl, refl, refl)))

pub loop-preserved : goal.loop-preserved
loop-preserved g c =
    let l = c.loop in
    let e = c.in_ok-more.ensures.called in (
      tt,
      tt,
      seat_called_more c.args.first.now l.first c.exchange_at.new.first l.invariant.2 e.0,
      seat_called_more c.args.second.now l.second c.exchange_at.new.second l.invariant.3 e.1,
      (
        suc l.invariant.4.0,
        (
          l.first.pass,
          l.second.pass,
          l.cursor,
          l.invariant.4.1,
          exchanged_as l.first.pass c.exchange_at.new.first.pass l.second.pass c.exchange_at.new.second.pass l.cursor
              c.exchange_at.new.cursor c.in_ok-more.more true c.if-not-more.false c.in_ok-more.ensures.exchanged,
        ),
      ),
    )

pub returns-in_err-more-clause-called : goal.returns-in_err-more-clause-called
returns-in_err-more-clause-called g c =
    let l = c.loop in
    let e = c.in_err-more.ensures.called in (
      seat_called_more c.args.first.now l.first c.exchange_at.new.first l.invariant.2 e.0,
      seat_called_more c.args.second.now l.second
          c.exchange_at.new.second l.invariant.3 e.1,
    )

pub returns-then-not-more-clause-called : goal.returns-then-not-more-clause-called
returns-then-not-more-clause-called g c =
    let l = c.loop in
    let e = c.in_ok-more.ensures.called in (
      seat_called_more c.args.first.now l.first c.exchange_at.new.first l.invariant.2 e.0,
      seat_called_more c.args.second.now l.second
          c.exchange_at.new.second l.invariant.3 e.1,
    )

pub returns-then-not-more-clause-handed : goal.returns-then-not-more-clause-handed
returns-then-not-more-clause-handed g c =
    let l = c.loop in
    handed_over l.first.pass c.exchange_at.new.first.pass l.second.pass c.exchange_at.new.second.pass l.cursor c.exchange_at.new.cursor
    c.in_ok-more.more c.in_ok-more.ensures.exchanged c.if-not-more.true

pub returns-then-not-more-clause-exchanged : goal.returns-then-not-more-clause-exchanged
returns-then-not-more-clause-exchanged g c =
    let l = c.loop in record {
      asked = l.first.pass;
      given = l.second.pass;
      mid = l.cursor;
      count = l.invariant.4.0;
      before = l.invariant.4.1;
      last = exchanged_as l.first.pass c.exchange_at.new.first.pass l.second.pass c.exchange_at.new.second.pass l.cursor
          c.exchange_at.new.cursor c.in_ok-more.more false c.if-not-more.true c.in_ok-more.ensures.exchanged;
    }
