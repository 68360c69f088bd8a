use Rattle.std.proofs.Common.{◌≡◌, ◌⊎◌, ℕ, Option, None, Some, refl, ap, sym, ◌∙◌, subst, inl, inr, rules}
use Rattle.ds_submap.specs.Map.{SubMapRecord}
use Rattle.desk_store.specs.Called.{HadAccepted}
use Rattle.desk_store.specs.Follower.{FollowerRecord}
use Rattle.desk_store.specs.Refresh.{TakesOneCall}
use Rattle.desk_store.proofs.GoneLemmas.{goes_on_accepted, gone_ends, gone_none, gone_on, map_kept}
use Rattle.desk_store.proofs.LedLemmas.{led_more, led_none, map_more}
use Rattle.desk_store.proofs.OnlyLemmas.{only_gone, only_more, only_none}
use Rattle.desk_store.proofs.RoomLemmas.{fails_refreshing}
use Rattle.desk_store.proofs.refreshing.refresh.Goals as goal

pub returns-then-limit-lt2-clause-only : goal.returns-then-limit-lt2-clause-only
returns-then-limit-lt2-clause-only g c = (refl, only_none (g.S.StoreSeat.seat c.args.seat.now).pass c.args.follower.now c.args.limit)

pub loop-made-init : goal.loop-made-init
loop-made-init g c = (
  refl,
  gone_none (g.S.StoreSeat.seat c.args.seat.now).pass c.args.follower.now c.requires.keeps,
  inl refl,
  led_none (g.S.StoreSeat.seat c.args.seat.now).pass c.args.follower.now,
)

pub returns-then-limit-lt2-clause-map : goal.returns-then-limit-lt2-clause-map
returns-then-limit-lt2-clause-map g c = record {
  last = c.args.follower.now;
  calls = led_none (g.S.StoreSeat.seat c.args.seat.now).pass c.args.follower.now;
  map = ap (λ (x : FollowerRecord). x.map) c.lose.ensures;
}

pub returns-in-Ok-Some-clause-map : goal.returns-in-Ok-Some-clause-map
returns-in-Ok-Some-clause-map g c =
    let l = c.loop-made in record {
      last = c.call_once.new.follower;
      calls = led_more (g.S.StoreSeat.seat c.args.seat.now).pass (g.S.StoreSeat.seat l.seat).pass
          (g.S.StoreSeat.seat c.call_once.new.seat).pass c.args.follower.now l.follower c.call_once.new.follower l.invariant.3
          c.in-Ok-Some.ensures.leads;
      map = refl;
    }

pub returns-in-Err-clause-map : goal.returns-in-Err-clause-map
returns-in-Err-clause-map g c =
    let l = c.loop-made in
    let led = map_more (g.S.StoreSeat.seat c.args.seat.now).pass (g.S.StoreSeat.seat l.seat).pass
    (g.S.StoreSeat.seat c.call_once.new.seat).pass c.args.follower.now l.follower c.call_once.new.follower l.invariant.3
    c.in-Err.ensures.map in
    record { last = led.last; calls = led.calls; map = ap (λ (x : FollowerRecord). x.map) c.lose-in-Err.ensures ∙ led.map }

pub returns-clause-map : goal.returns-clause-map
returns-clause-map g c =
    let l = c.loop-made in
    record { last = l.follower; calls = l.invariant.3; map = refl }

pub returns-in-Ok-Some-clause-only : goal.returns-in-Ok-Some-clause-only
returns-in-Ok-Some-clause-only g c =
    let l = c.loop-made in
    let e = c.in-Ok-Some.ensures in (
      e.only.0 ∙ l.invariant.0,
      only_more (g.S.StoreSeat.seat c.args.seat.now).pass (g.S.StoreSeat.seat l.seat).pass c.args.follower.now l.follower l._made
          l.invariant.1 (g.S.StoreSeat.seat c.call_once.new.seat).pass c.args.limit c.loop-made-test.true e.only.1,
    )

pub returns-in-Ok-Some-clause-fresh : goal.returns-in-Ok-Some-clause-fresh
returns-in-Ok-Some-clause-fresh g c =
    let l = c.loop-made in
    let some : c.in-Ok-Some.field-0 ≡ Some c.in-Ok-Some.place = cc in
    gone_ends (g.S.StoreSeat.seat c.args.seat.now).pass (g.S.StoreSeat.seat l.seat).pass (g.S.StoreSeat.seat c.call_once.new.seat).pass
    c.args.follower.now l.follower c.call_once.new.follower l._made l.invariant.1 c.args.limit c.in-Ok-Some.place c.loop-made-test.true
    (subst (λ (o : Option ℕ). TakesOneCall (g.S.StoreSeat.seat l.seat).pass (g.S.StoreSeat.seat c.call_once.new.seat).pass l.follower
    c.call_once.new.follower o) some c.in-Ok-Some.ensures.called)

pub returns-in-Err-clause-only : goal.returns-in-Err-clause-only
returns-in-Err-clause-only g c =
    let l = c.loop-made in
    let e = c.in-Err.ensures in (
      e.only.0 ∙ l.invariant.0,
      only_more (g.S.StoreSeat.seat c.args.seat.now).pass (g.S.StoreSeat.seat l.seat).pass c.args.follower.now l.follower l._made
          l.invariant.1 (g.S.StoreSeat.seat c.call_once.new.seat).pass c.args.limit c.loop-made-test.true e.only.1,
    )

pub returns-in-Err-clause-kept : goal.returns-in-Err-clause-kept
returns-in-Err-clause-kept g c =
    let l = c.loop-made in
    let e = c.in-Err.ensures in
    subst (λ (m : SubMapRecord). (m ≡ c.args.follower.now.map) ⊎
    HadAccepted (g.S.StoreSeat.seat c.args.seat.now).pass (g.S.StoreSeat.seat c.call_once.new.seat).pass)
    (sym (ap (λ (x : FollowerRecord). x.map) c.lose-in-Err.ensures))
    (map_kept (g.S.StoreSeat.seat c.args.seat.now).pass (g.S.StoreSeat.seat l.seat).pass (g.S.StoreSeat.seat c.call_once.new.seat).pass
    c.args.follower.now l.follower c.call_once.new.follower l._made 1 l.invariant.1 l.invariant.2 e.only.1 e.kept)

pub returns-in-Err-clause-fault : goal.returns-in-Err-clause-fault
returns-in-Err-clause-fault g c =
    let l = c.loop-made in (
      search rules,
      search rules,
      fails_refreshing (g.S.StoreSeat.seat c.args.seat.now).pass (g.S.StoreSeat.seat l.seat).pass
          (g.S.StoreSeat.seat c.call_once.new.seat).pass c.args.follower.now l.follower l._made c.in-Err.fault l.invariant.1
          c.in-Err.ensures.fault,
    )

pub loop-made-preserved : goal.loop-made-preserved
loop-made-preserved g c =
    let l = c.loop-made in
    let e = c.in-Ok-None.ensures in
    let none : c.in-Ok-None.field-0 ≡ None = cc in
    let on = subst (λ (o : Option ℕ). TakesOneCall (g.S.StoreSeat.seat l.seat).pass (g.S.StoreSeat.seat c.call_once.new.seat).pass
    l.follower c.call_once.new.follower o) none e.called in (
      e.only.0 ∙ l.invariant.0,
      gone_on (g.S.StoreSeat.seat c.args.seat.now).pass (g.S.StoreSeat.seat l.seat).pass (g.S.StoreSeat.seat c.call_once.new.seat).pass
          c.args.follower.now l.follower c.call_once.new.follower l._made l.invariant.1 e.same on e.keeps,
      inr (goes_on_accepted (g.S.StoreSeat.seat c.args.seat.now).pass (g.S.StoreSeat.seat l.seat).pass
          (g.S.StoreSeat.seat c.call_once.new.seat).pass c.args.follower.now l.follower c.call_once.new.follower l._made l.invariant.1 on),
      led_more (g.S.StoreSeat.seat c.args.seat.now).pass (g.S.StoreSeat.seat l.seat).pass (g.S.StoreSeat.seat c.call_once.new.seat).pass
          c.args.follower.now l.follower c.call_once.new.follower l.invariant.3 e.leads,
    )

pub returns-clause-only : goal.returns-clause-only
returns-clause-only g c =
    let l = c.loop-made in (
      l.invariant.0,
      only_gone (g.S.StoreSeat.seat c.args.seat.now).pass (g.S.StoreSeat.seat l.seat).pass c.args.follower.now l.follower
          l._made l.invariant.1 c.args.limit l.auto._made-end,
    )
