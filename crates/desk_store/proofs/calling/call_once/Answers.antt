use Rattle.std.proofs.Common.{◌≡◌, ◌≢◌, ◌<◌, [], None, Some, ap, arith, length, refl, subst, sym, ◌∙◌}
use Rattle.std.proofs.lemmas.Result.{err_from_is_err_and}
use Rattle.ds_names.specs.Limits.{most_items}
use Rattle.ds_pattern.specs.declared.query.Query.{Query}
use Rattle.ds_machine.specs.declared.command.Command.TheVariants.{Check}
use Rattle.ds_machine.specs.declared.reply.Reply.TheVariants.{Checked, Subscribed}
use Rattle.ds_reader.specs.Asked.{subscribe_anew}
use Rattle.desk_store.specs.Follower.{FollowerRecord, follower_of}
use Rattle.desk_store.proofs.CheckLemmas.{map_ends, map_never_stops, map_stands, subscribe_stands}
use Rattle.desk_store.proofs.LedLemmas.{led_other, led_subscribed, led_whole, map_failed, map_none, map_stopped}
use Rattle.desk_store.proofs.OnlyLemmas.{only_none}
use Rattle.desk_store.proofs.RoomLemmas.{fails_asking, fails_unasked, next_checks, next_subscribes}
use Rattle.desk_store.proofs.calling.call_once.Goals as goal

-- the query couldn't be copied
pub returns-in_err-query-clause-only : goal.returns-in_err-query-clause-only
returns-in_err-query-clause-only g c = (refl, only_none (g.S.StoreSeat.seat c.args.seat.now).pass c.args.follower.now 1)

pub returns-in_err-query-clause-fault : goal.returns-in_err-query-clause-fault
returns-in_err-query-clause-fault g c =
    let f = c.follower.inside in
    let parts : c.args.follower.now ≡ follower_of f.sub f.stamp f.map = sym c.follower.view_is in
    let lost : c.args.follower.now.stamp ≡ None = ap (λ (x : FollowerRecord). x.stamp) parts ∙ c.in_default.is in
    let some : c.args.follower.now.map.query.text ≢ [] = subst (λ (x : FollowerRecord). x.map.query.text ≢ []) c.follower.view_is
    (subst (λ (q : Query). q.text ≢ []) (sym c.follower.invariant) c.in_err-query.ensures.room) in
    let exit = err_from_is_err_and c.from_residual.result c.from_residual.ensures.1 in
    rw (exit.1, exit.2) (fails_unasked (g.S.StoreSeat.seat c.args.seat.now).pass c.args.follower.now lost some)

-- the question failed
pub returns-in_err-told-clause-fault : goal.returns-in_err-told-clause-fault
returns-in_err-told-clause-fault g c =
    let f = c.follower.inside in
    let next = next_subscribes c.args.follower.now f.sub f.stamp f.map (sym c.follower.view_is) c.in_ok-query.query c.in_default.is
    (c.in_ok-query.ensures.same ∙ sym c.follower.invariant) in
    let exit = err_from_is_err_and c.from_residual-in_err-told.result c.from_residual-in_err-told.ensures.1 in
    rw (exit.1, exit.2)
    (fails_asking (g.S.StoreSeat.seat c.args.seat.now).pass (g.S.StoreSeat.seat c.subscribe.new.self).pass c.args.follower.now
    (subscribe_anew f.sub c.in_ok-query.query) c.in_err-told.field-0.0 next c.in_err-told.ensures.fault)

pub returns-in_err-items-clause-fault : goal.returns-in_err-items-clause-fault
returns-in_err-items-clause-fault g c =
    let f = c.follower.inside in
    let next = next_checks c.args.follower.now f.sub f.stamp f.map (sym c.follower.view_is) c.in-Some.stamp c.in-Some.is in
    let exit = err_from_is_err_and c.from_residual-in_err-items.result c.from_residual-in_err-items.ensures.1 in
    rw (exit.1, exit.2)
    (fails_asking (g.S.StoreSeat.seat c.args.seat.now).pass (g.S.StoreSeat.seat c.check.new.self).pass c.args.follower.now
    (Check f.sub most_items) c.in_err-items.field-0.0 next c.in_err-items.ensures.fault)

pub returns-in_default-clause-keeps : goal.returns-in_default-clause-keeps
returns-in_default-clause-keeps g c =
    let f = c.follower.inside in
    let told = c.in_ok-told.ensures.told in
    subscribe_stands (g.S.StoreSeat.seat c.args.seat.now).pass (g.S.StoreSeat.seat c.subscribe.new.self).pass f.sub f.map.query
    c.in_ok-query.query c.clear.new.self c.in_ok-told.told told.1 (Subscribed c.in_ok-told.told told.0)
    c.clear.ensures (c.in_ok-query.ensures.same ∙ sym c.follower.invariant) told.2 (told.0, refl)

pub unreachable-requires : goal.unreachable-requires
unreachable-requires g c =
    let f = c.follower.inside in
    let at = c.in_ok-items.field-0 in
    let parts : c.args.follower.now ≡ follower_of f.sub f.stamp f.map = sym c.follower.view_is in
    let stamped : c.args.follower.now.stamp ≡ Some c.in-Some.stamp = ap (λ (x : FollowerRecord). x.stamp) parts ∙ c.in-Some.is in
    c.in_default-fault.not-NoRoom
    (map_never_stops (g.S.StoreSeat.seat c.args.seat.now).pass (g.S.StoreSeat.seat c.check.new.self).pass c.args.follower.now f.sub f.stamp
    f.map c.take.new.self c.in-Some.stamp at.before at.after at.place at.items (Checked at.items at.before at.after)
    parts stamped c.requires c.in_ok-items.ensures.told refl c.if-before-stamp.false c.in-Err.stop c.held-is_map.ensures.map
    c.in-Err.ensures.joined c.in-Err.ensures.stopped)

pub returns-then-len-lt-MOST_ITEMS-clause-called : goal.returns-then-len-lt-MOST_ITEMS-clause-called
returns-then-len-lt-MOST_ITEMS-clause-called g c =
    let f = c.follower.inside in
    let at = c.in_ok-items.field-0 in
    let few : length at.items < 256 = omega (arith, c.len.ensures, c.if-len-lt-MOST_ITEMS.true) in
    let parts : c.args.follower.now ≡ follower_of f.sub f.stamp f.map = sym c.follower.view_is in
    let stamped : c.args.follower.now.stamp ≡ Some c.in-Some.stamp = ap (λ (x : FollowerRecord). x.stamp) parts ∙ c.in-Some.is in
    map_ends (g.S.StoreSeat.seat c.args.seat.now).pass (g.S.StoreSeat.seat c.check.new.self).pass c.args.follower.now f.sub f.stamp f.map
    c.take.new.self c.in-Some.stamp at.before at.after at.place at.items (Checked at.items at.before at.after)
    parts stamped c.requires c.in_ok-items.ensures.told refl c.if-before-stamp.false c.in_default-take.ensures.query
    c.in_default-take.ensures.joined few

pub returns-then-len-lt-MOST_ITEMS-clause-keeps : goal.returns-then-len-lt-MOST_ITEMS-clause-keeps
returns-then-len-lt-MOST_ITEMS-clause-keeps g c =
    let f = c.follower.inside in
    let at = c.in_ok-items.field-0 in
    let parts : c.args.follower.now ≡ follower_of f.sub f.stamp f.map = sym c.follower.view_is in
    let stamped : c.args.follower.now.stamp ≡ Some c.in-Some.stamp = ap (λ (x : FollowerRecord). x.stamp) parts ∙ c.in-Some.is in
    map_stands (g.S.StoreSeat.seat c.args.seat.now).pass (g.S.StoreSeat.seat c.check.new.self).pass c.args.follower.now f.sub f.stamp f.map
    c.take.new.self c.in-Some.stamp at.before at.after at.place at.items (Checked at.items at.before at.after)
    parts stamped c.requires c.in_ok-items.ensures.told refl c.if-before-stamp.false c.in_default-take.ensures.query
    c.in_default-take.ensures.joined

pub returns-clause-keeps : goal.returns-clause-keeps
returns-clause-keeps g c =
    let f = c.follower.inside in
    let at = c.in_ok-items.field-0 in
    let parts : c.args.follower.now ≡ follower_of f.sub f.stamp f.map = sym c.follower.view_is in
    let stamped : c.args.follower.now.stamp ≡ Some c.in-Some.stamp = ap (λ (x : FollowerRecord). x.stamp) parts ∙ c.in-Some.is in
    map_stands (g.S.StoreSeat.seat c.args.seat.now).pass (g.S.StoreSeat.seat c.check.new.self).pass c.args.follower.now f.sub f.stamp f.map
    c.take.new.self c.in-Some.stamp at.before at.after at.place at.items (Checked at.items at.before at.after)
    parts stamped c.requires c.in_ok-items.ensures.told refl c.if-before-stamp.false c.in_default-take.ensures.query
    c.in_default-take.ensures.joined

-- the map after each call
pub returns-in_err-query-clause-map : goal.returns-in_err-query-clause-map
returns-in_err-query-clause-map g c =
    let exit = err_from_is_err_and c.from_residual.result c.from_residual.ensures.1 in
    rw exit.1 (map_none (g.S.StoreSeat.seat c.args.seat.now).pass c.args.follower.now)

pub returns-in_err-told-clause-map : goal.returns-in_err-told-clause-map
returns-in_err-told-clause-map g c =
    let exit = err_from_is_err_and c.from_residual-in_err-told.result c.from_residual-in_err-told.ensures.1 in
    rw exit.1
    (map_failed (g.S.StoreSeat.seat c.args.seat.now).pass (g.S.StoreSeat.seat c.subscribe.new.self).pass c.args.follower.now
    (subscribe_anew c.follower.inside.sub c.in_ok-query.query) c.in_err-told.field-0.0 c.in_err-told.ensures.fault)

pub returns-in_err-items-clause-map : goal.returns-in_err-items-clause-map
returns-in_err-items-clause-map g c =
    let exit = err_from_is_err_and c.from_residual-in_err-items.result c.from_residual-in_err-items.ensures.1 in
    rw exit.1
    (map_failed (g.S.StoreSeat.seat c.args.seat.now).pass (g.S.StoreSeat.seat c.check.new.self).pass c.args.follower.now
    (Check c.follower.inside.sub most_items) c.in_err-items.field-0.0 c.in_err-items.ensures.fault)

pub returns-in_default-clause-leads : goal.returns-in_default-clause-leads
returns-in_default-clause-leads g c =
    let f = c.follower.inside in
    let told = c.in_ok-told.ensures.told in
    led_subscribed (g.S.StoreSeat.seat c.args.seat.now).pass (g.S.StoreSeat.seat c.subscribe.new.self).pass c.args.follower.now f.sub
    f.stamp f.map (subscribe_anew f.sub c.in_ok-query.query) told.1 (sym c.follower.view_is) c.clear.new.self c.in_ok-told.told told.0
    c.clear.ensures told.2

pub returns-then-before-stamp-clause-leads : goal.returns-then-before-stamp-clause-leads
returns-then-before-stamp-clause-leads g c =
    let f = c.follower.inside in
    let at = c.in_ok-items.field-0 in
    led_other (g.S.StoreSeat.seat c.args.seat.now).pass (g.S.StoreSeat.seat c.check.new.self).pass c.args.follower.now f.sub f.stamp
    f.map (Check f.sub most_items) at.place (sym c.follower.view_is) at.items c.in-Some.stamp at.before at.after c.in-Some.is
    c.in_ok-items.ensures.told c.if-before-stamp.true

pub returns-in-Err-clause-map : goal.returns-in-Err-clause-map
returns-in-Err-clause-map g c =
    let f = c.follower.inside in
    let at = c.in_ok-items.field-0 in
    map_stopped (g.S.StoreSeat.seat c.args.seat.now).pass (g.S.StoreSeat.seat c.check.new.self).pass c.args.follower.now f.sub f.stamp
    f.map (Check f.sub most_items) at.place (sym c.follower.view_is) at.items c.in-Some.stamp at.before at.after c.in-Some.is
    c.in_ok-items.ensures.told c.if-before-stamp.false (follower_of f.sub f.stamp c.take.new.self) c.take.new.self c.in-Err.stop.done
    c.in-Err.ensures.joined c.in-Err.ensures.query refl

pub returns-then-len-lt-MOST_ITEMS-clause-leads : goal.returns-then-len-lt-MOST_ITEMS-clause-leads
returns-then-len-lt-MOST_ITEMS-clause-leads g c =
    let f = c.follower.inside in
    let at = c.in_ok-items.field-0 in
    led_whole (g.S.StoreSeat.seat c.args.seat.now).pass (g.S.StoreSeat.seat c.check.new.self).pass c.args.follower.now f.sub f.stamp
    f.map (Check f.sub most_items) at.place (sym c.follower.view_is) at.items c.in-Some.stamp at.before at.after c.in-Some.is
    c.in_ok-items.ensures.told c.if-before-stamp.false c.take.new.self c.in_default-take.ensures.joined c.in_default-take.ensures.query

pub returns-clause-leads : goal.returns-clause-leads
returns-clause-leads g c =
    let f = c.follower.inside in
    let at = c.in_ok-items.field-0 in
    led_whole (g.S.StoreSeat.seat c.args.seat.now).pass (g.S.StoreSeat.seat c.check.new.self).pass c.args.follower.now f.sub f.stamp
    f.map (Check f.sub most_items) at.place (sym c.follower.view_is) at.items c.in-Some.stamp at.before at.after c.in-Some.is
    c.in_ok-items.ensures.told c.if-before-stamp.false c.take.new.self c.in_default-take.ensures.joined c.in_default-take.ensures.query
