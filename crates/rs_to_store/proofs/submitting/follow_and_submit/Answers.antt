use Rattle.std.proofs.Common.{Option, subst}
use Rattle.ds_held.specs.Held.{held_items}
use Rattle.driver_tables.specs.declared.fault.TableFault.{TableFault}
use Rattle.driver_tables.specs.Room.{RequestTakesMemory}
use Rattle.driver_tables.specs.Run.{one_move}
use Rattle.driver_tables.proofs.CallLemmas.{submit_step}
use Rattle.rs_to_store.specs.Following.{HasFollowed}
use Rattle.rs_to_store.proofs.SubmitLemmas.{ended_before, taken_after, one_lacks}
use Rattle.rs_to_store.proofs.submitting.follow_and_submit.Goals as goal

pub returns-in-Some : goal.returns-in-Some
returns-in-Some g c =
    let held = held_items c.args.map.now.held in
    let old = g.T.Drivers.kept c.args.table.now in
    let new = g.T.Drivers.kept c.follow.new.table in
    ended_before held c.args.id c.args.unit old new c.args.rounds.now.items c.follow.new.rounds.items c.in-Some.fault
    (subst (λ (o : Option TableFault). HasFollowed held old new c.args.rounds.now.items c.follow.new.rounds.items o) c.in-Some.is
    c.follow.ensures)

pub returns-in-None : goal.returns-in-None
returns-in-None g c =
    let held = held_items c.args.map.now.held in
    let old = g.T.Drivers.kept c.args.table.now in
    let mid = g.T.Drivers.kept c.follow.new.table in
    let new = g.T.Drivers.kept c.submit.new.self in
    let before = c.args.rounds.now.items in
    let after = c.follow.new.rounds.items in
    taken_after held c.args.id c.args.unit old mid new before after (one_move c.submit.result)
    (subst (λ (o : Option TableFault). HasFollowed held old mid before after o) c.in-None.is c.follow.ensures)
    (λ t stands. submit_step mid new t stands c.args.id c.args.unit c.submit.result c.submit.ensures.answer c.submit.ensures.after
    c.submit.ensures.unchanged)
    (λ t stands. one_lacks (RequestTakesMemory t c.args.id c.args.unit) c.submit.result (c.submit.ensures.room t stands))
