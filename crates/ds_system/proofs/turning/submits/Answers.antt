use Rattle.std.proofs.Common.{Option, subst}
use Rattle.driver_tables.specs.declared.fault.TableFault.{TableFault}
use Rattle.ds_replica.specs.declared.event.Holder.TheVariants.{Map}
use Rattle.rs_to_store.specs.Following.{HasFollowed}
use Rattle.ds_world.specs.World.{held_in}
use Rattle.ds_system.proofs.TurnLemmas.{submit_ended, submit_answered}
use Rattle.ds_system.proofs.turning.submits.Goals as goal

pub returns-in-Some : goal.returns-in-Some
returns-in-Some g c =
    let held = held_in c.args.world.now (Map c.args.map) in
    let old = g.T.Drivers.kept c.args.table.now in
    let new = g.T.Drivers.kept c.follows.new.table in
    submit_ended held c.args.id c.args.unit old new c.args.rounds.now.items c.follows.new.rounds.items c.in-Some.fault c.requires
    (subst (λ (o : Option TableFault). HasFollowed held old new c.args.rounds.now.items c.follows.new.rounds.items o) c.in-Some.is
    c.follows.ensures)

pub returns-in-None : goal.returns-in-None
returns-in-None g c =
    let held = held_in c.args.world.now (Map c.args.map) in
    let old = g.T.Drivers.kept c.args.table.now in
    let mid = g.T.Drivers.kept c.follows.new.table in
    submit_answered held c.args.id c.args.unit old mid (g.T.Drivers.kept c.submit.new.self) c.args.rounds.now.items
    c.follows.new.rounds.items c.submit.result c.requires
    (subst (λ (o : Option TableFault). HasFollowed held old mid c.args.rounds.now.items c.follows.new.rounds.items o) c.in-None.is
    c.follows.ensures)
    c.submit.ensures.answer c.submit.ensures.room c.submit.ensures.after c.submit.ensures.unchanged
