use Rattle.std.proofs.Common.{Result, List, sym, subst}
use Rattle.ds_held.specs.Held.{held_items}
use Rattle.driver_tables.specs.declared.fault.TableFault.{TableFault}
use Rattle.driver_tables.specs.declared.moves.Move.{Move}
use Rattle.rs_to_store.specs.Submitting.{FollowedAndTaken}
use Rattle.script_services.proofs.following.submits.Goals as goal

pub returns : goal.returns
returns g c =
    let held = held_items c.args.map.now.held in
    let old = g.T.Drivers.kept c.args.table.now in
    let new = g.T.Drivers.kept c.follow_and_submit.new.table in
    let after = c.follow_and_submit.new.rounds.items in
    subst (λ (own : Result (List Move) TableFault). FollowedAndTaken held c.args.id c.args.unit old new c.args.rounds.now.items after own)
    (sym c.own_move.ensures) c.follow_and_submit.ensures
