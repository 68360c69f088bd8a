use Rattle.std.proofs.Common.{List, [], ◌∷◌, Result, Ok, Err, refl, subst}
use Rattle.ds_held.specs.Held.{held_items}
use Rattle.driver_tables.specs.declared.fault.TableFault.{TableFault}
use Rattle.driver_tables.specs.declared.moves.Move.{Move}
use Rattle.driver_tables.specs.Run.{one_move}
use Rattle.rs_to_store.specs.Submitting.{FollowedAndTaken}
use Rattle.c_store.proofs.moves.LastMoves.submit.Goals as goal

pub returns-in-Ok : goal.returns-in-Ok
returns-in-Ok g c =
    let held = held_items c.args.map.now.held in
    let old = g.T.Drivers.kept c.args.table.now in
    let new = g.T.Drivers.kept c.follow_and_submit.new.table in
    let rounds = c.follow_and_submit.new.rounds.items in (
      rounds,
      Ok (c.in-Ok.step ∷ []),
      subst (λ (l : List (List Move)). FollowedAndTaken held c.args.id c.args.unit old new l rounds (Ok (c.in-Ok.step ∷ [])))
          c.clear.ensures.items
          (subst (λ (r : Result Move TableFault).
          FollowedAndTaken held c.args.id c.args.unit old new c.clear.new.self.items rounds (one_move r)) c.in-Ok.is
          c.follow_and_submit.ensures),
      refl,
      refl,
    )

pub returns-in-Err : goal.returns-in-Err
returns-in-Err g c =
    let held = held_items c.args.map.now.held in
    let old = g.T.Drivers.kept c.args.table.now in
    let new = g.T.Drivers.kept c.follow_and_submit.new.table in
    let rounds = c.follow_and_submit.new.rounds.items in (
      rounds,
      Err c.in-Err.fault,
      subst (λ (l : List (List Move)). FollowedAndTaken held c.args.id c.args.unit old new l rounds (Err c.in-Err.fault))
          c.clear.ensures.items
          (subst (λ (r : Result Move TableFault).
          FollowedAndTaken held c.args.id c.args.unit old new c.clear.new.self.items rounds (one_move r)) c.in-Err.is
          c.follow_and_submit.ensures),
      refl,
      refl,
    )
