use Rattle.std.proofs.Common.{List, Option, Some, None, refl, subst}
use Rattle.driver_tables.specs.declared.moves.Move.{Move}
use Rattle.driver_tables.specs.declared.fault.TableFault.{TableFault}
use Rattle.ds_replica.specs.declared.event.Holder.TheVariants.{Map}
use Rattle.rs_to_store.specs.Following.{HasFollowed}
use Rattle.ds_world.specs.World.{held_in}
use Rattle.ds_system.proofs.turning.servers_follow.Goals as goal

pub returns-in-Some : goal.returns-in-Some
returns-in-Some c =
    let held = held_in c.args.world.now (Map 0) in
    let rounds = c.follows.new.rounds.items in (
      rounds,
      Some c.in-Some.fault,
      subst (λ (l : List (List Move)). HasFollowed held c.args.file.now c.follows.new.table l rounds (Some c.in-Some.fault)) c.requires
          (subst (λ (o : Option TableFault). HasFollowed held c.args.file.now c.follows.new.table c.args.rounds.now.items rounds o)
          c.in-Some.is c.follows.ensures),
      (refl, refl, refl),
    )

pub returns-in-None : goal.returns-in-None
returns-in-None c =
    let held = held_in c.args.world.now (Map 0) in
    let rounds = c.follows.new.rounds.items in (
      rounds,
      None,
      subst (λ (l : List (List Move)). HasFollowed held c.args.file.now c.follows.new.table l rounds None) c.requires
          (subst (λ (o : Option TableFault). HasFollowed held c.args.file.now c.follows.new.table c.args.rounds.now.items rounds o)
          c.in-None.is c.follows.ensures),
      c.follows-in-None.ensures,
    )
