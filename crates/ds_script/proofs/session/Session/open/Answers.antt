use Rattle.std.proofs.Common.{subst, refl}
use Rattle.ds_held.specs.Limits.{larger}
use Rattle.ds_replica.specs.declared.seed.Seed.{Seed}
use Rattle.ds_replica.specs.World.{new_world}
use Rattle.ds_world.specs.World.{WorldStands}
use Rattle.ds_script.specs.Session.{seed}
use Rattle.ds_script.proofs.session.Session.open.Goals as goal

pub returns-in-Ok : goal.returns-in-Ok
returns-in-Ok c =
    let world = c.in-Ok.world in
    record {
      opened = record {
        world = subst (λ (a : Seed). WorldStands world (new_world a (seed 2 c.args.ring) larger)) c.seed.ensures
            (subst (λ (b : Seed). WorldStands world (new_world c.seed.result b larger)) c.seed-2.ensures c.in-Ok.ensures.made);
        side = refl;
        servers = c.new-in-Ok.ensures;
      };
    }
