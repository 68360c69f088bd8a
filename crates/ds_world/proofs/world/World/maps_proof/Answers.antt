use Rattle.std.proofs.Common.{subst, All}
use Rattle.ds_submap.specs.Map.{IsMap}
use Rattle.ds_world.specs.World.{WorldRecord}
use Rattle.ds_world.proofs.world.World.maps_proof.Goals as goal

pub returns : goal.returns
returns c = subst (λ (v : WorldRecord). All IsMap v.maps) c.self.view_is c.self.invariant.0
