use Rattle.ds_system.proofs.BeginLemmas.{second_made}
use Rattle.ds_system.proofs.beginning.make_maps.Goals as goal

pub returns : goal.returns
returns c = second_made c.make_map-2.result c.args.world.now c.make_map.new.world c.make_map-2.new.world c.in_ok-make_map.ensures
    c.make_map-2.ensures
