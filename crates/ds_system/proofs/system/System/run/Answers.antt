use Rattle.std.proofs.Common.{subst, All}
use Rattle.ds_submap.specs.Map.{IsMap}
use Rattle.ds_system.specs.Stands.{SystemRecord}
use Rattle.ds_system.proofs.RunLemmas.{laws_hold}
use Rattle.ds_system.proofs.system.System.run.Goals as goal

pub returns-clause-laws : goal.returns-clause-laws
returns-clause-laws c =
    let says = c.answers_say.ensures in
    let maps = subst (λ (v : SystemRecord). All IsMap v.world.maps) c.self-2.view_is c.map-map.ensures.maps in
    laws_hold says.snapped says.paged says.journaled c.args.self.now c.happen_all-outcomes.new.self c.args.events
    c.happen_all-outcomes.result c.happen_all-outcomes.ensures.done maps
