use Rattle.std.proofs.Common.{◌≡◌, Option, Some, None, sym, subst}
use Rattle.std.specs.List.{slice_get}
use Rattle.std.specs.Option.{option_copied, option_map}
use Rattle.rs_to_store.specs.Following.{HasFollowed}
use Rattle.ds_submap.specs.Map.{SubMapRecord}
use Rattle.ds_replica.specs.World.{map_held}
use Rattle.ds_world.specs.World.{map_state}
use Rattle.ds_system.proofs.TurnLemmas.{none_followed}
use Rattle.ds_system.proofs.turning.follows.Goals as goal

pub returns-in-Some : goal.returns-in-Some
returns-in-Some g c =
    let maps = c.args.world.now.maps in
    let old = g.T.Drivers.kept c.args.table.now in
    let new = g.T.Drivers.kept c.follow.new.table in
    let at : slice_get maps c.args.map ≡ Some c.in-Some.map.now =
    sym (subst (λ o. option_copied o ≡ slice_get maps c.args.map) c.in-Some.is c.map.ensures.is) in
    subst (λ (o : Option SubMapRecord). HasFollowed (map_held (option_map map_state o)) old new c.args.rounds.now.items
    c.follow.new.rounds.items c.follow.result) (sym at) c.follow.ensures

pub returns-in-None : goal.returns-in-None
returns-in-None g c =
    let maps = c.args.world.now.maps in
    let old = g.T.Drivers.kept c.args.table.now in
    let at : slice_get maps c.args.map ≡ None =
    sym (subst (λ o. option_copied o ≡ slice_get maps c.args.map) c.in-None.is c.map.ensures.is) in
    subst (λ (o : Option SubMapRecord). HasFollowed (map_held (option_map map_state o)) old old c.args.rounds.now.items
    c.args.rounds.now.items None) (sym at) (none_followed old c.args.rounds.now.items)
