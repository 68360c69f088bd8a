use Rattle.std.proofs.Common.{Ok, sym}
use Rattle.std.proofs.lemmas.Cmp.{nat_list_cmp_total}
use Rattle.std.proofs.lemmas.Map.Lookups.{exact_bytes}
use Rattle.ds_names.specs.Key.{name_cmp}
use Rattle.ds_held.specs.Kept.{owned, IsFloorPlace}
use Rattle.ds_held.proofs.PlaceLemmas.{get_there, get_none}
use Rattle.ds_held.proofs.floors.floor_at.Goals as goal

pub returns-in-Ok : goal.returns-in-Ok
returns-in-Ok c =
    let here : IsFloorPlace c.args.floors.now c.args.owner.now (Ok c.in-Ok.i) = c.in-Ok.ensures in
    sym (get_there name_cmp nat_list_cmp_total exact_bytes owned c.args.floors.now c.args.owner.now c.in-Ok.i c.index-floors-i.result
    c.requires here)

pub returns-in-Err : goal.returns-in-Err
returns-in-Err c = sym (get_none name_cmp nat_list_cmp_total exact_bytes owned c.args.floors.now c.args.owner.now c.in-Err.field-0
    c.in-Err.ensures)
