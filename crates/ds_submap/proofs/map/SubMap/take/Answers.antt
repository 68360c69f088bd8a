use Rattle.std.proofs.Common.{◌++◌, List, subst}
use Rattle.ds_entry.specs.declared.item.Item.{Item}
use Rattle.ds_held.specs.Held.{held_items}
use Rattle.ds_submap.specs.Take.{done_items}
use Rattle.ds_submap.specs.Floors.{EachFloorStands}
use Rattle.ds_submap.proofs.map.SubMap.take.Goals as goal

pub returns-clause-floors : goal.returns-clause-floors
returns-clause-floors c = subst (λ (l : List Item).
    EachFloorStands (held_items c.args.self.now.held ++ done_items c.take_slice.result l) (held_items c.take_slice.new.self.held))
    c.as_slice.ensures c.take_slice.ensures.floors
