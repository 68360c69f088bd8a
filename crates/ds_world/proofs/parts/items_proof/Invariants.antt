use Rattle.std.proofs.Common.{All, take}
use Rattle.ds_entry.specs.Item.{IsItem}
use Rattle.ds_world.proofs.parts.items_proof.Given as goal

-- those that were read are changes and floors
abbrev pub invariant-loop-item : goal.invariant-loop-item
invariant-loop-item l = All IsItem (take l.item-index l.items)
