use Rattle.std.proofs.Common.{All, subst, arith}
use Rattle.std.proofs.lemmas.List.{take_all}
use Rattle.std.proofs.lemmas.List.Elements.{All-more}
use Rattle.ds_entry.specs.Item.{IsItem}
use Rattle.ds_world.proofs.parts.items_proof.Goals as goal

pub loop-item-preserved : goal.loop-item-preserved
loop-item-preserved c =
    let item = c.item-item.result in
    All-more IsItem c.args.items.now c.loop-item.item-index item c.loop-item-test.true c.loop-item.invariant
    (subst IsItem c.item-item.is c.item_proof.ensures)

pub returns : goal.returns
returns c =
    subst (All IsItem) (take_all c.loop-item.item-index c.args.items.now (omega (arith, c.loop-item-test.false))) c.loop-item.invariant
