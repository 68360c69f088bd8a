use Rattle.std.proofs.Common.{Some, None}
use Rattle.ds_held.proofs.ReadingLemmas.{floor_item_at, change_item_at}
use Rattle.ds_held.proofs.reading.item_at.Goals as goal

pub returns-then-index-floors : goal.returns-then-index-floors
returns-then-index-floors c =
    floor_item_at c.args.floors.now c.args.changes.now c.args.index c.index-floors-index.result c.if-index-floors.true
    c.index-floors-index.is

pub returns-in-Some : goal.returns-in-Some
returns-in-Some c =
    change_item_at c.args.floors.now c.args.changes.now c.args.index (Some c.in-Some.change.now) c.if-index-floors.false
    c.in-Some.ensures

pub returns-in-None : goal.returns-in-None
returns-in-None c =
    change_item_at c.args.floors.now c.args.changes.now c.args.index None c.if-index-floors.false c.in-None.ensures
