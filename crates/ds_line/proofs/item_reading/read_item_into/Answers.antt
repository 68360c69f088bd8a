use Rattle.ds_line.proofs.ItemLemmas.{change_line}
use Rattle.ds_line.proofs.item_reading.read_item_into.Goals as goal

pub returns-in_default : goal.returns-in_default
returns-in_default c = change_line c.args.bytes.now c.change_into.result c.change_into.new.slot c.in_default.ensures.none
    c.change_into.ensures

pub floor_into-requires : goal.floor_into-requires
floor_into-requires c = (c.in-Some._after.now, c.in-Some.ensures.found)
