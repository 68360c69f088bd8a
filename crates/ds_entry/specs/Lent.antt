-- Borrowed items.
use Rattle.ds_entry.specs.declared.item.Item.{Item}
use Rattle.ds_entry.specs.declared.item.Item.TheVariants.{Change as Changed, Floor as Floored}
use Rattle.ds_entry.specs.declared.item.ItemRef.{ItemRef}
use Rattle.ds_entry.specs.declared.item.ItemRef.TheVariants as lent

-- The item that the reference borrows.
abbrev pub item_lent : ItemRef → Item
item_lent (lent.Change c) = Changed c.now
item_lent (lent.Floor f) = Floored f.now
