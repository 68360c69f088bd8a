-- Borrowed items of a message.
use Rattle.std.specs.Prelude.{ℕ, List, Option}
use Rattle.ds_entry.specs.declared.item.Item.{Item}
use Rattle.ds_packed.specs.First.{AreFirstItems}
use Rattle.ds_replica.specs.Happens.{count_of}
use Rattle.ds_replica.specs.declared.lent.Lent.{Lent}
use Rattle.ds_replica.specs.declared.lent.Lent.TheVariants.{Whole, Packed}

-- The items themselves.
abbrev pub items_lent : Lent → List Item
items_lent (Whole items) = items.now
items_lent (Packed items) = items

-- The first `count` items, or all.
abbrev pub AreFirstLent : Option ℕ → Lent → Lent → Type 0
AreFirstLent count items first = AreFirstItems (count_of count (items_lent items)) (items_lent items) (items_lent first)
