-- Which subscriptions are owed an item.
use Rattle.std.specs.Prelude.{Bool, List, [], ◌∷◌, map}
use Rattle.ds_entry.specs.declared.item.Item.{Item}
use Rattle.ds_watch.specs.Mask.{padded}
use Rattle.ds_machine.specs.State.{State}
use Rattle.ds_machine.specs.Subscription.{is_owed}

-- The flags of a whole mask: the subscriptions whose query the item is under, or all of them for a floor.
abbrev pub owed_flags : State → Item → List Bool
owed_flags s i = padded (map (is_owed (i ∷ [])) s.subscriptions)
