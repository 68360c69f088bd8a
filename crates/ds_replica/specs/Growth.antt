-- How a store grows, as the laws of wholeness need it.
use Rattle.std.specs.Prelude.{List}
use Rattle.ds_entry.specs.declared.item.Item.{Item}
use Rattle.ds_replica.specs.Accepting.{AreNew}
use Rattle.ds_replica.specs.Front.{IsFront}
use Rattle.ds_machine.specs.State.{State}
use Rattle.ds_machine.specs.Effect.{AreNews, GoesOn}

-- A law: items that are each news at their turn are new.
abbrev pub NewsAreNew : Type 0
NewsAreNew = (accepted since : List Item) → AreNews accepted since → AreNew accepted since

-- A law: the feed of a later state is a later state of the earlier feed.
abbrev pub LaterIsFront : Type 0
LaterIsFront = (s t : State) → GoesOn s t → IsFront s.feed t.feed
