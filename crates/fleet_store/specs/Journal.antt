-- What a store's journal returns of the items that took effect.
use Rattle.std.specs.Prelude.{◌≢◌, ℕ, ◌+◌, ◌<◌, ◌≤◌, List, [], min, length, take}
use Rattle.ds_entry.specs.declared.item.Item.{Item}
use Rattle.ds_feed.specs.Feed.{Feed, position, from}
use Rattle.ds_feed.specs.Since.{beyond}
use Rattle.ds_feed.specs.declared.reading.Since.{Since}
use Rattle.ds_machine.specs.declared.refusal.Refusal.{Refusal}
use Rattle.ds_machine.specs.declared.refusal.Refusal.TheVariants.{Ahead, Behind, NoRoom}

-- The items that took effect from the position on, at most 256.
abbrev pub news_from : Feed → ℕ → List Item
news_from f at = take 256 (from f at)

-- These items, and the cursor after them.
abbrev pub news_after : Feed → ℕ → Since
news_after f at = record {
  items = news_from f at;
  cursor = beyond (record { incarnation = f.incarnation; position = at }) (length (news_from f at));
}

-- Whether the journal has all items from the position on.
abbrev pub IsInJournal : Feed → ℕ → Type 0
IsInJournal f at = (at ≤ position f) × (position f ≤ at + min f.ring (length f.accepted))

-- Whether the refusal is the first that applies to a position. Memory runs out only if no other does, and there is an item.
abbrev pub IsNewsRefusal : Feed → ℕ → Refusal → Type 0
IsNewsRefusal f at Ahead = position f < at
IsNewsRefusal f at Behind = (at ≤ position f) × (at + min f.ring (length f.accepted) < position f)
IsNewsRefusal f at NoRoom = IsInJournal f at × (news_from f at ≢ [])
IsNewsRefusal f at _ = ⊥
