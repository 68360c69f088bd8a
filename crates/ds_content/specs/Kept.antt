-- How a content's fields make its value.
use Rattle.std.specs.Prelude.{◌≡◌, ℕ, List, Bool, true, false, [], Option, length, map, slice_index_or, Contains}
use Rattle.std.specs.Option.{option_map_or}
use Rattle.ds_entry.specs.declared.item.Item.{Item}
use Rattle.ds_entry.specs.declared.item.Item.TheVariants.{Change as Changed, Floor as Floored}
use Rattle.ds_held.specs.Held.{held_items}
use Rattle.ds_index.specs.Marked.{MarkedHolding, mark_for, floor_mark_for}
use Rattle.ds_watch.specs.Mask.{padded}
use Rattle.ds_watch.specs.Watching.{Watching}
use Rattle.ds_watch.specs.declared.masks.Masks.{Masks}
use Rattle.ds_machine.specs.State.{State}
use Rattle.ds_content.specs.Content.{ContentRecord}
use Rattle.ds_content.specs.Followed.{watches_item, followed_from}
use Rattle.ds_content.specs.Stands.{ContentStands}
use Rattle.ds_content.specs.declared.content.Content.TheInside.{Inside}

-- The masks of an item.
abbrev pub masks_at : MarkedHolding Masks → Item → Option Masks
masks_at h (Changed c) = mark_for h c.key
masks_at h (Floored f) = floor_mark_for h f.owner

-- The flags of the subscriptions whose query the held item is under.
abbrev pub under_at : MarkedHolding Masks → Item → List Bool
under_at h i = option_map_or (λ (m : Masks). m.under) (masks_at h i) []

-- The flags of the subscriptions that the held item is still to be shown to.
abbrev pub unseen_at : MarkedHolding Masks → Item → List Bool
unseen_at h i = option_map_or (λ (m : Masks). m.unseen) (masks_at h i) []

abbrev pub content_of : Inside → ContentRecord
content_of s = record {
  held = held_items s.held.held;
  journal = s.journal;
  limits = s.held.held.limits;
  stamp = s.stamp;
  subscriptions = followed_from (held_items s.held.held) (unseen_at s.held) 0 s.subscriptions;
}

-- Each held item has the flags of the subscriptions whose query it is under, and 128 flags of those that it is to be
-- shown to.
pub record AreMarked (h : MarkedHolding Masks) (ws : List (Option Watching)) : Type 0 where
  pub under : (i : Item) → Contains (held_items h.held) i → under_at h i ≡ padded (map (watches_item i) ws)
  pub long : (i : Item) → Contains (held_items h.held) i → length (unseen_at h i) ≡ 128

-- The flags of 128 subscriptions, of which each one is set that a held item is still to be shown to.
pub record ArePending (h : MarkedHolding Masks) (pending : List Bool) : Type 0 where
  pub long : length pending ≡ 128
  pub each : (i : Item) (k : ℕ) → Contains (held_items h.held) i → slice_index_or (unseen_at h i) k false ≡ true
      → slice_index_or pending k false ≡ true

-- Each subscription has its place, held items are marked by these places, those that something is to be shown to are
-- pending, and the content stands for some state.
pub record IsContentSound (s : Inside) : Type 0 where
  pub places : length s.subscriptions ≡ s.held.held.limits.subs
  pub marked : AreMarked s.held s.subscriptions
  pub pending : ArePending s.held s.pending
  pub stood : (state : State) × ContentStands (content_of s) state
