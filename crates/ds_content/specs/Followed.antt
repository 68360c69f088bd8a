-- What callers see of a subscription, however it is kept.
use Rattle.std.specs.Prelude.{ℕ, suc, Bool, false, List, [], ◌∷◌, Option, None, Some, map, slice_index_or}
use Rattle.std.specs.Option.{option_map}
use Rattle.ds_entry.specs.declared.item.Item.{Item}
use Rattle.ds_watch.specs.Followed.{Followed}
use Rattle.ds_watch.specs.Watching.{Watching}
use Rattle.ds_machine.specs.Subscription.{Subscription, is_unseen}
use Rattle.ds_pattern.specs.Under.{is_under}
use Rattle.ds_entry.specs.Item.{passes}

-- The subscription with a flag for each held item: whether it is still to be shown.
abbrev pub followed_of : List Item → Subscription → Followed
followed_of held sub = record { query = sub.query; stamp = sub.stamp; unseen = map (is_unseen sub.query sub.shown) held }

-- Whether there is a subscription and the item is under its query.
abbrev pub watches_item : Item → Option Watching → Bool
watches_item i None = false
watches_item i (Some w) = passes (is_under w.query) i

-- ---- subscriptions as callers see them; `unseen` has, for each held item, the flags of those that it is to be shown
-- to

-- The subscription at the place.
abbrev pub followed_by : List Item → (Item → List Bool) → ℕ → Watching → Followed
followed_by held unseen place w = record {
  query = w.query;
  stamp = w.stamp;
  unseen = map (λ (i : Item). slice_index_or (unseen i) place false) held;
}

-- The subscriptions from this place on.
abbrev pub followed_from : List Item → (Item → List Bool) → ℕ → List (Option Watching) → List (Option Followed)
followed_from held unseen place [] = []
followed_from held unseen place (w ∷ ws) = option_map (followed_by held unseen place) w ∷ followed_from held unseen (suc place) ws
