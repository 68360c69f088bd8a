-- The state of the store's machine. It keeps every item that took effect.
use Rattle.std.specs.Prelude.{ℕ, ◌+◌, List, ◌++◌, map, filter, replicate, slice_set, slice_index_or, Option, None, Some}
use Rattle.ds_entry.specs.declared.item.Item.{Item}
use Rattle.ds_feed.specs.Feed as feeds
use Rattle.ds_feed.specs.Feed.{Feed}
use Rattle.ds_feed.specs.declared.cursor.Cursor.{Cursor}
use Rattle.ds_held.specs.Limits.{LimitsRecord}
use Rattle.ds_join.specs.ItemTop.{tops}
use Rattle.ds_pattern.specs.declared.query.Query.{Query}
use Rattle.ds_watch.specs.Mask.{mask}
use Rattle.ds_machine.specs.Subscription.{Subscription, is_unseen, is_owed}

pub record State : Type 0 where
  -- the accepted items in order, the first position, the ring's length, and the incarnation
  pub feed : Feed
  pub limits : LimitsRecord
  -- the last stamp taken
  pub stamp : ℕ
  -- a place for each subscription
  pub subscriptions : List (Option Subscription)

-- What is held: the greatest floor of each owner, then of each key the greatest change that isn't void.
abbrev pub held : State → List Item
held s = tops s.feed.accepted

-- The position that the next item gets.
abbrev pub next_position : State → ℕ
next_position s = feeds.position s.feed

-- The cursor after everything that took effect.
abbrev pub cursor : State → Cursor
cursor s = record { incarnation = s.feed.incarnation; position = next_position s }

-- The state after the items took effect, in order.
abbrev pub takes_effect : State → List Item → State
takes_effect s items = record s { feed = record s.feed { accepted = s.feed.accepted ++ items } }

-- What is still to be shown to the subscription: held and unseen, floors first, then changes in key order, tombstones
-- too.
abbrev pub unseen : State → Subscription → List Item
unseen s sub = filter (is_unseen sub.query sub.shown) (held s)

-- The subscription at the place, if there is one.
abbrev pub subscription_at : State → ℕ → Option Subscription
subscription_at s sub = slice_index_or s.subscriptions sub None

-- The state after the place got a subscription with this query and these items shown, and took the next stamp.
abbrev pub subscribes : State → ℕ → Query → List Item → State
subscribes s sub query shown = record s {
  stamp = s.stamp + 1;
  subscriptions = slice_set s.subscriptions sub (Some (record { query = query; stamp = s.stamp + 1; shown = shown }));
}

-- The mask of the subscriptions that are owed some of the items.
abbrev pub owed : State → List Item → ℕ
owed s items = mask (map (is_owed items) s.subscriptions)

-- The state of a store that was just opened.
abbrev pub opening : ℕ → ℕ → ℕ → LimitsRecord → State
opening incarnation first ring limits = record {
  feed = feeds.opening_feed incarnation first ring;
  limits = limits;
  stamp = first;
  subscriptions = replicate limits.subs None;
}
