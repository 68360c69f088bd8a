-- What callers see of a store's content.
use Rattle.std.specs.Prelude.{ℕ, List, Option}
use Rattle.ds_entry.specs.declared.item.Item.{Item}
use Rattle.ds_feed.specs.Kept.{Kept}
use Rattle.ds_held.specs.Limits.{LimitsRecord}
use Rattle.ds_watch.specs.Followed.{Followed}

pub record ContentRecord : Type 0 where
  -- floors first, then changes in key order
  pub held : List Item
  -- the last items that took effect, and the position
  pub journal : Kept
  pub limits : LimitsRecord
  -- the last stamp taken
  pub stamp : ℕ
  -- for each place its subscription, with a flag for each held item in order: whether it is still to be shown
  pub subscriptions : List (Option Followed)
