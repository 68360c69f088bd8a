-- Subscriptions, and all that each was shown.
use Rattle.std.specs.Prelude.{ℕ, Bool, false, ◌&&◌, not, List, Option, None, Some}
use Rattle.std.specs.List.{list_any}
use Rattle.ds_entry.specs.ItemCovers.{covers}
use Rattle.ds_entry.specs.declared.item.Item.{Item}
use Rattle.ds_pattern.specs.declared.query.Query.{Query}
use Rattle.ds_pattern.specs.Under.{is_under}
use Rattle.ds_entry.specs.Item.{passes}

-- A subscriber's query, the stamp of its last Subscribe or Check, and every item it was shown.
pub record Subscription : Type 0 where
  pub query : Query
  pub stamp : ℕ
  pub shown : List Item

-- Whether the item is under the query and nothing shown covers it.
abbrev pub is_unseen : Query → List Item → Item → Bool
is_unseen query shown i = passes (is_under query) i && not (list_any (λ j. covers j i) shown)

-- Whether the subscription is owed one of the items: a change whose key is under its query, or any floor.
abbrev pub is_owed : List Item → Option Subscription → Bool
is_owed items None = false
is_owed items (Some sub) = list_any (passes (is_under sub.query)) items
