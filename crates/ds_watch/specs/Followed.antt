-- Subscriptions as a store's definitions have them, whatever the store keeps.
use Rattle.std.specs.Prelude.{ℕ, Bool, false, List, Option, None, Some, map}
use Rattle.ds_names.specs.declared.key.Key.{Key}
use Rattle.ds_pattern.specs.declared.query.Query.{Query}
use Rattle.ds_pattern.specs.Under.{is_under}

-- A subscription, with a flag for each held item, floors first and then changes in the order of keys. A flag is true if
-- the subscription hasn't been shown the item.
pub record Followed : Type 0 where
  pub query : Query
  pub stamp : ℕ
  pub unseen : List Bool

-- Whether there is a subscription, and the key is under its query.
abbrev pub owes : Key → Option Followed → Bool
owes key None = false
owes key (Some f) = is_under f.query key

-- A flag for each place: whether its subscription is owed a change of the key.
abbrev pub owed_for : Key → List (Option Followed) → List Bool
owed_for key subscriptions = map (owes key) subscriptions
