-- The checks of a subscription, and their items.
use Rattle.std.specs.Prelude.{◌≡◌, ℕ, Bool, not, ◌&&◌, List, [], ◌∷◌, ◌++◌, take, filter}
use Rattle.std.specs.List.{list_any}
use Rattle.ds_names.specs.declared.key.Key.{Key}
use Rattle.ds_entry.specs.Item.{passes}
use Rattle.ds_entry.specs.ItemCovers.{covers}
use Rattle.ds_entry.specs.declared.item.Item.{Item}
use Rattle.ds_join.specs.ItemTop.{IsTop, IsPartOf}
use Rattle.ds_feed.specs.Feed.{Feed}
use Rattle.ds_replica.specs.Sent.{Sent, given}
use Rattle.ds_replica.specs.Front.{IsFront}

-- The held items that are under the query, and that no item that was shown covers.
abbrev pub unseen_by : (Key → Bool) → List Item → List Item → List Item
unseen_by query shown held = filter (λ i. passes query i && not (list_any (λ j. covers j i) shown)) held

-- A check: the store at that time, what it knew and held, the most items that it may return, and those that it returned.
pub record CheckTurn : Type 0 where
  pub feed : Feed
  pub known : List Item
  pub held : List Item
  pub max : ℕ
  pub items : List Item

-- Whether the check returned the first items of the store that were unseen after `shown`. The store was `early` or later
-- at the time, and is `f` now.
pub record IsCheckTurn (early f : Feed) (query : Key → Bool) (shown : List Item) (t : CheckTurn) : Type 0 where
  pub later : IsFront early t.feed
  pub front : IsFront t.feed f
  pub knows : IsPartOf t.feed.accepted t.known
  pub top : IsTop t.held t.feed.accepted
  pub given : t.items ≡ take t.max (unseen_by query shown t.held)

-- Whether these are checks in order. The items that a check returned count as shown from then on.
abbrev pub AreChecks : Feed → Feed → (Key → Bool) → List Item → List CheckTurn → Type 0
AreChecks early f query shown [] = Unit {0}
AreChecks early f query shown (t ∷ ts) = IsCheckTurn early f query shown t × AreChecks early f query (shown ++ t.items) ts

-- The items of all checks.
abbrev pub check_items : List CheckTurn → List Sent
check_items [] = []
check_items (t ∷ ts) = given t.known t.items ++ check_items ts
