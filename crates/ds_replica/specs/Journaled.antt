-- The requests to a store's journal, and their replies.
use Rattle.std.specs.Prelude.{ℕ, Bool, List, [], ◌∷◌, ◌++◌}
use Rattle.ds_names.specs.declared.key.Key.{Key}
use Rattle.ds_entry.specs.Item.{passes}
use Rattle.ds_entry.specs.declared.item.Item.{Item}
use Rattle.ds_join.specs.ItemTop.{IsPartOf}
use Rattle.ds_feed.specs.declared.cursor.Cursor.{Cursor}
use Rattle.ds_feed.specs.declared.reading.Since.{Since}
use Rattle.ds_feed.specs.Feed.{Feed}
use Rattle.ds_feed.specs.Since.{IsGiven}
use Rattle.ds_replica.specs.Sent.{Sent, given}
use Rattle.ds_replica.specs.Front.{IsFront}

-- A request to the journal and its reply: the store at that time, what it knew, the most items that it may return, and the
-- reply.
pub record SinceTurn : Type 0 where
  pub feed : Feed
  pub known : List Item
  pub max : ℕ
  pub since : Since

-- Whether the request was from this cursor on, at the store that is `f` now.
pub record IsSinceTurn (f : Feed) (scope : Key → Bool) (at : Cursor) (t : SinceTurn) : Type 0 where
  pub front : IsFront t.feed f
  pub knows : IsPartOf t.feed.accepted t.known
  pub given : IsGiven t.feed (passes scope) at t.max t.since

-- Whether each request was from the cursor that the reply before it returned.
abbrev pub AreSince : Feed → (Key → Bool) → Cursor → List SinceTurn → Type 0
AreSince f scope at [] = Unit {0}
AreSince f scope at (t ∷ ts) = IsSinceTurn f scope at t × AreSince f scope t.since.cursor ts

-- The items of all replies.
abbrev pub since_items : List SinceTurn → List Sent
since_items [] = []
since_items (t ∷ ts) = given t.known t.since.items ++ since_items ts

-- The cursor that the last reply returned.
abbrev pub cursor_after : Cursor → List SinceTurn → Cursor
cursor_after at [] = at
cursor_after at (t ∷ ts) = cursor_after t.since.cursor ts
