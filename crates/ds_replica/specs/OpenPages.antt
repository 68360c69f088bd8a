-- The pages that a store returned so far, before the last one.
use Rattle.std.specs.Prelude.{◌≡◌, ℕ, ◌≤◌, Bool, false, List, [], ◌∷◌, Option, Some, None}
use Rattle.ds_names.specs.declared.key.Key.{Key}
use Rattle.ds_feed.specs.declared.cursor.Cursor.{Cursor}
use Rattle.ds_feed.specs.Feed.{Feed}
use Rattle.ds_replica.specs.Paged.{PageTurn, IsPageTurn, last_key}

-- Whether these are pages in order before the last one: each comes after the last key returned, at the same time as the one
-- before it or later, and isn't the last page.
abbrev pub AreOpenPages : Feed → (Key → Bool) → Option Key → ℕ → List PageTurn → Type 0
AreOpenPages f scope after p [] = Unit {0}
AreOpenPages f scope after p (t ∷ ts) =
    IsPageTurn f scope after t × (p ≤ t.page.cursor.position) × (t.page.last ≡ false) ×
    AreOpenPages f scope (last_key after t.page.items) t.page.cursor.position ts

-- The key of the last change that the pages returned, or else `after`.
abbrev pub key_after : Option Key → List PageTurn → Option Key
key_after after [] = after
key_after after (t ∷ ts) = key_after (last_key after t.page.items) ts

-- The position of the last page, or else `p`.
abbrev pub position_after : ℕ → List PageTurn → ℕ
position_after p [] = p
position_after p (t ∷ ts) = position_after t.page.cursor.position ts

-- The cursor of the first page.
abbrev pub first_cursor : List PageTurn → Option Cursor
first_cursor [] = None
first_cursor (t ∷ ts) = Some t.page.cursor
