-- The pages that a store returned.
use Rattle.std.specs.Prelude.{◌≡◌, ℕ, ◌≤◌, Bool, List, [], ◌∷◌, ◌++◌, Option, Some, MatchBool}
use Rattle.ds_names.specs.declared.key.Key.{Key}
use Rattle.ds_entry.specs.Item.{passes}
use Rattle.ds_entry.specs.declared.item.Item.{Item}
use Rattle.ds_entry.specs.declared.item.Item.TheVariants.{Change as Changed, Floor as Floored}
use Rattle.ds_join.specs.ItemTop.{IsTop, IsPartOf}
use Rattle.ds_feed.specs.declared.cursor.Cursor.{Cursor}
use Rattle.ds_feed.specs.declared.reading.Page.{Page}
use Rattle.ds_feed.specs.Feed.{Feed}
use Rattle.ds_feed.specs.Page.{page_of}
use Rattle.ds_replica.specs.Sent.{Sent, given}
use Rattle.ds_replica.specs.Front.{IsFront, end_of}

-- A page: the store at that time, what it knew and held, the most changes that it may return, and the page.
pub record PageTurn : Type 0 where
  pub feed : Feed
  pub known : List Item
  pub held : List Item
  pub max : ℕ
  pub page : Page

-- Whether this is the page after this key, at the store that is `f` now.
pub record IsPageTurn (f : Feed) (scope : Key → Bool) (after : Option Key) (t : PageTurn) : Type 0 where
  pub front : IsFront t.feed f
  pub knows : IsPartOf t.feed.accepted t.known
  pub top : IsTop t.held t.feed.accepted
  pub given : t.page ≡ page_of (passes scope) after t.max t.held (end_of t.feed)

-- The key of the last change among the items, or else `after`.
abbrev pub last_key : Option Key → List Item → Option Key
last_key after [] = after
last_key after (Changed c ∷ items) = last_key (Some c.key) items
last_key after (Floored f ∷ items) = last_key after items

-- Whether these are all pages in order: each comes after the last key returned, at the same time as the one before it or
-- later.
abbrev pub ArePages : Feed → (Key → Bool) → Option Key → ℕ → List PageTurn → Type 0
ArePages f scope after p [] = ⊥
ArePages f scope after p (t ∷ ts) =
    IsPageTurn f scope after t × (p ≤ t.page.cursor.position) ×
    MatchBool t.page.last (ts ≡ []) (ArePages f scope (last_key after t.page.items) t.page.cursor.position ts)

-- The items of all pages.
abbrev pub page_items : List PageTurn → List Sent
page_items [] = []
page_items (t ∷ ts) = given t.known t.page.items ++ page_items ts

-- The cursor of the last page.
abbrev pub last_cursor : Cursor → List PageTurn → Cursor
last_cursor at [] = at
last_cursor at (t ∷ ts) = last_cursor t.page.cursor ts
