-- A law of pages.
use Rattle.std.specs.Prelude.{◌≤◌, Bool, List, ◌∷◌, ◌++◌, None}
use Rattle.ds_names.specs.declared.key.Key.{Key}
use Rattle.ds_feed.specs.Feed.{Feed}
use Rattle.ds_replica.specs.Under.{KeepsQuery}
use Rattle.ds_replica.specs.Whole.{IsWhole}
use Rattle.ds_replica.specs.Journaled.{SinceTurn, AreSince, since_items, cursor_after}
use Rattle.ds_replica.specs.Paged.{PageTurn, ArePages, page_items, last_cursor}

-- A law: the items of all pages, with those that the journal returns from the first page's cursor on, are whole up to the
-- last returned cursor, if that isn't before the last page's. Anything may take effect between the pages.
--
-- Pages and journal may have two scopes, if both include the query, and may be read at any times of the incarnation.
abbrev pub PagesAreWhole : Type 0
PagesAreWhole =
    (f : Feed) (scope other query : Key → Bool) (first : PageTurn) (pages : List PageTurn) (turns : List SinceTurn) →
    KeepsQuery scope query → KeepsQuery other query →
    let from = first.page.cursor in
    let to = cursor_after first.page.cursor turns in
    ArePages f scope None 0 (first ∷ pages) → AreSince f other from turns → (last_cursor from pages).position ≤ to.position →
    IsWhole f query (page_items (first ∷ pages) ++ since_items turns) to.position
