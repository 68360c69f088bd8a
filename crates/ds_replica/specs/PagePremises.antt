-- The premises of the law of pages. The law is false without any one of them.
use Rattle.std.specs.Prelude.{◌≡◌, ◌≤◌, Bool, true, false, List, ◌∷◌, ◌++◌, Option, None}
use Rattle.ds_names.specs.declared.key.Key.{Key}
use Rattle.ds_feed.specs.Feed.{Feed}
use Rattle.ds_replica.specs.Under.{KeepsQuery}
use Rattle.ds_replica.specs.Sent.{given}
use Rattle.ds_replica.specs.Whole.{IsWhole}
use Rattle.ds_replica.specs.Journaled.{SinceTurn, AreSince, since_items, cursor_after}
use Rattle.ds_replica.specs.Paged.{PageTurn, IsPageTurn, last_key, ArePages, page_items, last_cursor}

pub record PagesNeed : Type 0 where
  -- The pages' scope includes the query.
  pub scope : ¬ ((f : Feed) (scope other query : Key → Bool) (first : PageTurn) (pages : List PageTurn) (turns : List SinceTurn) →
      KeepsQuery other query →
      ArePages f scope None 0 (first ∷ pages) → AreSince f other first.page.cursor turns →
      (last_cursor first.page.cursor pages).position ≤ (cursor_after first.page.cursor turns).position →
      IsWhole f query (page_items (first ∷ pages) ++ since_items turns) (cursor_after first.page.cursor turns).position)
  -- The journal's scope includes the query.
  pub other : ¬ ((f : Feed) (scope other query : Key → Bool) (first : PageTurn) (pages : List PageTurn) (turns : List SinceTurn) →
      KeepsQuery scope query →
      ArePages f scope None 0 (first ∷ pages) → AreSince f other first.page.cursor turns →
      (last_cursor first.page.cursor pages).position ≤ (cursor_after first.page.cursor turns).position →
      IsWhole f query (page_items (first ∷ pages) ++ since_items turns) (cursor_after first.page.cursor turns).position)
  -- The journal is read from the first page's cursor on. The last page's cursor isn't enough.
  pub from_first : ¬ ((f : Feed) (scope other query : Key → Bool) (first : PageTurn) (pages : List PageTurn) (turns : List SinceTurn) →
      KeepsQuery scope query → KeepsQuery other query →
      ArePages f scope None 0 (first ∷ pages) → AreSince f other (last_cursor first.page.cursor pages) turns →
      IsWhole f query (page_items (first ∷ pages) ++ since_items turns) (cursor_after (last_cursor first.page.cursor pages) turns).position)
  -- The journal is read up to the last page's cursor, since a floor between two pages may drop items of the second one.
  pub to_last : ¬ ((f : Feed) (scope other query : Key → Bool) (first : PageTurn) (pages : List PageTurn) (turns : List SinceTurn) →
      KeepsQuery scope query → KeepsQuery other query →
      ArePages f scope None 0 (first ∷ pages) → AreSince f other first.page.cursor turns →
      IsWhole f query (page_items (first ∷ pages) ++ since_items turns) (cursor_after first.page.cursor turns).position)
  -- The first page comes after no key.
  pub none_before : ¬ ((f : Feed) (scope other query : Key → Bool) (after : Option Key) (first : PageTurn) (pages : List PageTurn)
      (turns : List SinceTurn) → KeepsQuery scope query → KeepsQuery other query →
      ArePages f scope after 0 (first ∷ pages) → AreSince f other first.page.cursor turns →
      (last_cursor first.page.cursor pages).position ≤ (cursor_after first.page.cursor turns).position →
      IsWhole f query (page_items (first ∷ pages) ++ since_items turns) (cursor_after first.page.cursor turns).position)
  -- Pages are requested until the last one.
  pub until_last : ¬ ((f : Feed) (scope query : Key → Bool) (first : PageTurn) → KeepsQuery scope query → IsPageTurn f scope None first →
      IsWhole f query (given first.known first.page.items) first.page.cursor.position)
  -- No page is from an earlier time than the one before it.
  pub in_turn : ¬ ((f : Feed) (scope query : Key → Bool) (first second : PageTurn) → KeepsQuery scope query →
      IsPageTurn f scope None first → first.page.last ≡ false →
      IsPageTurn f scope (last_key None first.page.items) second → second.page.last ≡ true →
      second.page.cursor.position ≤ first.page.cursor.position →
      IsWhole f query (given first.known first.page.items ++ given second.known second.page.items) first.page.cursor.position)
  -- All pages are from one incarnation.
  pub front : ¬ ((f : Feed) (scope query : Key → Bool) (first second : PageTurn) → KeepsQuery scope query → IsPageTurn f scope None first →
      first.page.last ≡ false →
      IsPageTurn second.feed scope (last_key None first.page.items) second → second.page.last ≡ true →
      first.page.cursor.position ≤ second.page.cursor.position → second.page.cursor.position ≤ first.page.cursor.position →
      IsWhole f query (given first.known first.page.items ++ given second.known second.page.items) first.page.cursor.position)
