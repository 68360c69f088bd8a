-- The growth of a reader's calls. They stay valid when the store accepts more, and can be extended by one. The store has
-- accepted all items that they returned. A store that knows more may return the same items.
use Rattle.std.specs.Prelude.{◌≡◌, ℕ, ◌<◌, ◌≤◌, Bool, true, false, List, [], ◌∷◌, ◌++◌, length, map, Option, None, Some}
use Rattle.std.specs.Option.{unwrap_or}
use Rattle.ds_names.specs.declared.key.Key.{Key}
use Rattle.ds_entry.specs.declared.item.Item.{Item}
use Rattle.ds_join.specs.ItemTop.{IsPartOf}
use Rattle.ds_feed.specs.declared.cursor.Cursor.{Cursor}
use Rattle.ds_feed.specs.declared.reading.Since.{Since}
use Rattle.ds_feed.specs.Feed.{Feed, position}
use Rattle.ds_feed.specs.Since.{IsGiven}
use Rattle.ds_replica.specs.Under.{KeepsQuery}
use Rattle.ds_replica.specs.Sent.{given}
use Rattle.ds_replica.specs.Front.{IsFront}
use Rattle.ds_replica.specs.Whole.{IsWhole}
use Rattle.ds_replica.specs.Accepting.{AreNew}
use Rattle.ds_replica.specs.Checked.{CheckTurn, IsCheckTurn, AreChecks, check_items}
use Rattle.ds_replica.specs.Journaled.{SinceTurn, IsSinceTurn, AreSince, since_items, cursor_after}
use Rattle.ds_replica.specs.Paged.{PageTurn, IsPageTurn, last_key, ArePages, page_items}
use Rattle.ds_replica.specs.OpenPages.{AreOpenPages, key_after, position_after, first_cursor}
use Rattle.ds_replica.specs.Gathered.{checked, journaled, paged}

-- The call at a store that knows all of `known`.
abbrev pub check_knowing : List Item → CheckTurn → CheckTurn
check_knowing known t = record t { known = known }

abbrev pub since_knowing : List Item → SinceTurn → SinceTurn
since_knowing known t = record t { known = known }

abbrev pub page_knowing : List Item → PageTurn → PageTurn
page_knowing known t = record t { known = known }

pub record ChecksGrow : Type 0 where
  pub later : (early f late : Feed) (query : Key → Bool) (shown : List Item) (turns : List CheckTurn) → IsFront f late →
      AreChecks early f query shown turns → AreChecks early late query shown turns
  pub one_more : (early f : Feed) (query : Key → Bool) (shown : List Item) (turns : List CheckTurn) (t : CheckTurn) →
      AreChecks early f query shown turns → IsCheckTurn early f query (shown ++ checked turns) t →
      AreChecks early f query shown (turns ++ t ∷ [])
  pub items_more : (turns : List CheckTurn) (t : CheckTurn) → checked (turns ++ t ∷ []) ≡ checked turns ++ t.items
  pub among : (early f : Feed) (query : Key → Bool) (shown : List Item) (turns : List CheckTurn) → AreChecks early f query shown turns →
      IsPartOf (checked turns) f.accepted
  pub knowing : (early f : Feed) (query : Key → Bool) (shown known : List Item) (turns : List CheckTurn) → IsPartOf f.accepted known →
      AreChecks early f query shown turns →
      AreChecks early f query shown (map (check_knowing known) turns)
  pub items_known : (known : List Item) (turns : List CheckTurn) →
      check_items (map (check_knowing known) turns) ≡ given known (checked turns)

pub record SincesGrow : Type 0 where
  pub later : (f late : Feed) (scope : Key → Bool) (at : Cursor) (turns : List SinceTurn) → IsFront f late → AreSince f scope at turns →
      AreSince late scope at turns
  pub one_more : (f : Feed) (scope : Key → Bool) (at : Cursor) (turns : List SinceTurn) (t : SinceTurn) → AreSince f scope at turns →
      IsSinceTurn f scope (cursor_after at turns) t → AreSince f scope at (turns ++ t ∷ [])
  pub items_more : (turns : List SinceTurn) (t : SinceTurn) → journaled (turns ++ t ∷ []) ≡ journaled turns ++ t.since.items
  pub cursor_more : (at : Cursor) (turns : List SinceTurn) (t : SinceTurn) → cursor_after at (turns ++ t ∷ []) ≡ t.since.cursor
  pub among : (f : Feed) (scope : Key → Bool) (at : Cursor) (turns : List SinceTurn) → AreSince f scope at turns →
      IsPartOf (journaled turns) f.accepted
  pub knowing : (f : Feed) (scope : Key → Bool) (at : Cursor) (known : List Item) (turns : List SinceTurn) → IsPartOf f.accepted known →
      AreSince f scope at turns → AreSince f scope at (map (since_knowing known) turns)
  pub items_known : (known : List Item) (turns : List SinceTurn) →
      since_items (map (since_knowing known) turns) ≡ given known (journaled turns)
  pub cursor_known : (at : Cursor) (known : List Item) (turns : List SinceTurn) →
      cursor_after at (map (since_knowing known) turns) ≡ cursor_after at turns

pub record PagesGrow : Type 0 where
  pub later : (f late : Feed) (scope : Key → Bool) (after : Option Key) (p : ℕ) (turns : List PageTurn) → IsFront f late →
      AreOpenPages f scope after p turns → AreOpenPages late scope after p turns
  pub one_more : (f : Feed) (scope : Key → Bool) (after : Option Key) (p : ℕ) (turns : List PageTurn) (t : PageTurn) →
      AreOpenPages f scope after p turns → IsPageTurn f scope (key_after after turns) t →
      position_after p turns ≤ t.page.cursor.position → t.page.last ≡ false → AreOpenPages f scope after p (turns ++ t ∷ [])
  pub last : (f : Feed) (scope : Key → Bool) (after : Option Key) (p : ℕ) (turns : List PageTurn) (t : PageTurn) →
      AreOpenPages f scope after p turns → IsPageTurn f scope (key_after after turns) t →
      position_after p turns ≤ t.page.cursor.position → t.page.last ≡ true → ArePages f scope after p (turns ++ t ∷ [])
  pub items_more : (turns : List PageTurn) (t : PageTurn) → paged (turns ++ t ∷ []) ≡ paged turns ++ t.page.items
  pub key_more : (after : Option Key) (turns : List PageTurn) (t : PageTurn) →
      key_after after (turns ++ t ∷ []) ≡ last_key (key_after after turns) t.page.items
  pub position_more : (p : ℕ) (turns : List PageTurn) (t : PageTurn) → position_after p (turns ++ t ∷ []) ≡ t.page.cursor.position
  pub first_more : (turns : List PageTurn) (t : PageTurn) →
      first_cursor (turns ++ t ∷ []) ≡ Some (unwrap_or (first_cursor turns) t.page.cursor)
  pub among : (f : Feed) (scope : Key → Bool) (after : Option Key) (p : ℕ) (turns : List PageTurn) → AreOpenPages f scope after p turns →
      IsPartOf (paged turns) f.accepted
  pub turn_among : (f : Feed) (scope : Key → Bool) (after : Option Key) (t : PageTurn) → IsPageTurn f scope after t →
      IsPartOf t.page.items f.accepted
  pub knowing : (f : Feed) (scope : Key → Bool) (after : Option Key) (p : ℕ) (known : List Item) (turns : List PageTurn) →
      IsPartOf f.accepted known → ArePages f scope after p turns →
      ArePages f scope after p (map (page_knowing known) turns)
  pub items_known : (known : List Item) (turns : List PageTurn) → page_items (map (page_knowing known) turns) ≡ given known (paged turns)

-- A law: a reply of the journal with fewer items than `max` reaches the store's position.
abbrev pub FewerReachTheEnd : Type 0
FewerReachTheEnd =
    (f : Feed) (test : Item → Bool) (at : Cursor) (max : ℕ) (since : Since) → IsGiven f test at max since → length since.items < max →
    since.cursor.position ≡ position f

-- A law: like `ChecksAreWhole`, for a store that knows everything that it accepted up to now.
abbrev pub CheckedIsWhole : Type 0
CheckedIsWhole =
    (early f : Feed) (query : Key → Bool) (since : List Item) (turns : List CheckTurn) (last : CheckTurn) →
    f.accepted ≡ early.accepted ++ since → AreNew early.accepted since →
    AreChecks early f query [] turns → IsCheckTurn early f query (checked turns) last → length last.items < last.max →
    IsWhole f query (given f.accepted (checked turns ++ last.items)) (position last.feed)

-- A law: like the law of pages, for a store that knows everything that it accepted up to now.
abbrev pub PagedIsWhole : Type 0
PagedIsWhole =
    (f : Feed) (scope other query : Key → Bool) (pages : List PageTurn) (last : PageTurn) (turns : List SinceTurn) →
    KeepsQuery scope query → KeepsQuery other query →
    AreOpenPages f scope None 0 pages → IsPageTurn f scope (key_after None pages) last →
    position_after 0 pages ≤ last.page.cursor.position → last.page.last ≡ true →
    let from = unwrap_or (first_cursor pages) last.page.cursor in
    let to = cursor_after from turns in
    AreSince f other from turns → last.page.cursor.position ≤ to.position →
    IsWhole f query (given f.accepted (paged pages ++ (last.page.items ++ journaled turns))) to.position
