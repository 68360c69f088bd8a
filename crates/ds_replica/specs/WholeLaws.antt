-- The laws of wholeness.
use Rattle.std.specs.Prelude.{ℕ, ◌≤◌, Bool, List, ◌++◌, Contains}
use Rattle.ds_names.specs.declared.key.Key.{Key}
use Rattle.ds_entry.specs.Item.{passes}
use Rattle.ds_entry.specs.declared.item.Item.{Item}
use Rattle.ds_join.specs.ItemTop.{IsTop, IsPartOf}
use Rattle.ds_feed.specs.declared.cursor.Cursor.{Cursor}
use Rattle.ds_feed.specs.declared.reading.Since.{Since}
use Rattle.ds_feed.specs.Feed.{Feed, position, accepts}
use Rattle.ds_feed.specs.Since.{IsGiven}
use Rattle.ds_feed.specs.Page.{snapshot_of}
use Rattle.ds_replica.specs.Under.{KeepsQuery}
use Rattle.ds_replica.specs.Sent.{Sent, given}
use Rattle.ds_replica.specs.Front.{IsFront, end_of}
use Rattle.ds_replica.specs.Whole.{IsWhole}
use Rattle.ds_replica.specs.Journaled.{SinceTurn, AreSince, since_items, cursor_after}

-- A law: the items of a snapshot are whole up to its cursor, if its scope includes the query.
abbrev pub SnapshotIsWhole : Type 0
SnapshotIsWhole =
    (f : Feed) (known held : List Item) (scope query : Key → Bool) → IsTop held f.accepted → IsPartOf f.accepted known →
    KeepsQuery scope query → let taken = snapshot_of (passes scope) held (end_of f) in
    IsWhole f query (given known taken.items) taken.cursor.position

-- A law: items that are whole up to a cursor, with those that the journal returns from there, are whole up to the returned
-- cursor, if the journal's scope includes the query.
abbrev pub SinceExtends : Type 0
SinceExtends =
    (f : Feed) (known : List Item) (scope query : Key → Bool) (items : List Sent) (at : Cursor) (max : ℕ) (since : Since) →
    IsPartOf f.accepted known → KeepsQuery scope query → IsGiven f (passes scope) at max since →
    IsWhole f query items at.position → IsWhole f query (items ++ given known since.items) since.cursor.position

-- A law: like `SinceExtends`, for any number of replies. Anything may take effect between them.
abbrev pub SincesExtend : Type 0
SincesExtend =
    (f : Feed) (scope query : Key → Bool) (items : List Sent) (at : Cursor) (turns : List SinceTurn) → KeepsQuery scope query →
    AreSince f scope at turns →
    IsWhole f query items at.position → IsWhole f query (items ++ since_items turns) (cursor_after at turns).position

-- A law: any items, even none, are whole up to the first position.
abbrev pub NothingIsWhole : Type 0
NothingIsWhole = (f : Feed) (query : Key → Bool) (items : List Sent) (r : ℕ) → r ≤ f.first → IsWhole f query items r

-- A law: items stay whole if more are added, in any order and with any repeats.
abbrev pub MoreIsWhole : Type 0
MoreIsWhole =
    (f : Feed) (query : Key → Bool) (items more : List Sent) (r : ℕ) → ((s : Sent) → Contains items s → Contains more s) →
    IsWhole f query items r → IsWhole f query more r

-- A law: items that are whole up to a position are whole up to each earlier one.
abbrev pub EarlierIsWhole : Type 0
EarlierIsWhole = (f : Feed) (query : Key → Bool) (items : List Sent) (p r : ℕ) → p ≤ r → IsWhole f query items r → IsWhole f query items p

-- A law: items that are whole for a query are whole for each narrower one.
abbrev pub NarrowerIsWhole : Type 0
NarrowerIsWhole =
    (f : Feed) (query narrow : Key → Bool) (items : List Sent) (r : ℕ) → KeepsQuery query narrow → IsWhole f query items r →
    IsWhole f narrow items r

-- A law: whole items stay whole, whatever takes effect later.
abbrev pub WholeStays : Type 0
WholeStays =
    (f late : Feed) (query : Key → Bool) (items : List Sent) (r : ℕ) → IsFront f late → r ≤ position f → IsWhole f query items r →
    IsWhole late query items r

-- A law: a feed with one more item is the feed at a later time. This relation is reflexive and transitive.
pub record FeedsGrow : Type 0 where
  pub one_more : (f : Feed) (i : Item) → IsFront f (accepts f i)
  pub same : (f : Feed) → IsFront f f
  pub later : (f g h : Feed) → IsFront f g → IsFront g h → IsFront f h
