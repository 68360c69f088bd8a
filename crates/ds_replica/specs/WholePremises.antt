-- The premises of the laws of wholeness. Without any one of them, a law is false.
use Rattle.std.specs.Prelude.{ℕ, ◌≤◌, Bool, List, ◌++◌}
use Rattle.ds_names.specs.declared.key.Key.{Key}
use Rattle.ds_entry.specs.Item.{passes}
use Rattle.ds_entry.specs.declared.item.Item.{Item}
use Rattle.ds_join.specs.ItemTop.{IsTop, IsPartOf}
use Rattle.ds_feed.specs.declared.cursor.Cursor.{Cursor}
use Rattle.ds_feed.specs.declared.reading.Since.{Since}
use Rattle.ds_feed.specs.Feed.{Feed, position}
use Rattle.ds_feed.specs.Since.{IsGiven}
use Rattle.ds_feed.specs.Page.{snapshot_of}
use Rattle.ds_replica.specs.Under.{KeepsQuery}
use Rattle.ds_replica.specs.Sent.{Sent, given}
use Rattle.ds_replica.specs.Front.{IsFront, end_of}
use Rattle.ds_replica.specs.Whole.{IsWhole}

-- The premises of a snapshot. It shows the top of what was accepted, the store knows all of that, and the scope includes
-- the query.
pub record SnapshotNeeds : Type 0 where
  pub top : ¬ ((f : Feed) (known held : List Item) (scope query : Key → Bool) → IsPartOf f.accepted known → KeepsQuery scope query →
      IsWhole f query (given known (snapshot_of (passes scope) held (end_of f)).items) (position f))
  pub knows : ¬ ((f : Feed) (known held : List Item) (scope query : Key → Bool) → IsTop held f.accepted → KeepsQuery scope query →
      IsWhole f query (given known (snapshot_of (passes scope) held (end_of f)).items) (position f))
  pub scope : ¬ ((f : Feed) (known held : List Item) (scope query : Key → Bool) → IsTop held f.accepted → IsPartOf f.accepted known →
      IsWhole f query (given known (snapshot_of (passes scope) held (end_of f)).items) (position f))

-- The premises of a reply of the journal. The store knows what it accepted, the scope includes the query, and the items
-- before are whole up to the cursor of the request.
pub record SinceNeeds : Type 0 where
  pub knows : ¬ ((f : Feed) (known : List Item) (scope query : Key → Bool) (items : List Sent) (at : Cursor) (max : ℕ) (since : Since) →
      KeepsQuery scope query → IsGiven f (passes scope) at max since →
      IsWhole f query items at.position → IsWhole f query (items ++ given known since.items) since.cursor.position)
  pub scope : ¬ ((f : Feed) (known : List Item) (scope query : Key → Bool) (items : List Sent) (at : Cursor) (max : ℕ) (since : Since) →
      IsPartOf f.accepted known → IsGiven f (passes scope) at max since →
      IsWhole f query items at.position → IsWhole f query (items ++ given known since.items) since.cursor.position)
  pub whole : ¬ ((f : Feed) (known : List Item) (scope query : Key → Bool) (items : List Sent) (at : Cursor) (max : ℕ) (since : Since) →
      IsPartOf f.accepted known → KeepsQuery scope query → IsGiven f (passes scope) at max since →
      IsWhole f query (items ++ given known since.items) since.cursor.position)

-- The limits of wholeness. It doesn't extend to other items, later positions, wider queries or other incarnations.
pub record WholeNeeds : Type 0 where
  pub first : ¬ ((f : Feed) (query : Key → Bool) (items : List Sent) (r : ℕ) → IsWhole f query items r)
  pub more : ¬ ((f : Feed) (query : Key → Bool) (items more : List Sent) (r : ℕ) → IsWhole f query items r → IsWhole f query more r)
  pub earlier : ¬ ((f : Feed) (query : Key → Bool) (items : List Sent) (p r : ℕ) → IsWhole f query items r → IsWhole f query items p)
  pub narrower : ¬ ((f : Feed) (query narrow : Key → Bool) (items : List Sent) (r : ℕ) → IsWhole f query items r → IsWhole f narrow items r)
  pub front : ¬ ((f late : Feed) (query : Key → Bool) (items : List Sent) (r : ℕ) → r ≤ position f → IsWhole f query items r →
      IsWhole late query items r)
  pub reached : ¬ ((f late : Feed) (query : Key → Bool) (items : List Sent) (r : ℕ) → IsFront f late → IsWhole f query items r →
      IsWhole late query items r)
