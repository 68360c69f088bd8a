-- Snapshots and pages of what is held.
use Rattle.std.specs.Prelude.{ℕ, Bool, true, false, not, nat_le, List, ◌++◌, length, take, filter, Option, Some, None}
use Rattle.std.specs.Ordering.{is_lt}
use Rattle.ds_names.specs.declared.key.Key.{Key}
use Rattle.ds_names.specs.Key.{key_cmp}
use Rattle.ds_entry.specs.declared.item.Item.{Item}
use Rattle.ds_feed.specs.declared.cursor.Cursor.{Cursor}
use Rattle.ds_feed.specs.declared.reading.Snapshot.{Snapshot}
use Rattle.ds_feed.specs.declared.reading.Page.{Page}
use Rattle.ds_entry.specs.declared.item.Item.TheVariants.{Change as Changed, Floor as Floored}

abbrev pub is_floor : Item → Bool
is_floor (Changed c) = false
is_floor (Floored f) = true

-- Whether the item belongs after this key. A change does if its key is greater. A floor belongs only on the first page,
-- which comes after no key.
abbrev pub is_after_key : Option Key → Item → Bool
is_after_key None i = true
is_after_key (Some after) (Changed c) = is_lt (key_cmp after c.key)
is_after_key (Some after) (Floored f) = false

-- A snapshot: everything held that passes the test, and the cursor at that time.
abbrev pub snapshot_of : (Item → Bool) → List Item → Cursor → Snapshot
snapshot_of test held cursor = record { items = filter test held; cursor = cursor }

-- The items that the page after the key and all later pages return.
abbrev pub still_to_come : (Item → Bool) → Option Key → List Item → List Item
still_to_come test after held = filter (is_after_key after) (filter test held)

abbrev pub floors_of : List Item → List Item
floors_of items = filter is_floor items

abbrev pub changes_of : List Item → List Item
changes_of items = filter (λ i. not (is_floor i)) items

-- The page after a key: its floors, if any, then the first `max` changes. It is the last page if no change is left.
abbrev pub page_of : (Item → Bool) → Option Key → ℕ → List Item → Cursor → Page
page_of test after max held cursor = record {
  items = floors_of (still_to_come test after held) ++ take max (changes_of (still_to_come test after held));
  last = nat_le (length (changes_of (still_to_come test after held))) max;
  cursor = cursor;
}
