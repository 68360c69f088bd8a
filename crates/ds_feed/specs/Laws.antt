-- Laws of what is read from a cursor on, and in pages.
use Rattle.std.specs.Prelude.{◌≡◌, ℕ, ◌+◌, ◌<◌, ◌⊎◌, Bool, List, [], ◌∷◌, ◌++◌, length, take, drop, filter, Option, Some}
use Rattle.std.specs.List.Sorted.{IsStrictlySortedBy}
use Rattle.ds_names.specs.declared.key.Key.{Key}
use Rattle.ds_entry.specs.Change.{ChangeRecord}
use Rattle.ds_entry.specs.Item.{item_cmp}
use Rattle.ds_entry.specs.declared.item.Item.{Item}
use Rattle.ds_entry.specs.declared.item.Item.TheVariants.{Change as Changed}
use Rattle.ds_feed.specs.declared.cursor.Cursor.{Cursor}
use Rattle.ds_feed.specs.Since.{prefix}
use Rattle.ds_feed.specs.Page.{still_to_come, changes_of, page_of}

-- Whether the part is the prefix of the items that ends with the `max`-th that passes the test, or all items.
pub record IsShortest (test : Item → Bool) (max : ℕ) (items part : List Item) : Type 0 where
  pub front : part ≡ take (length part) items
  pub full_or_all : (length (filter test part) ≡ max) ⊎ (part ≡ items)
  pub shortest : (n : ℕ) → n < length part → length (filter test (take n items)) < max

-- A law: `prefix` is the shortest prefix with `max` items that pass the test, or all items.
abbrev pub PrefixIsShortest : Type 0
PrefixIsShortest = (test : Item → Bool) (max : ℕ) (items : List Item) → IsShortest test max items (prefix test max items)

-- A law: a request for `m` items, and one for `n` after those, together return what one request for `m + n` returns.
abbrev pub PrefixesJoin : Type 0
PrefixesJoin =
    (test : Item → Bool) (m n : ℕ) (items : List Item) →
    prefix test (m + n) items ≡ prefix test m items ++ prefix test n (drop (length (prefix test m items)) items)

-- A law: the pages after the last change of a page have exactly the items that the page left out. Nothing is missing
-- between two pages, and nothing is returned twice.
abbrev pub PagesGoOn : Type 0
PagesGoOn =
    (test : Item → Bool) (after : Option Key) (max : ℕ) (held : List Item) (cursor : Cursor) (front : List Item) (c : ChangeRecord) →
    IsStrictlySortedBy item_cmp held →
    (page_of test after max held cursor).items ≡ front ++ Changed c ∷ [] →
    still_to_come test (Some c.key) held ≡ drop max (changes_of (still_to_come test after held))
