-- What a journal keeps of a feed.
use Rattle.std.specs.Prelude.{◌≡◌, ℕ, ◌-◌, ◌<◌, ◌≤◌, List, None, length, drop}
use Rattle.ds_entry.specs.declared.item.Item.{Item}
use Rattle.ds_feed.specs.declared.cursor.Cursor.{Cursor}
use Rattle.ds_feed.specs.declared.journal.OpenFault.{OpenFault}
use Rattle.ds_feed.specs.declared.journal.OpenFault.TheVariants.{BadRing, BadFirst, NoRoom}
use Rattle.ds_feed.specs.Feed.{Feed, position, from}
use Rattle.ds_feed.specs.Since.{fault_at}
use Rattle.ds_names.specs.Limits.{last_place}

-- The contents of a journal.
pub record Kept : Type 0 where
  -- The last items that took effect, oldest first.
  pub items : List Item
  pub first : ℕ
  -- The position of the next item.
  pub position : ℕ
  pub ring : ℕ
  pub incarnation : ℕ

-- The last `n` of the items, or all.
abbrev pub last_items : ℕ → List Item → List Item
last_items n items = drop (length items - n) items

-- Whether the journal has the last items of this feed, at the right position.
pub record Keeps (j : Kept) (f : Feed) : Type 0 where
  pub items : j.items ≡ last_items f.ring f.accepted
  pub first : j.first ≡ f.first
  pub position : j.position ≡ position f
  pub ring : j.ring ≡ f.ring
  pub incarnation : j.incarnation ≡ f.incarnation

-- Whether a ring of this size is allowed, 1 to 4096 items.
pub record IsRing (ring : ℕ) : Type 0 where
  pub some : 0 < ring
  pub limit : ring ≤ 4096

-- The invariant of every journal: it keeps the last items of some feed, within the limits.
pub record IsJournal (j : Kept) : Type 0 where
  pub feed : (f : Feed) × Keeps j f
  pub ring : IsRing j.ring
  pub limit : j.position ≤ last_place

-- The cursor after the last item.
abbrev pub cursor_of : Kept → Cursor
cursor_of j = record { incarnation = j.incarnation; position = j.position }

-- Whether the fault is the first that applies: the ring is judged, then the first position. Memory runs out only if both
-- are right.
abbrev pub IsJournalFault : OpenFault → ℕ → ℕ → Type 0
IsJournalFault BadRing first ring = ¬ IsRing ring
IsJournalFault BadFirst first ring = IsRing ring × (last_place < first)
IsJournalFault NoRoom first ring = IsRing ring × (first ≤ last_place)

-- Whether the cursor isn't refused, and the feed's items after it are those in the journal from this index on.
abbrev pub IsStart : Kept → Feed → Cursor → ℕ → Type 0
IsStart j f at i = (fault_at f at ≡ None) × (drop i j.items ≡ from f at.position)
