-- The answers of a feed to a cursor.
use Rattle.std.specs.Prelude.{◌≡◌, ℕ, zero, suc, ◌+◌, ◌==◌, min, nat_lt, Bool, not, cond, List, [], ◌∷◌, length, filter, Option, Some, None}
use Rattle.ds_entry.specs.declared.item.Item.{Item}
use Rattle.ds_feed.specs.declared.cursor.Cursor.{Cursor}
use Rattle.ds_feed.specs.declared.journal.SinceFault.{SinceFault}
use Rattle.ds_feed.specs.declared.journal.SinceFault.TheVariants.{OldCursor, Ahead, Behind, NoRoom}
use Rattle.ds_feed.specs.declared.reading.Since.{Since}
use Rattle.ds_feed.specs.Feed.{Feed, position, from}

-- The shortest prefix with `max` items that pass the test, or all items.
abbrev pub prefix : (Item → Bool) → ℕ → List Item → List Item
prefix test zero items = []
prefix test (suc max) [] = []
prefix test (suc max) (i ∷ items) = i ∷ prefix test (cond (test i) max (suc max)) items

-- Why a cursor is refused, if it is. The last `kept` items before the position can be read.
abbrev pub place_fault : ℕ → ℕ → ℕ → Cursor → Option SinceFault
place_fault incarnation position kept at =
    cond (not (at.incarnation == incarnation)) (Some OldCursor)
    (cond (nat_lt position at.position) (Some Ahead)
    (cond (nat_lt (at.position + kept) position) (Some Behind) None))

-- Why a feed refuses a cursor, if it does. The items of the ring can be read, or all of them if they are fewer.
abbrev pub fault_at : Feed → Cursor → Option SinceFault
fault_at f at = place_fault f.incarnation (position f) (min f.ring (length f.accepted)) at

-- The items looked at from the cursor on, for a request of at most `max` items.
abbrev pub piece : Feed → (Item → Bool) → Cursor → ℕ → List Item
piece f test at max = prefix test max (from f at.position)

-- The cursor `n` items further on.
abbrev pub beyond : Cursor → ℕ → Cursor
beyond at n = record { incarnation = at.incarnation; position = at.position + n }

-- The answer: those of the items looked at that pass the test, and the cursor after the last item looked at.
abbrev pub since_of : Feed → (Item → Bool) → Cursor → ℕ → Since
since_of f test at max = record { items = filter test (piece f test at max); cursor = beyond at (length (piece f test at max)) }

-- Whether the cursor isn't refused, and this is the answer.
pub record IsGiven (f : Feed) (test : Item → Bool) (at : Cursor) (max : ℕ) (since : Since) : Type 0 where
  pub reached : fault_at f at ≡ None
  pub given : since ≡ since_of f test at max

-- Whether the fault is the first that applies. NoRoom applies if no other does.
abbrev pub IsSinceRefused : Feed → Cursor → SinceFault → Type 0
IsSinceRefused f at NoRoom = fault_at f at ≡ None
IsSinceRefused f at fault = fault_at f at ≡ Some fault
