-- What a holder with marks holds: a mark of the caller's beside each change and each floor.
use Rattle.std.specs.Prelude.{◌≡◌, List, ℕ, Option, Some, None, is_some, length, slice_get, Result}
use Rattle.std.specs.FinMap.{FinMap, empty, get, insert}
use Rattle.ds_names.specs.declared.key.Key.{Key}
use Rattle.ds_names.specs.Key.{name_cmp, key_cmp}
use Rattle.ds_entry.specs.Change.{ChangeRecord}
use Rattle.ds_entry.specs.declared.floor.Floor.{Floor}
use Rattle.ds_held.specs.Limits.{LimitsRecord}
use Rattle.ds_held.specs.Held.{Holding, held_changes, held_floors, held_for, floor_for, nothing_held}
use Rattle.ds_held.specs.Kept.{IsPlace}

-- What is held, and the maps from held keys to marks and from owners to their floors' marks.
pub record MarkedHolding (M : Type 0) : Type 0 where
  pub held : Holding
  pub marks : FinMap key_cmp M
  pub floor_marks : FinMap name_cmp M

module _ {M : Type 0} where
  -- The mark of the key.
  abbrev pub mark_for : MarkedHolding M → Key → Option M
  mark_for h key = get h.marks key

  -- The mark of the owner's floor.
  abbrev pub floor_mark_for : MarkedHolding M → List ℕ → Option M
  floor_mark_for h owner = get h.floor_marks owner

  -- The holding of nothing.
  abbrev pub nothing_marked : LimitsRecord → MarkedHolding M
  nothing_marked limits = record { held = nothing_held limits; marks = empty; floor_marks = empty }

  -- Whether exactly the held keys have marks, and exactly the owners whose floors are held.
  pub record HasMarks (h : MarkedHolding M) : Type 0 where
    pub keys : (key : Key) → is_some (mark_for h key) ≡ is_some (held_for h.held key)
    pub owners : (owner : List ℕ) → is_some (floor_mark_for h owner) ≡ is_some (floor_for h.held owner)

  -- Whether the list is that of the changes' marks, in the order of the keys.
  pub record AreMarks (h : MarkedHolding M) (marks : List M) : Type 0 where
    pub each : length marks ≡ length (held_changes h.held)
    pub own : (k : ℕ) (c : ChangeRecord) → slice_get (held_changes h.held) k ≡ Some c → slice_get marks k ≡ mark_for h c.key

  -- Whether the list is that of the floors' marks, in the order of the owners' names.
  pub record AreFloorMarks (h : MarkedHolding M) (marks : List M) : Type 0 where
    pub each : length marks ≡ length (held_floors h.held)
    pub own : (k : ℕ) (f : Floor) → slice_get (held_floors h.held) k ≡ Some f → slice_get marks k ≡ floor_mark_for h f.owner

  -- The marks with another one for the change, if there is a change.
  abbrev pub remarked : FinMap key_cmp M → Option ChangeRecord → M → FinMap key_cmp M
  remarked old None mark = old
  remarked old (Some c) mark = insert old c.key mark

  -- The marks with another one for the floor, if there is a floor.
  abbrev pub floor_remarked : FinMap name_cmp M → Option Floor → M → FinMap name_cmp M
  floor_remarked old None mark = old
  floor_remarked old (Some f) mark = insert old f.owner mark

  -- The marks with another one for the change at the index, if there is one.
  abbrev pub remarked_at : MarkedHolding M → ℕ → M → FinMap key_cmp M
  remarked_at h index mark = remarked h.marks (slice_get (held_changes h.held) index) mark

  -- The marks with another one for the floor at the index, if there is one.
  abbrev pub floor_remarked_at : MarkedHolding M → ℕ → M → FinMap name_cmp M
  floor_remarked_at h index mark = floor_remarked h.floor_marks (slice_get (held_floors h.held) index) mark

  -- Whether what is found at the place of a key is the key's mark.
  abbrev pub IsMarkAt : MarkedHolding M → Result ℕ ℕ → Option M → Type 0
  IsMarkAt h place found = (key : Key) → IsPlace (held_changes h.held) key place → found ≡ mark_for h key
