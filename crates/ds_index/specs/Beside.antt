-- Lists of marks beside changes in the order of their keys, and beside floors in the order of their owners' names.
use Rattle.std.specs.Prelude.{◌≡◌, ℕ, List, [], ◌∷◌, length}
use Rattle.std.specs.FinMap.{FinMap, from_entries}
use Rattle.ds_names.specs.declared.key.Key.{Key}
use Rattle.ds_names.specs.Key.{name_cmp, key_cmp}
use Rattle.ds_entry.specs.Change.{ChangeRecord}
use Rattle.ds_entry.specs.declared.floor.Floor.{Floor}
use Rattle.ds_held.specs.Held.{Holding, held_changes, held_floors, IsSound}
use Rattle.ds_index.specs.Marked.{MarkedHolding}

-- The key of each element, with the mark at the same index.
module _ {K X M : Type 0} (key : X → K) where
  abbrev pub marked_rows : List X → List M → List (K × M)
  marked_rows [] marks = []
  marked_rows (x ∷ xs) [] = []
  marked_rows (x ∷ xs) (m ∷ ms) = (key x, m) ∷ marked_rows xs ms

module _ {M : Type 0} where
  -- The key of each change, with the mark at the same index.
  abbrev pub marked_keys : List ChangeRecord → List M → List (Key × M)
  marked_keys changes marks = marked_rows (λ (c : ChangeRecord). c.key) changes marks

  -- The map from keys to marks.
  abbrev pub marks_beside : List ChangeRecord → List M → FinMap key_cmp M
  marks_beside changes marks = from_entries (marked_keys changes marks)

  -- The owner of each floor, with the mark at the same index.
  abbrev pub marked_owners : List Floor → List M → List (List ℕ × M)
  marked_owners floors marks = marked_rows (λ (f : Floor). f.owner) floors marks

  -- The map from owners to the marks of their floors.
  abbrev pub marks_beside_floors : List Floor → List M → FinMap name_cmp M
  marks_beside_floors floors marks = from_entries (marked_owners floors marks)

  -- The map from held keys to the marks beside their changes.
  abbrev pub marks_of : Holding → List M → FinMap key_cmp M
  marks_of held marks = marks_beside (held_changes held) marks

  -- The map from owners to the marks beside their floors.
  abbrev pub floor_marks_of : Holding → List M → FinMap name_cmp M
  floor_marks_of held marks = marks_beside_floors (held_floors held) marks

  -- What is held, with these marks beside its changes and floors.
  abbrev pub marked_by : Holding → List M → List M → MarkedHolding M
  marked_by held marks floor_marks = record { held = held; marks = marks_of held marks; floor_marks = floor_marks_of held floor_marks }

  -- Whether there is one mark for each held change.
  pub record IsBeside (held : Holding) (marks : List M) : Type 0 where
    pub sound : IsSound held
    pub each : length marks ≡ length (held_changes held)

  -- Whether there is one mark for each held floor.
  abbrev pub IsBesideFloors : Holding → List M → Type 0
  IsBesideFloors held marks = length marks ≡ length (held_floors held)
