-- How slots, some of them empty, and the slot numbers in an order are one list.
use Rattle.std.specs.Prelude.{◌≡◌, ◌≢◌, ℕ, ◌+◌, ◌<◌, ◌≤◌, List, [], ◌∷◌, length, Option, Some, None, ⊤, ◌⊎◌, slice_index_or}
use Rattle.std.specs.List.{cons_option, insert}

module _ {T : Type 0} where
  -- The element in a slot, if the slot isn't empty.
  abbrev pub in_slot : List (Option T) → ℕ → Option T
  in_slot slots s = slice_index_or slots s None

  -- The elements in these slots.
  abbrev pub rows_of : List ℕ → List (Option T) → List T
  rows_of [] slots = []
  rows_of (s ∷ order) slots = cons_option (in_slot slots s) (rows_of order slots)

  -- Whether each of these slots has an element.
  abbrev pub AreFilled : List ℕ → List (Option T) → Type 0
  AreFilled [] slots = ⊤
  AreFilled (s ∷ order) slots = ((x : T) × (in_slot slots s ≡ Some x)) × AreFilled order slots

-- Whether each number is less than n.
abbrev pub AreBelow : ℕ → List ℕ → Type 0
AreBelow n [] = ⊤
AreBelow n (s ∷ numbers) = (s < n) × AreBelow n numbers

-- Whether the number isn't one of these.
abbrev pub IsLone : ℕ → List ℕ → Type 0
IsLone s [] = ⊤
IsLone s (t ∷ numbers) = (s ≢ t) × IsLone s numbers

-- Whether the number is one of these.
abbrev pub IsAmong : ℕ → List ℕ → Type 0
IsAmong s [] = ⊥
IsAmong s (t ∷ numbers) = (s ≡ t) ⊎ IsAmong s numbers

-- Whether the number of each slot with an element is in the order.
abbrev pub AreListed : {T : Type 0} → List ℕ → List (Option T) → Type 0
AreListed {T} order slots = (s : ℕ) (x : T) → in_slot slots s ≡ Some x → IsAmong s order

-- Whether no two numbers are equal.
abbrev pub AreNumbersApart : List ℕ → Type 0
AreNumbersApart [] = ⊤
AreNumbersApart (s ∷ numbers) = IsLone s numbers × AreNumbersApart numbers

-- Whether the spare numbers are apart from each other and from those in the order.
abbrev pub AreSpare : List ℕ → List ℕ → Type 0
AreSpare [] order = ⊤
AreSpare (s ∷ spare) order = IsLone s order × (IsLone s spare × AreSpare spare order)

-- The invariant of a list in slots: each slot is in the order, and has an element, or is spare. The list of the spare
-- slots has memory for them all.
pub record AreInSlots {T : Type 0} (order spare : List ℕ) (slots : List (Option T)) (capacity : ℕ) : Type 0 where
  pub filled : AreFilled order slots
  pub listed : AreListed order slots
  pub apart : AreNumbersApart order
  pub below : AreBelow (length slots) spare
  pub others : AreSpare spare order
  pub all : length order + length spare ≡ length slots
  pub room : length slots ≤ capacity

-- Whether the slot is neither in the order nor spare, and each other slot is one of the two.
pub record IsFreeSlot {T : Type 0} (order : List ℕ) (slot : ℕ) (spare : List ℕ) (slots : List (Option T)) (capacity : ℕ) : Type 0 where
  pub filled : AreFilled order slots
  pub listed : AreListed order slots
  pub apart : AreNumbersApart order
  pub lone : IsLone slot order
  pub within : slot < length slots
  pub below : AreBelow (length slots) spare
  pub others : (index : ℕ) → AreSpare spare (insert order index slot)
  pub all : length order + length spare + 1 ≡ length slots
  pub room : length slots ≤ capacity
