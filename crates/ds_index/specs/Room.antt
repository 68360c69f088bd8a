-- Where an element can be put in a list without an allocation, by the list's length and capacity.
use Rattle.std.specs.Prelude.{ℕ, ◌<◌, ◌≤◌, Result, MatchResult, ⊤}

-- Whether the place has an element, or the list has capacity for one more.
abbrev pub FitsAt : Result ℕ ℕ → ℕ → ℕ → Type 0
FitsAt place len capacity = MatchResult place (λ i. i < len) (λ i. (i ≤ len) × (len < capacity))

-- Whether the place has an element, or the capacity is above the length.
abbrev pub HasRoomAt : Result ℕ ℕ → ℕ → ℕ → Type 0
HasRoomAt place len capacity = MatchResult place (λ i. ⊤) (λ i. len < capacity)
