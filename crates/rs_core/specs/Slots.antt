-- Process slots: which are free, and which is taken next.
use Rattle.std.specs.Prelude.{ℕ, ◌+◌, List, [], ◌∷◌, refl}
use Rattle.std.specs.Coded.{Coded, code_by, coded×, coded_ℕ, coded_list}

-- The slots of RS: the slot with key 0, the freed keys with the last one first, and how many keys were ever taken, all
-- below that number.
pub record SlotsRecord : Type 0 where
  pub first : ℕ
  pub freed : List ℕ
  pub taken : ℕ

-- The record of these parts.
abbrev pub slots_from : ℕ → List ℕ → ℕ → SlotsRecord
slots_from first freed taken = record { first = first; freed = freed; taken = taken }

-- The slots of which none was taken.
abbrev pub new_slots : ℕ → SlotsRecord
new_slots first = slots_from first [] 0

-- The code of slots: the tuple of their parts.
abbrev pub slots_code : Coded SlotsRecord
slots_code =
    code_by (ℕ × (List ℕ × ℕ)) (coded× coded_ℕ (coded× (coded_list coded_ℕ) coded_ℕ)) (λ s. (s.first, (s.freed, s.taken)))
    (λ p. slots_from p.0 p.1.0 p.1.1) (λ _. refl)

-- The key that is taken next: the last one freed, or else the first never taken.
abbrev pub next_of : List ℕ → ℕ → ℕ
next_of [] taken = taken
next_of (key ∷ freed) taken = key

abbrev pub next_key : SlotsRecord → ℕ
next_key s = next_of s.freed s.taken

-- The slots after that key was taken.
abbrev pub next_taken : ℕ → List ℕ → ℕ → SlotsRecord
next_taken first [] taken = slots_from first [] (taken + 1)
next_taken first (key ∷ freed) taken = slots_from first freed taken

abbrev pub with_next_taken : SlotsRecord → SlotsRecord
with_next_taken s = next_taken s.first s.freed s.taken

-- The slots after the key was freed.
abbrev pub with_freed : SlotsRecord → ℕ → SlotsRecord
with_freed s key = slots_from s.first (key ∷ s.freed) s.taken
