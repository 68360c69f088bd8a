-- The digest of what a log says up to an entry, from that of what a bridge holds: a sum over keys of the hashes of their items.
use Rattle.std.specs.Prelude.{◌≡◌, ℕ, ◌+◌, max, Bool, false, List, [], ◌∷◌, filter}

-- The digest of what some keys have.
abbrev pub digest : {I : Type 0} → (I → ℕ) → (ℕ → I) → List ℕ → ℕ
digest hash content [] = 0
digest hash content (k ∷ ks) = hash (content k) + digest hash content ks

-- A law: a bridge holds what the log says, except at keys of which a change of its own waits to be read in the log. Then the log's digest
-- is that of what it holds, less what it holds at these keys, plus what the log says at them. So it has to keep, for each of these
-- keys, what the log says there.
abbrev pub DigestsFollow : Type 0 → Type 0
DigestsFollow I =
    (hash : I → ℕ) (held logged : ℕ → I) (waits : ℕ → Bool) (keys : List ℕ) → ((k : ℕ) → waits k ≡ false → held k ≡ logged k) →
    digest hash logged keys + digest hash held (filter waits keys) ≡ digest hash held keys + digest hash logged (filter waits keys)

-- What happens at one key. Its item is its version.
pub data Arrival : Type 0 where
  Changes : ℕ → Arrival  -- a change of the bridge's own, which waits
  Reads : ℕ → Arrival  -- a change of another one, in the log

abbrev pub holds_after : ℕ → List Arrival → ℕ
holds_after n [] = n
holds_after n (Changes v ∷ arrivals) = holds_after (max n v) arrivals
holds_after n (Reads v ∷ arrivals) = holds_after (max n v) arrivals

abbrev pub says_after : ℕ → List Arrival → ℕ
says_after n [] = n
says_after n (Changes v ∷ arrivals) = says_after n arrivals
says_after n (Reads v ∷ arrivals) = says_after (max n v) arrivals

-- What the bridge's own changes put, and what they replaced.
abbrev pub put_by : ℕ → List Arrival → ℕ
put_by n [] = 0
put_by n (Changes v ∷ arrivals) = max n v + put_by (max n v) arrivals
put_by n (Reads v ∷ arrivals) = put_by (max n v) arrivals

abbrev pub replaced_by : ℕ → List Arrival → ℕ
replaced_by n [] = 0
replaced_by n (Changes v ∷ arrivals) = n + replaced_by (max n v) arrivals
replaced_by n (Reads v ∷ arrivals) = replaced_by (max n v) arrivals

-- A law: it isn't enough to take one's own changes back. The log says 1, the bridge's own 2 waits, and another one's 3 is read before it:
-- the log says 3, the bridge holds 3, and 3 less 2 plus 1 is 2.
abbrev pub OwnChangesAreNotEnough : Type 0
OwnChangesAreNotEnough =
    (n : ℕ) × (arrivals : List Arrival) × (says_after n arrivals + put_by n arrivals ≡ holds_after n arrivals + replaced_by n arrivals → ⊥)
