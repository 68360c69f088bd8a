-- A stream as its server shows it, and what a server does with it that loses nothing. An entry's id is a number above 0.
use Rattle.std.specs.Prelude.{◌≡◌, ◌⊎◌, ℕ, ◌+◌, ◌-◌, ◌<◌, ◌≤◌, nat_lt, not, List, [], ◌∷◌, ◌++◌, length, filter, Contains}

pub record Stream : Type 0 where
  pub entries : List ℕ  -- the ids of the entries that it has, in order
  pub generated : ℕ  -- the last id that it gave
  pub end : ℕ  -- the id of the last entry that the snapshot represents; 0: none
  pub bytes : ℕ  -- the snapshot's size
  pub added : ℕ  -- the number of entries ever added
  pub trimmed : ℕ  -- the number of entries that compactions trimmed

-- The number of entries that left it otherwise.
abbrev pub missing : Stream → ℕ
missing s = s.added - (length s.entries + s.trimmed)

-- Whether the entry is in the stream, or represented by the snapshot.
abbrev pub IsRepresented : Stream → ℕ → Type 0
IsRepresented s id = Contains s.entries id ⊎ (id ≤ s.end)

pub data Deed : Type 0 where
  Adds : ℕ → Deed  -- an entry of this id
  Compacts : ℕ → ℕ → Deed  -- up to this id; the snapshot's size

abbrev pub stream_after : Stream → Deed → Stream
stream_after s (Adds id) = record s { entries = s.entries ++ id ∷ []; generated = id; added = s.added + 1 }
stream_after s (Compacts p bytes) =
    record s {
      entries = filter (λ id. nat_lt p id) s.entries;
      end = p;
      bytes = bytes;
      trimmed = s.trimmed + length (filter (λ id. not (nat_lt p id)) s.entries);
    }

-- Ids grow, and each compaction goes further than the one before.
abbrev pub MayDo : Stream → Deed → Type 0
MayDo s (Adds id) = s.generated < id
MayDo s (Compacts p bytes) = (s.end < p) × (p ≤ s.generated)

abbrev pub StreamDoes : Stream → Deed → Stream → Type 0
StreamDoes s d t = MayDo s d × (stream_after s d ≡ t)
