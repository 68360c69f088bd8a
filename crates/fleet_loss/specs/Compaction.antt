-- What the transaction of a compaction has to check itself, at a server that may be another one than at the last look.
use Rattle.std.specs.Prelude.{◌≡◌, ℕ, ◌+◌, ◌≤◌, ◌<◌, ◌==◌, Bool, true, false, ◌||◌, List, [], ◌∷◌, ◌++◌, length, take, drop}
use Rattle.std.specs.List.{list_any}
use Rattle.fleet_rule.specs.Covered.{Covers}
use Rattle.fleet_rule.specs.Server.{Server}
use Rattle.fleet_loss.specs.Stream.{Stream}

-- Whether the entry is in the stream, or the snapshot's last.
abbrev pub has_entry : Stream → ℕ → Bool
has_entry t p = (t.end == p) || list_any (λ id. id == p) t.entries

-- The last of the ids, or the number where there is none.
abbrev pub last_of : ℕ → List ℕ → ℕ
last_of n [] = n
last_of n (id ∷ ids) = last_of id ids

module _ {I : Type 0} where
  -- Whether the stream shows the server, whose entries have these ids. Here an entry has one item.
  pub record Shows (ids : List ℕ) (s : Server I) (t : Stream) : Type 0 where
    pub count : length ids ≡ length s.log
    pub entries : t.entries ≡ drop s.trimmed ids
    pub end : t.end ≡ last_of 0 (take s.end ids)

  -- Premise: an id names one entry. Two logs that have an entry of one id are the same up to it. Copies of a server have its ids, and
  -- the logs that continue them give other ones.
  pub record IdNamesOne (ids : List ℕ) (s : Server I) (others : List ℕ) (t : Server I) : Type 0 where
    pub alike : (p : ℕ) (front back other_front other_back : List ℕ) → ids ≡ front ++ p ∷ back → others ≡ other_front ++ p ∷ other_back →
        (length other_front ≡ length front) × (take (length other_front + 1) t.log ≡ take (length front + 1) s.log)

module _ {I : Type 0} (covers : I → I → Bool) where
  -- A law: if the transaction finds the last entry that the bridge read, the server's log is the one that was read, up to there. So
  -- the snapshot covers all entries that are trimmed, whatever the server lost since the last look.
  abbrev pub CompactionsTrimWhatWasRead : Type 0
  CompactionsTrimWhatWasRead =
      (s t : Server I) (ids others front back : List ℕ) (shown : Stream) (p : ℕ) (snapshot : List I) →
      Shows others t shown → IdNamesOne ids s others t → 0 < p → ids ≡ front ++ p ∷ back →
      Covers covers snapshot (take (length front + 1) s.log) → has_entry shown p ≡ true →
      Covers covers snapshot (take (length front + 1) t.log) ×
      ((other_front : List ℕ) × (other_back : List ℕ) × (others ≡ other_front ++ p ∷ other_back) × (length other_front ≡ length front))

  -- A law: it isn't enough to find that ids were given beyond the last one read. A stream that began anew with smaller ids then loses an
  -- entry that the bridge never read: the first, of id 2, when all up to 5 are trimmed.
  abbrev pub GeneratedIsNotEnough : Type 0
  GeneratedIsNotEnough =
      (i j : I) → (s : Server I) × (t : Server I) × (shown : Stream) × Shows (2 ∷ 6 ∷ []) t shown × IdNamesOne (5 ∷ []) s (2 ∷ 6 ∷ []) t ×
      (s.log ≡ i ∷ []) × (t.log ≡ j ∷ i ∷ []) × (5 ≤ shown.generated) × (has_entry shown 5 ≡ false)
