-- A server: one log of items, and a snapshot of its front.
use Rattle.std.specs.Prelude.{ℕ, ◌≤◌, Bool, List, length, take}
use Rattle.fleet_rule.specs.Covered.{Covers}

-- A server's state. A position counts items: that of an item is the number of items added before it in this history.
pub record Server (I : Type 0) : Type 0 where
  pub history : ℕ  -- its number: a server that lost something has a greater one
  pub log : List I  -- all items ever added in this history, in order
  pub trimmed : ℕ  -- the log's first items, which can't be read
  pub end : ℕ  -- the log's first items, which the snapshot represents
  pub snapshot : List I
  pub replicated : ℕ  -- the log's first items, which the replicas have: as many replicas as are waited for

module _ {I : Type 0} (covers : I → I → Bool) where
  -- Whether the snapshot, and the log from its end on, are readable and represent the log.
  pub record IsServer (s : Server I) : Type 0 where
    pub trimmed : s.trimmed ≤ s.end
    pub end : s.end ≤ length s.log
    pub replicated : s.replicated ≤ length s.log
    pub whole : Covers covers s.snapshot (take s.end s.log)
    pub nothing_else : Covers covers s.log s.snapshot
