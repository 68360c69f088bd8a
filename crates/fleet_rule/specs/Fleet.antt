-- A fleet: one server, any number of hosts with a bridge each, and what is under way between them.
use Rattle.std.specs.Prelude.{ℕ, ◌==◌, List, Option, if◌then◌else◌}
use Rattle.fleet_rule.specs.Server.{Server}
use Rattle.fleet_rule.specs.Bridge.{Bridge, new_bridge}

-- The question or answer under way on the connection that asks. An option is the history that the bridge had met when it asked.
pub data Producer (I : Type 0) : Type 0 where
  Idle : Producer I
  Meeting : Producer I
  Adding : List I → Producer I
  Fetching : Producer I
  Compacting : Option ℕ → ℕ → List I → List I → Producer I  -- up to a position, to a snapshot, once these items are added
  Replicating : ℕ → ℕ → Producer I  -- added in this history, up to this position, and waiting for the replicas
  Met : ℕ → Producer I  -- an answer, from here on: the history
  Acknowledged : ℕ → Producer I  -- added in this history, and replicated
  Fetched : ℕ → List I → Producer I  -- the snapshot's end, and the snapshot

-- The question or answer under way on the connection that reads.
pub data Consumer (I : Type 0) : Type 0 where
  Paused : Consumer I
  Reading : Option ℕ → ℕ → Consumer I  -- from this position on
  Read : Option ℕ → ℕ → ℕ → List I → Consumer I  -- likewise: the snapshot's end, and the items

pub record Host (I : Type 0) : Type 0 where
  pub bridge : Bridge I
  pub producer : Producer I
  pub consumer : Consumer I

pub record Fleet (I : Type 0) : Type 0 where
  pub server : Server I
  pub hosts : ℕ → Host I
  pub answered : List I  -- the changes that were answered since the server lost something

module _ {I : Type 0} where
  abbrev pub new_host : Host I
  new_host = record { bridge = new_bridge; producer = Idle; consumer = Paused }

  -- The hosts with another one at k.
  abbrev pub placed : ℕ → Host I → (ℕ → Host I) → ℕ → Host I
  placed k host hosts j = if j == k then host else hosts j

  abbrev pub with_host : Fleet I → ℕ → Host I → Fleet I
  with_host w k host = record w { hosts = placed k host w.hosts }
