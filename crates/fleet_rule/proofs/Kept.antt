-- What holds of each fleet: the invariant.
use Rattle.std.proofs.Common.{◌≡◌, ◌≤◌, ℕ, Bool, false, List, ◌++◌, length, take, Option, Some, None}
use Rattle.fleet_rule.specs.Covered.{Covers}
use Rattle.fleet_rule.specs.Server.{Server, IsServer}
use Rattle.fleet_rule.specs.Bridge.{Bridge}
use Rattle.fleet_rule.specs.Fleet.{Producer, Consumer, Host, Fleet}
use Rattle.fleet_rule.specs.Fleet.Producer.{Idle, Meeting, Adding, Fetching, Compacting, Replicating, Met, Acknowledged, Fetched}
use Rattle.fleet_rule.specs.Fleet.Consumer.{Paused, Reading, Read}

abbrev pub IsUpTo : Option ℕ → ℕ → Type 0
IsUpTo None n = Unit {0}
IsUpTo (Some h) n = h ≤ n

-- The items in flight.
abbrev pub in_flight_of : {I : Type 0} → Bridge I → List I
in_flight_of b = take b.in_flight b.outbox

module _ {I : Type 0} (covers : I → I → Bool) where
  -- What is known of a bridge that met this very server.
  pub record Tracks (s : Server I) (b : Bridge I) : Type 0 where
    pub accounted : b.must_resend ≡ false → Covers covers (s.log ++ b.outbox) b.held
    pub position : b.position ≤ length s.log
    pub read : b.has_dropped ≡ false → Covers covers b.held (take b.position s.log)
    pub consumed : Covers covers s.log b.consumed

  -- A snapshot of this server up to a position.
  pub record IsSnapshot (s : Server I) (p : ℕ) (items : List I) : Type 0 where
    pub end : p ≤ length s.log
    pub whole : Covers covers items (take p s.log)
    pub nothing_else : Covers covers s.log items

  -- Items, and a snapshot of this server with them.
  pub record AreBoth (s : Server I) (p : ℕ) (snapshot items : List I) : Type 0 where
    pub end : p ≤ length s.log
    pub whole : Covers covers snapshot (take p s.log)
    pub nothing_else : Covers covers (s.log ++ items) snapshot

  pub record IsThere (s : Server I) (p : ℕ) (items : List I) : Type 0 where
    pub end : p ≤ length s.log
    pub there : Covers covers (take p s.log) items

  -- Items of the log from this position on.
  pub record IsPiece (s : Server I) (p : ℕ) (items : List I) : Type 0 where
    pub front : List I
    pub back : List I
    pub whole : s.log ≡ front ++ (items ++ back)
    pub position : length front ≡ p

  abbrev pub ProducerIs : Server I → Bridge I → Producer I → Type 0
  ProducerIs s b Idle = Unit {0}
  ProducerIs s b Meeting = Unit {0}
  ProducerIs s b (Adding items) = Covers covers items (in_flight_of b)
  ProducerIs s b Fetching = Unit {0}
  ProducerIs s b (Compacting m p snapshot items) =
      Covers covers items (in_flight_of b) × IsUpTo m s.history × (m ≡ Some s.history → AreBoth s p snapshot items)
  ProducerIs s b (Replicating h p) =
      (h ≤ s.history) × (b.met ≡ Some s.history → h ≡ s.history) × (h ≡ s.history → IsThere s p (in_flight_of b))
  ProducerIs s b (Met h) = (h ≤ s.history) × (b.met ≡ Some s.history → h ≡ s.history)
  ProducerIs s b (Acknowledged h) =
      (h ≤ s.history) × (b.met ≡ Some s.history → h ≡ s.history) ×
      (h ≡ s.history → Covers covers (take s.replicated s.log) (in_flight_of b))
  ProducerIs s b (Fetched p items) = b.met ≡ Some s.history → IsSnapshot s p items

  abbrev pub ConsumerIs : Server I → Consumer I → Type 0
  ConsumerIs s Paused = Unit {0}
  ConsumerIs s (Reading m p) = IsUpTo m s.history × (m ≡ Some s.history → p ≤ length s.log)
  ConsumerIs s (Read m p end items) = IsUpTo m s.history × (m ≡ Some s.history → end ≤ p → IsPiece s p items)

  pub record IsHost (s : Server I) (host : Host I) : Type 0 where
    pub in_flight : host.bridge.in_flight ≤ length host.bridge.outbox
    pub met : IsUpTo host.bridge.met s.history
    pub tracks : host.bridge.met ≡ Some s.history → Tracks s host.bridge
    pub producer : ProducerIs s host.bridge host.producer
    pub consumer : ConsumerIs s host.consumer

  pub record IsKept (w : Fleet I) : Type 0 where
    pub server : IsServer covers w.server
    pub hosts : (k : ℕ) → IsHost w.server (w.hosts k)
    pub answered : Covers covers (take w.server.replicated w.server.log) w.answered

  -- A server that has more, and lost nothing.
  pub record Grows (s t : Server I) : Type 0 where
    pub history : t.history ≡ s.history
    pub more : List I
    pub log : t.log ≡ s.log ++ more
    pub replicated : s.replicated ≤ t.replicated
