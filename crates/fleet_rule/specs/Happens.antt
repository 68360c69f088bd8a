-- What happens in a fleet.
use Rattle.std.specs.Prelude.{◌≡◌, ℕ, ◌+◌, ◌<◌, ◌≤◌, ◌==◌, max, Bool, true, false, if◌then◌else◌}
use Rattle.std.specs.Prelude.{List, [], ◌∷◌, ◌++◌, length, take, drop, Option, Some}
use Rattle.history.specs.History.{Path}
use Rattle.fleet_rule.specs.Covered.{Joins, JoinsPart}
use Rattle.fleet_rule.specs.Server.{Server, IsServer}
use Rattle.fleet_rule.specs.Bridge.{Bridge, changed, sending, acknowledged, meeting}
use Rattle.fleet_rule.specs.Bridge.{consuming, dropping, rereading, refilled, folded, doubting}
use Rattle.fleet_rule.specs.Fleet.{Producer, Consumer, Host, Fleet, new_host, with_host}
use Rattle.fleet_rule.specs.Fleet.Producer.{Idle, Meeting, Adding, Fetching, Compacting, Replicating, Met, Acknowledged, Fetched}
use Rattle.fleet_rule.specs.Fleet.Consumer.{Paused, Reading, Read}

-- An event, first with the number of its host. The last list of a bridge's own event is what its store holds afterwards.
pub data Event (I : Type 0) : Type 0 where
  Changes : ℕ → I → List I → Event I  -- a change takes effect in its store
  AsksToMeet : ℕ → Event I
  AsksToAdd : ℕ → ℕ → Event I  -- the outbox's first n items
  AsksToFetch : ℕ → Event I
  AsksToCompact : ℕ → Event I  -- to add the whole outbox, and then to compact
  AsksToRead : ℕ → Event I
  IsMet : ℕ → Event I  -- the server handles the question, from here on
  IsAdded : ℕ → List I → Event I
  IsReplicated : ℕ → ℕ → ℕ → Event I
  IsFetched : ℕ → Event I
  IsCompacted : ℕ → Option ℕ → ℕ → List I → List I → Event I
  IsOnlyAdded : ℕ → Option ℕ → ℕ → List I → List I → Event I  -- added, and not compacted
  IsRead : ℕ → Option ℕ → ℕ → ℕ → List I → Event I
  Meets : ℕ → ℕ → Event I  -- the answer arrives, from here on
  GetsAcknowledged : ℕ → ℕ → Event I
  TakesSnapshot : ℕ → ℕ → List I → List I → Event I
  TakesPart : ℕ → ℕ → List I → List I → Event I  -- likewise, and drops some items
  Consumes : ℕ → Option ℕ → ℕ → ℕ → List I → List I → Event I
  ConsumesPart : ℕ → Option ℕ → ℕ → ℕ → List I → List I → Event I  -- likewise, and drops some items
  Ignores : ℕ → Event I  -- an answer that changes nothing
  IgnoresReading : ℕ → Event I
  Rereads : ℕ → Event I
  Refills : ℕ → Event I
  Folds : ℕ → Event I
  Doubts : ℕ → Event I
  Disconnects : ℕ → Event I  -- the connections end; questions and answers under way are lost
  Crashes : ℕ → Event I  -- another bridge replaces it, which holds nothing
  Replicates : ℕ → Event I  -- the replicas have the log up to this position
  FailsOver : Server I → Event I  -- a replica replaces the server
  Loses : Server I → Event I  -- the server loses what it had, or another one replaces it

module _ {I : Type 0} where
  abbrev pub bridge_at : Fleet I → ℕ → Bridge I
  bridge_at w k = (w.hosts k).bridge

  -- The fleet with another bridge at k, or with something else under way on a connection of it.
  abbrev pub with_bridge : Fleet I → ℕ → Bridge I → Fleet I
  with_bridge w k b = with_host w k (record (w.hosts k) { bridge = b })

  abbrev pub with_producer : Fleet I → ℕ → Producer I → Fleet I
  with_producer w k p = with_host w k (record (w.hosts k) { producer = p })

  abbrev pub with_consumer : Fleet I → ℕ → Consumer I → Fleet I
  with_consumer w k c = with_host w k (record (w.hosts k) { consumer = c })

  -- The fleet with another bridge at k, and nothing under way on the connection.
  abbrev pub with_answer : Fleet I → ℕ → Bridge I → Fleet I
  with_answer w k b = with_host w k (record (w.hosts k) { bridge = b; producer = Idle })

  abbrev pub with_reading : Fleet I → ℕ → Bridge I → Fleet I
  with_reading w k b = with_host w k (record (w.hosts k) { bridge = b; consumer = Paused })

  -- The changes that count as answered once a bridge learns that the items in flight were added in this history.
  abbrev pub answered_with : Fleet I → ℕ → ℕ → List I
  answered_with w k h = if h == w.server.history then w.answered ++ take (bridge_at w k).in_flight (bridge_at w k).outbox else w.answered

  abbrev pub cut_off : Host I → Host I
  cut_off host = record host { producer = Idle; consumer = Paused }

  abbrev pub added : Server I → List I → Server I
  added s items = record s { log = s.log ++ items }

  abbrev pub compacted : Server I → ℕ → List I → Server I
  compacted s p snapshot = record s { trimmed = max s.trimmed p; end = p; snapshot = snapshot }

  -- The fleet with a server to which items were added for the bridge at k.
  abbrev pub with_added : Fleet I → ℕ → Server I → Fleet I
  with_added w k s = record (with_producer w k (Replicating s.history (length s.log))) { server = s }

module _ {I : Type 0} (covers : I → I → Bool) where
  -- The fleet after the event.
  abbrev pub after : Fleet I → Event I → Fleet I
  after w (Changes k i held) = with_bridge w k (changed (bridge_at w k) i held)
  after w (AsksToMeet k) = with_producer w k Meeting
  after w (AsksToAdd k n) =
      with_host w k (record (w.hosts k) { bridge = sending (bridge_at w k) n; producer = Adding (take n (bridge_at w k).outbox) })
  after w (AsksToFetch k) = with_producer w k Fetching
  after w (AsksToCompact k) =
      let b = bridge_at w k in
      with_host w k
      (record (w.hosts k) { bridge = sending b (length b.outbox); producer = Compacting b.met b.position b.held b.outbox })
  after w (AsksToRead k) = with_consumer w k (Reading (bridge_at w k).met (bridge_at w k).position)
  after w (IsMet k) = with_producer w k (Met w.server.history)
  after w (IsAdded k items) = with_added w k (added w.server items)
  after w (IsReplicated k h p) = with_producer w k (Acknowledged h)
  after w (IsFetched k) = with_producer w k (Fetched w.server.end w.server.snapshot)
  after w (IsCompacted k m p snapshot items) = with_added w k (compacted (added w.server items) p snapshot)
  after w (IsOnlyAdded k m p snapshot items) = with_added w k (added w.server items)
  after w (IsRead k m p n items) = with_consumer w k (Read m p w.server.end items)
  after w (Meets k h) = with_answer w k (meeting (bridge_at w k) h)
  after w (GetsAcknowledged k h) = record (with_answer w k (acknowledged (bridge_at w k))) { answered = answered_with w k h }
  after w (TakesSnapshot k p items held) = with_answer w k (consuming (bridge_at w k) items p held)
  after w (TakesPart k p items held) = with_answer w k (dropping (bridge_at w k) items p held)
  after w (Consumes k m p end items held) = with_reading w k (consuming (bridge_at w k) items (p + length items) held)
  after w (ConsumesPart k m p end items held) = with_reading w k (dropping (bridge_at w k) items (p + length items) held)
  after w (Ignores k) = with_producer w k Idle
  after w (IgnoresReading k) = with_consumer w k Paused
  after w (Rereads k) = with_bridge w k (rereading (bridge_at w k))
  after w (Refills k) = with_bridge w k (refilled covers (bridge_at w k))
  after w (Folds k) = with_bridge w k (folded (bridge_at w k))
  after w (Doubts k) = with_bridge w k (doubting (bridge_at w k))
  after w (Disconnects k) = with_host w k (cut_off (w.hosts k))
  after w (Crashes k) = with_host w k new_host
  after w (Replicates p) = record w { server = record w.server { replicated = p } }
  after w (FailsOver s) = record w { server = s; hosts = λ k. cut_off (w.hosts k) }
  after w (Loses s) = record w { server = s; answered = [] }

  -- Whether the event can happen in the fleet.
  abbrev pub May : Fleet I → Event I → Type 0
  May w (Changes k i held) = Joins covers held (bridge_at w k).held (i ∷ [])
  -- Each connection carries one question at a time.
  May w (AsksToMeet k) = (w.hosts k).producer ≡ Idle
  May w (AsksToAdd k n) = ((w.hosts k).producer ≡ Idle) × (n ≤ length (bridge_at w k).outbox)
  May w (AsksToFetch k) = (w.hosts k).producer ≡ Idle
  May w (AsksToCompact k) =
      ((w.hosts k).producer ≡ Idle) × ((bridge_at w k).must_resend ≡ false) × ((bridge_at w k).has_dropped ≡ false)
  May w (AsksToRead k) = (w.hosts k).consumer ≡ Paused
  May w (IsMet k) = (w.hosts k).producer ≡ Meeting
  May w (IsAdded k items) = (w.hosts k).producer ≡ Adding items
  May w (IsReplicated k h p) = ((w.hosts k).producer ≡ Replicating h p) × (p ≤ w.server.replicated)
  May w (IsFetched k) = (w.hosts k).producer ≡ Fetching
  -- Only the history that was read is compacted, and no snapshot that ends later is replaced.
  May w (IsCompacted k m p snapshot items) =
      ((w.hosts k).producer ≡ Compacting m p snapshot items) × (m ≡ Some w.server.history) × (w.server.end ≤ p)
  May w (IsOnlyAdded k m p snapshot items) = (w.hosts k).producer ≡ Compacting m p snapshot items
  -- Trimmed items can't be read: the answer may then have any items.
  May w (IsRead k m p n items) =
      ((w.hosts k).consumer ≡ Reading m p) × (w.server.trimmed ≤ p → items ≡ take n (drop p w.server.log))
  -- A server of the history that it met last is ignored.
  May w (Meets k h) = ((w.hosts k).producer ≡ Met h) × ((bridge_at w k).met ≡ Some h → ⊥)
  May w (GetsAcknowledged k h) = (w.hosts k).producer ≡ Acknowledged h
  May w (TakesSnapshot k p items held) = ((w.hosts k).producer ≡ Fetched p items) × Joins covers held (bridge_at w k).held items
  May w (TakesPart k p items held) = ((w.hosts k).producer ≡ Fetched p items) × JoinsPart covers held (bridge_at w k).held items
  -- An answer is ignored if it is of another history, begins elsewhere, or before the snapshot's end.
  May w (Consumes k m p end items held) =
      ((w.hosts k).consumer ≡ Read m p end items) × ((bridge_at w k).met ≡ m) × ((bridge_at w k).position ≡ p) × (end ≤ p) ×
      Joins covers held (bridge_at w k).held items
  May w (ConsumesPart k m p end items held) =
      ((w.hosts k).consumer ≡ Read m p end items) × ((bridge_at w k).met ≡ m) × (end ≤ p) ×
      JoinsPart covers held (bridge_at w k).held items
  May w (Ignores k) = Unit {0}
  May w (IgnoresReading k) = Unit {0}
  May w (Rereads k) = Unit {0}
  May w (Refills k) = (bridge_at w k).must_resend ≡ true
  May w (Folds k) = Unit {0}
  May w (Doubts k) = Unit {0}
  May w (Disconnects k) = Unit {0}
  May w (Crashes k) = Unit {0}
  May w (Replicates p) = (w.server.replicated ≤ p) × (p ≤ length w.server.log)
  -- The replica has at least what was waited for, and perhaps less than the server.
  May w (FailsOver s) =
      (w.server.history < s.history) × IsServer covers s × (w.server.replicated ≤ s.replicated) ×
      ((n : ℕ) × (s.log ≡ take n w.server.log))
  May w (Loses s) = (w.server.history < s.history) × IsServer covers s

module _ {I : Type 0} (may : Fleet I → Event I → Type 0) (leads : Fleet I → Event I → Fleet I) where
  -- Whether the events happen, each as it may and with its effect.
  abbrev pub Follow : Fleet I → List (Event I) → Fleet I → Type 0
  Follow = Path (λ w e x. may w e × (leads w e ≡ x))

module _ {I : Type 0} (covers : I → I → Bool) where
  abbrev pub HappenAll : Fleet I → List (Event I) → Fleet I → Type 0
  HappenAll = Follow (May covers) (after covers)

  -- Whether nothing happened yet: no bridge holds anything.
  pub record IsNew (w : Fleet I) : Type 0 where
    pub server : IsServer covers w.server
    pub hosts : (k : ℕ) → w.hosts k ≡ new_host
    pub answered : w.answered ≡ []
