-- Wrong rules of compaction, and the laws that fail under them.
use Rattle.std.specs.Prelude.{◌≡◌, ◌≤◌, Bool, false, [], ◌∷◌, Some}
use Rattle.fleet_rule.specs.Bridge.{sending}
use Rattle.fleet_rule.specs.Fleet.{Fleet, with_host}
use Rattle.fleet_rule.specs.Fleet.Producer.{Idle, Compacting}
use Rattle.fleet_rule.specs.Happens.{Event, after, May, bridge_at}
use Rattle.fleet_rule.specs.Happens.Event.{AsksToCompact, IsCompacted}
use Rattle.fleet_rule.specs.Laws.{HasRead, HasSent, readable}
use Rattle.fleet_rule.specs.Example.{CanEnd}

module _ {I : Type 0} (covers : I → I → Bool) where
  -- The snapshot is written without adding the outbox to the log.
  abbrev pub leaves_outbox : Fleet I → Event I → Fleet I
  leaves_outbox w (AsksToCompact k) =
      let b = bridge_at w k in
      with_host w k (record (w.hosts k) { bridge = sending b 0; producer = Compacting b.met b.position b.held [] })
  leaves_outbox w e = after covers w e

  -- A bridge that must resend compacts.
  abbrev pub ignores_resending : Fleet I → Event I → Type 0
  ignores_resending w (AsksToCompact k) = ((w.hosts k).producer ≡ Idle) × ((bridge_at w k).has_dropped ≡ false)
  ignores_resending w e = May covers w e

  -- A bridge that dropped an item compacts.
  abbrev pub ignores_dropping : Fleet I → Event I → Type 0
  ignores_dropping w (AsksToCompact k) = ((w.hosts k).producer ≡ Idle) × ((bridge_at w k).must_resend ≡ false)
  ignores_dropping w e = May covers w e

  -- The server compacts another history than the bridge has read.
  abbrev pub ignores_history : Fleet I → Event I → Type 0
  ignores_history w (IsCompacted k m p snapshot items) = ((w.hosts k).producer ≡ Compacting m p snapshot items) × (w.server.end ≤ p)
  ignores_history w e = May covers w e

  -- The server replaces a snapshot that ends later.
  abbrev pub replaces_later : Fleet I → Event I → Type 0
  replaces_later w (IsCompacted k m p snapshot items) =
      ((w.hosts k).producer ≡ Compacting m p snapshot items) × (m ≡ Some w.server.history)
  replaces_later w e = May covers w e

  -- Whether bridges 1 and 2 read the log and sent everything, and differ: 1 holds nothing, 2 the item.
  pub record Differ (i : I) (x : Fleet I) : Type 0 where
    pub read_one : HasRead x 1
    pub sent_one : HasSent x 1
    pub read_two : HasRead x 2
    pub sent_two : HasSent x 2
    pub one : (bridge_at x 1).held ≡ []
    pub two : (bridge_at x 2).held ≡ i ∷ []

  -- A law: then two bridges can differ. A bridge compacts a change that it never added, and crashes: later bridges read it in the
  -- snapshot, earlier ones never do.
  abbrev pub OutboxIsNeeded : Type 0
  OutboxIsNeeded = (i : I) → CanEnd (May covers) leaves_outbox (Differ i)

  -- A law: likewise, of a bridge that held what an emptied server lost.
  abbrev pub ResendingIsNeeded : Type 0
  ResendingIsNeeded = (i : I) → CanEnd ignores_resending (after covers) (Differ i)

  -- A law: then an answered change is trimmed, and no snapshot has it.
  abbrev pub DroppingIsNeeded : Type 0
  DroppingIsNeeded = (i : I) → CanEnd ignores_dropping (after covers) (λ x. (x.answered ≡ i ∷ []) × (readable x.server ≡ []))

  -- A law: then a change that was answered by a new history is trimmed, and the snapshot is of the old one.
  abbrev pub HistoryIsNeeded : Type 0
  HistoryIsNeeded = (i j : I) → CanEnd ignores_history (after covers) (λ x. (x.answered ≡ j ∷ []) × (readable x.server ≡ i ∷ []))

  -- A law: then the snapshot ends before the log's front, which is trimmed.
  abbrev pub LaterIsNeeded : Type 0
  LaterIsNeeded =
      (i : I) → CanEnd replaces_later (after covers)
      (λ x. (x.answered ≡ i ∷ []) × (x.server.snapshot ≡ []) × (x.server.end ≡ 0) × (x.server.trimmed ≡ 1))
