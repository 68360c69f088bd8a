-- The moves of a bridge's decisions are events of the rule.
use Rattle.std.specs.Prelude.{◌≡◌, ℕ, ◌+◌, ◌≤◌, Bool, true, false, List, [], ◌∷◌, ◌++◌, length, Some}
use Rattle.fleet_rule.specs.Covered.{Joins, JoinsPart, uncovered}
use Rattle.fleet_rule.specs.Bridge as rule
use Rattle.fleet_rule.specs.Fleet.{Fleet}
use Rattle.fleet_rule.specs.Fleet.Producer.{Idle, Met, Acknowledged, Fetched}
use Rattle.fleet_rule.specs.Fleet.Consumer.{Paused, Read}
use Rattle.fleet_rule.specs.Happens.{Event, after, May, bridge_at}
use Rattle.fleet_bridge.specs.State.{MetBy, ConsumedBy, changed, refilled, folded, rereading, doubting, parted, acknowledged, fetched}
use Rattle.fleet_bridge.specs.Asking.{next_question, having_asked}
use Rattle.fleet_bridge.specs.declared.bridge.Bridge.{Bridge}
use Rattle.fleet_bridge.specs.declared.question.Due.{Due}
use Rattle.fleet_bridge.specs.declared.question.Question.{Question}
use Rattle.fleet_bridge.specs.declared.question.Question.TheVariants.{Nothing, Meet, Fetch, Refill, Add, Compact}
use Rattle.fleet_bridge.specs.declared.question.Reading.{Reading}

-- Where the entry of each id is in the log: the number of items up to it. Ids grow with positions, and 0 is before all of them.
pub record AreIds (at : ℕ → ℕ) : Type 0 where
  pub front : at 0 ≡ 0
  pub grow : (a b : ℕ) → a ≤ b → at a ≤ at b

module _ {I : Type 0} where
  -- Whether the state represents the rule's bridge.
  pub record Represents (at : ℕ → ℕ) (b : Bridge) (r : rule.Bridge I) : Type 0 where
    pub outbox : length r.outbox ≡ b.outbox
    pub in_flight : r.in_flight ≡ b.in_flight
    pub position : r.position ≡ at b.position
    pub must_resend : r.must_resend ≡ b.must_resend
    pub has_dropped : r.has_dropped ≡ b.has_dropped
    pub met : r.met ≡ b.met

module _ {I : Type 0} (covers : I → I → Bool) where
  -- Whether the event can happen, and the state represents the bridge at k afterwards.
  pub record Leads (at : ℕ → ℕ) (w : Fleet I) (k : ℕ) (e : Event I) (new : Bridge) : Type 0 where
    pub may : May covers w e
    pub after : Represents at new (bridge_at (after covers w e) k)

  -- The event of a question; a refill is one of its own.
  abbrev pub event_of : ℕ → Question → Event I
  event_of k Nothing = Event.Ignores k
  event_of k Refill = Event.Ignores k
  event_of k Meet = Event.AsksToMeet k
  event_of k Fetch = Event.AsksToFetch k
  event_of k (Add n) = Event.AsksToAdd k n
  event_of k Compact = Event.AsksToCompact k

  -- A law: the next question is an event, and so is a reading.
  pub record AskingHappens : Type 0 where
    pub question : (at : ℕ → ℕ) (w : Fleet I) (k : ℕ) (b : Bridge) (due : Due) → Represents at b (bridge_at w k) →
        (w.hosts k).producer ≡ Idle → let q = next_question b due in Leads at w k (event_of k q) (having_asked b q)
    pub reading : (at : ℕ → ℕ) (w : Fleet I) (k : ℕ) (b : Bridge) → Represents at b (bridge_at w k) →
        (w.hosts k).consumer ≡ Paused → Leads at w k (Event.AsksToRead k) b

  -- A law: so is each of the other moves.
  pub record MovesHappen : Type 0 where
    pub change : (at : ℕ → ℕ) (w : Fleet I) (k : ℕ) (b : Bridge) (i : I) (held : List I) → Represents at b (bridge_at w k) →
        Joins covers held (bridge_at w k).held (i ∷ []) → Leads at w k (Event.Changes k i held) (changed b)
    pub meet : (at : ℕ → ℕ) (w : Fleet I) (k h : ℕ) (b new : Bridge) → AreIds at → Represents at b (bridge_at w k) →
        (w.hosts k).producer ≡ Met h → (b.met ≡ Some h → ⊥) → MetBy b h new → Leads at w k (Event.Meets k h) new
    pub acknowledge : (at : ℕ → ℕ) (w : Fleet I) (k h : ℕ) (b : Bridge) → Represents at b (bridge_at w k) →
        (w.hosts k).producer ≡ Acknowledged h → Leads at w k (Event.GetsAcknowledged k h) (acknowledged b)
    pub fetch : (at : ℕ → ℕ) (w : Fleet I) (k end : ℕ) (b : Bridge) (items held : List I) → Represents at b (bridge_at w k) →
        (w.hosts k).producer ≡ Fetched (at end) items → Joins covers held (bridge_at w k).held items →
        Leads at w k (Event.TakesSnapshot k (at end) items held) (fetched b end false)
    pub consume : (at : ℕ → ℕ) (w : Fleet I) (k : ℕ) (b new : Bridge) (r : Reading) (items held : List I) → AreIds at →
        Represents at b (bridge_at w k) → (w.hosts k).consumer ≡ Read r.history (at r.from) (at r.end) items →
        at r.last ≡ at r.from + length items → r.has_dropped ≡ false → Joins covers held (bridge_at w k).held items →
        ConsumedBy b r true new → Leads at w k (Event.Consumes k r.history (at r.from) (at r.end) items held) new
    pub fetch_part : (at : ℕ → ℕ) (w : Fleet I) (k end : ℕ) (b : Bridge) (items held : List I) → Represents at b (bridge_at w k) →
        (w.hosts k).producer ≡ Fetched (at end) items → JoinsPart covers held (bridge_at w k).held items →
        Leads at w k (Event.TakesPart k (at end) items held) (fetched b end true)
    pub consume_part : (at : ℕ → ℕ) (w : Fleet I) (k : ℕ) (b new : Bridge) (r : Reading) (items held : List I) → AreIds at →
        Represents at b (bridge_at w k) → (w.hosts k).consumer ≡ Read r.history (at r.from) (at r.end) items →
        at r.last ≡ at r.from + length items → r.has_dropped ≡ true → JoinsPart covers held (bridge_at w k).held items →
        ConsumedBy b r true new → Leads at w k (Event.ConsumesPart k r.history (at r.from) (at r.end) items held) new
    pub refill : (at : ℕ → ℕ) (w : Fleet I) (k : ℕ) (b : Bridge) → Represents at b (bridge_at w k) → b.must_resend ≡ true →
        let r = bridge_at w k in
        Leads at w k (Event.Refills k) (refilled b (length (uncovered covers (r.consumed ++ r.outbox) r.held)))
    pub fold : (at : ℕ → ℕ) (w : Fleet I) (k : ℕ) (b : Bridge) → Represents at b (bridge_at w k) →
        Leads at w k (Event.Folds k) (folded b (length (bridge_at w k).held))
    pub reread : (at : ℕ → ℕ) (w : Fleet I) (k : ℕ) (b : Bridge) → AreIds at → Represents at b (bridge_at w k) →
        Leads at w k (Event.Rereads k) (rereading b)
    pub doubt : (at : ℕ → ℕ) (w : Fleet I) (k : ℕ) (b : Bridge) → Represents at b (bridge_at w k) →
        Leads at w k (Event.Doubts k) (doubting b)
    pub part : (at : ℕ → ℕ) (w : Fleet I) (k : ℕ) (b : Bridge) → Represents at b (bridge_at w k) →
        Leads at w k (Event.Disconnects k) (parted b)
