-- The calls of a bridge are events of the rule.
use Rattle.std.specs.Prelude.{◌≡◌, ◌≢◌, ℕ, ◌+◌, ◌-◌, ◌≤◌, Bool, cond, List, [], ◌∷◌, ◌++◌, length, take, Option}
use Rattle.std.specs.Prelude.{Some, None}
use Rattle.ds_entry.specs.ItemCovers.{covers}
use Rattle.ds_entry.specs.declared.item.Item.{Item}
use Rattle.ds_join.specs.ItemTop.{tops}
use Rattle.ds_feed.specs.Feed.{position}
use Rattle.ds_held.specs.Held.{held_items}
use Rattle.ds_machine.specs.State.{State}
use Rattle.ds_content.specs.Content.{ContentRecord}
use Rattle.ds_content.specs.Stands.{ContentStands, InEachState}
use Rattle.fleet_rule.specs.Bridge as rule
use Rattle.fleet_rule.specs.Fleet.{Fleet, Producer}
use Rattle.fleet_rule.specs.Fleet.Producer.{Idle, Meeting, Adding, Fetching, Compacting, Met, Acknowledged, Fetched}
use Rattle.fleet_rule.specs.Fleet.Consumer.{Paused, Reading, Read}
use Rattle.fleet_rule.specs.Happens.{Event, HappenAll, bridge_at}
use Rattle.fleet_bridge.specs.Moving.{AreIds, Represents, event_of}
use Rattle.fleet_bridge.specs.declared.question.Due.{Due}
use Rattle.fleet_bridge.specs.declared.question.Question.{Question}
use Rattle.fleet_bridge.specs.declared.question.Question.TheVariants as questions
use Rattle.fleet_store.specs.Taking.{held_with_dead}
use Rattle.fleet_store.specs.declared.taking.Taken.{Taken}
use Rattle.c_bridge.specs.State as states
use Rattle.c_bridge.specs.Gathering.{Gathers}
use Rattle.c_bridge.specs.Asking.{AsksNext, StartsReading}
use Rattle.c_bridge.specs.Answering.{Meets, IsAcknowledged, FetchesSnapshot}
use Rattle.c_bridge.specs.Reading.{FinishesReadingOf}
use Rattle.c_bridge.specs.declared.bridge.StoreBridge.{StoreBridge}
use Rattle.c_bridge.specs.declared.bridge.UnderRead.{UnderRead}

-- Whether these are the items that the store held when its journal was gathered last, and the dead letters.
pub record IsHeldBeside (c : ContentRecord) (b : StoreBridge) (held : List Item) : Type 0 where
  pub state : State
  pub content : ContentStands c state
  pub first : state.feed.first ≤ b.seen
  pub last : b.seen ≤ position state.feed
  pub held_is : held ≡ tops (take (b.seen - state.feed.first) state.feed.accepted) ++ held_items b.dead

-- Whether the bridge beside a store of this content represents the rule's. `at` is where the entry of each id is in the log.
pub record Represented (at : ℕ → ℕ) (c : ContentRecord) (b : StoreBridge) (r : rule.Bridge Item) : Type 0 where
  pub decisions : Represents at b.decisions r
  pub outbox : r.outbox ≡ b.outbox
  pub held : IsHeldBeside c b r.held

-- Whether the events happen, and lead to a fleet whose bridge at k the bridge represents.
pub record LeadsTo (at : ℕ → ℕ) (w : Fleet Item) (k : ℕ) (es : List (Event Item)) (c : ContentRecord) (b : StoreBridge) : Type 0 where
  pub fleet : Fleet Item
  pub happen : HappenAll covers w es fleet
  pub represented : Represented at c b (bridge_at fleet k)

-- What the question carries on its connection: a compaction the whole outbox, and a snapshot of all that is held.
abbrev pub carried : (ℕ → ℕ) → StoreBridge → Question → Producer Item
carried at b questions.Nothing = Idle
carried at b questions.Refill = Idle
carried at b questions.Meet = Meeting
carried at b questions.Fetch = Fetching
carried at b (questions.Add n) = Adding (take n b.outbox)
carried at b questions.Compact = Compacting b.decisions.met (at b.decisions.position) b.snapshot b.outbox

-- A law: a bridge that is opened has changed for each item that took effect, and folded.
abbrev pub OpeningHappens : Type 0
OpeningHappens =
    (at : ℕ → ℕ) (w : Fleet Item) (k : ℕ) (c : ContentRecord) → AreIds at → (s : State) → ContentStands c s →
    bridge_at w k ≡ rule.new_bridge → (es : List (Event Item)) × LeadsTo at w k es c (states.bridge_opened c)

-- A law: gathering is a change for each item that took effect, in order; and if the journal lacks some, then a fold.
abbrev pub GatheringHappens : Type 0
GatheringHappens =
    (at : ℕ → ℕ) (w : Fleet Item) (k : ℕ) (c d : ContentRecord) (old new : StoreBridge) → Represented at c old (bridge_at w k) →
    InEachState c (λ s. Gathers s d old new) → InEachState c (ContentStands d) → (es : List (Event Item)) × LeadsTo at w k es d new

-- A law: each question but a refill is its event, and carries what the rule says.
abbrev pub AskingHappens : Type 0
AskingHappens =
    (at : ℕ → ℕ) (w : Fleet Item) (k : ℕ) (c : ContentRecord) (old new : StoreBridge) (due : Due) (q : Question) →
    Represented at c old (bridge_at w k) → (w.hosts k).producer ≡ Idle → AsksNext c old due q new → q ≢ questions.Refill →
    (leads : LeadsTo at w k (event_of covers k q ∷ []) c new) × ((leads.fleet.hosts k).producer ≡ carried at new q)

-- A law: a refill is one, and then a fold.
abbrev pub RefillingHappens : Type 0
RefillingHappens =
    (at : ℕ → ℕ) (w : Fleet Item) (k : ℕ) (c : ContentRecord) (old new : StoreBridge) (due : Due) →
    Represented at c old (bridge_at w k) → AsksNext c old due questions.Refill new →
    LeadsTo at w k (Event.Refills k ∷ Event.Folds k ∷ []) c new

-- A law: so is a reading.
abbrev pub ReadingHappens : Type 0
ReadingHappens =
    (at : ℕ → ℕ) (w : Fleet Item) (k : ℕ) (c : ContentRecord) (old new : StoreBridge) (from : ℕ) →
    Represented at c old (bridge_at w k) → (w.hosts k).consumer ≡ Paused → StartsReading old (Some from) new →
    (leads : LeadsTo at w k (Event.AsksToRead k ∷ []) c new) × ((leads.fleet.hosts k).consumer ≡ Reading old.decisions.met (at from))

-- A law: a history is met, or an answer ignored if the bridge met it last.
pub record MeetingHappens : Type 0 where
  pub another : (at : ℕ → ℕ) (w : Fleet Item) (k h : ℕ) (c : ContentRecord) (old new : StoreBridge) → AreIds at →
      Represented at c old (bridge_at w k) → (w.hosts k).producer ≡ Met h → old.decisions.met ≢ Some h → Meets old h new →
      LeadsTo at w k (Event.Meets k h ∷ []) c new
  pub same : (at : ℕ → ℕ) (w : Fleet Item) (k h : ℕ) (c : ContentRecord) (old new : StoreBridge) → Represented at c old (bridge_at w k) →
      old.decisions.met ≡ Some h → Meets old h new → LeadsTo at w k (Event.Ignores k ∷ []) c new

-- A law: an acknowledgement is of the items that the question carried.
abbrev pub AcknowledgingHappens : Type 0
AcknowledgingHappens =
    (at : ℕ → ℕ) (w : Fleet Item) (k h count : ℕ) (c : ContentRecord) (old new : StoreBridge) → Represented at c old (bridge_at w k) →
    (w.hosts k).producer ≡ Acknowledged h → IsAcknowledged old count new → LeadsTo at w k (Event.GetsAcknowledged k h ∷ []) c new

-- The event of a snapshot that is taken, in part if an item was dropped.
abbrev pub taking_event : ℕ → ℕ → List Item → List Item → Bool → Event Item
taking_event k p items held dropped = cond dropped (Event.TakesPart k p items held) (Event.TakesSnapshot k p items held)

-- A law: a snapshot is taken whole, or in part if an item was dropped.
abbrev pub FetchingHappens : Type 0
FetchingHappens =
    (at : ℕ → ℕ) (w : Fleet Item) (k end : ℕ) (c d : ContentRecord) (old new : StoreBridge) (text : List ℕ) (taken : Taken) →
    Represented at c old (bridge_at w k) → (fetches : FetchesSnapshot c old end text taken d new) →
    (w.hosts k).producer ≡ Fetched (at end) fetches.items →
    LeadsTo at w k (taking_event k (at end) fetches.items (held_with_dead d new.dead) taken.has_dropped ∷ []) d new

-- The event of a reading's end.
abbrev pub consuming_event : (ℕ → ℕ) → ℕ → UnderRead → ℕ → List Item → List Item → Option Taken → Event Item
consuming_event at k r end items held None = Event.IgnoresReading k
consuming_event at k r end items held (Some taken) =
    cond taken.has_dropped (Event.ConsumesPart k r.history (at r.from) (at end) items held)
    (Event.Consumes k r.history (at r.from) (at end) items held)

-- A law: what was read is consumed whole, or in part, or ignored. The entries handed over are all from the first one's id to the last
-- one's.
abbrev pub ConsumingHappens : Type 0
ConsumingHappens =
    (at : ℕ → ℕ) (w : Fleet Item) (k end : ℕ) (c d : ContentRecord) (old new : StoreBridge) (r : UnderRead) (is_all : Bool)
    (taken : Option Taken) → AreIds at → Represented at c old (bridge_at w k) →
    (w.hosts k).consumer ≡ Read r.history (at r.from) (at end) old.entries → at r.last ≡ at r.from + length old.entries →
    c.journal.position ≡ old.seen → FinishesReadingOf c old r end is_all taken d new →
    LeadsTo at w k (consuming_event at k r end old.entries (held_with_dead d new.dead) taken ∷ []) d new

-- A law: so are the other calls.
pub record OthersHappen : Type 0 where
  pub refused : (at : ℕ → ℕ) (w : Fleet Item) (k : ℕ) (c : ContentRecord) (b : StoreBridge) → Represented at c b (bridge_at w k) →
      LeadsTo at w k (Event.Ignores k ∷ []) c (states.bridge_refused b)
  pub parted : (at : ℕ → ℕ) (w : Fleet Item) (k : ℕ) (c : ContentRecord) (b : StoreBridge) → Represented at c b (bridge_at w k) →
      LeadsTo at w k (Event.Disconnects k ∷ []) c (states.bridge_parted b)
  pub differs : (at : ℕ → ℕ) (w : Fleet Item) (k : ℕ) (c : ContentRecord) (b : StoreBridge) → Represented at c b (bridge_at w k) →
      LeadsTo at w k (Event.Doubts k ∷ []) c (states.bridge_doubting b)
  pub reread : (at : ℕ → ℕ) (w : Fleet Item) (k : ℕ) (c : ContentRecord) (b : StoreBridge) → AreIds at →
      Represented at c b (bridge_at w k) →
      LeadsTo at w k (Event.Rereads k ∷ []) c (states.bridge_rereading b)
