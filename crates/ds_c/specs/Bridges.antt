-- What the calls on the handle of a bridge return, and what they leave in it and in the handle of its store.
use Rattle.std.specs.Prelude.{◌≡◌, ℕ, ◌+◌, ◌*◌, ◌^◌, Bool, true, false, List, replicate, take, Option, None, Some, Result, Ok, Err}
use Rattle.std.specs.Prelude.{IfOk, IfErr, OnErr, MatchOption, ⊤}
use Rattle.std.specs.Int.{to_le_bytes, w128}
use Rattle.ds_content.specs.Content.{ContentRecord}
use Rattle.ds_content.specs.Stands.{ContentStands, InEachState}
use Rattle.fleet_bridge.specs.declared.question.Due.{Due}
use Rattle.fleet_bridge.specs.declared.question.Question.{Question}
use Rattle.fleet_bridge.specs.declared.question.Question.TheVariants.{Nothing, Meet, Fetch, Refill, Add, Compact}
use Rattle.fleet_store.specs.declared.taking.Taken.{Taken}
use Rattle.c_values.specs.declared.giving.Given.{Given}
use Rattle.c_values.specs.Pieces.{GivesPieces}
use Rattle.c_bridge.specs.declared.bridge.StoreBridge.{StoreBridge}
use Rattle.c_bridge.specs.declared.fault.BridgeFault.{BridgeFault}
use Rattle.c_bridge.specs.declared.fault.BridgeFault.TheVariants.{Busy, NotUnderWay, Ungathered, Ahead, BadId, BadLines, NoRoom}
use Rattle.c_bridge.specs.State.{bridge_opened}
use Rattle.c_bridge.specs.Texts.{lines_from}
use Rattle.c_bridge.specs.Gathering.{Gathers, IsGatherFault}
use Rattle.c_bridge.specs.Asking.{AsksNext, IsAskFault, StartsReading}
use Rattle.c_bridge.specs.Answering.{Meets, IsMeetFault, IsAcknowledged, IsAddFault, FetchesSnapshot, IsFetchFault}
use Rattle.c_bridge.specs.Reading.{Enters, IsReadEntryFault, FinishesReading, IsHearFault}
use Rattle.c_keeper.specs.declared.session.KeeperSession.{KeeperSession}
use Rattle.ds_c.specs.declared.bridge_id.BridgeId.{BridgeId}
use Rattle.ds_c.specs.declared.bridge_question.BridgeQuestion.{BridgeQuestion}
use Rattle.ds_c.specs.declared.bridge_taken.BridgeTaken.{BridgeTaken}
use Rattle.ds_c.specs.Calls.{done, is_closed, is_open}
use Rattle.ds_c.specs.Desks.{no_memory}
use Rattle.ds_c.specs.Services.{not_found}

-- ---- numbers

-- The number of a fault.
abbrev pub fault_number : BridgeFault → ℕ
fault_number Busy = 44
fault_number NotUnderWay = 43
fault_number Ungathered = 17
fault_number Ahead = 16
fault_number BadId = 12
fault_number BadLines = 46
fault_number NoRoom = 20

-- What a call returns.
abbrev pub outcome_word : {T : Type 0} → Result T BridgeFault → ℕ
outcome_word (Ok result) = done
outcome_word (Err fault) = fault_number fault

-- The id of an entry.
abbrev pub id_of : BridgeId → ℕ
id_of id = id.high * 2 ^ 64 + id.low

abbrev pub question_kind : Question → ℕ
question_kind Nothing = 0
question_kind Meet = 1
question_kind Fetch = 2
question_kind Refill = 3
question_kind (Add count) = 4
question_kind Compact = 5

-- The number of items that the question adds.
abbrev pub question_count : Question → StoreBridge → ℕ
question_count (Add count) b = count
question_count Compact b = b.decisions.in_flight
question_count _ b = 0

-- Whether this is the question, as C has it, with the id of the last entry that was read.
pub record IsReportedQuestion (q : Question) (b : StoreBridge) (told : BridgeQuestion) : Type 0 where
  pub kind : told.kind ≡ question_kind q
  pub count : told.count ≡ question_count q b
  pub last : told.high * 2 ^ 64 + told.low ≡ b.decisions.position

abbrev pub flag : Bool → ℕ
flag true = 1
flag false = 0

-- What became of items, as C has it.
abbrev pub reported_taken : Taken → BridgeTaken
reported_taken t = record { owed = to_le_bytes w128 t.owed; is_taken = 1; has_dropped = flag t.has_dropped }

-- Likewise of a reading's, which may be ignored.
abbrev pub reported_reading : Option Taken → BridgeTaken
reported_reading (Some t) = reported_taken t
reported_reading None = record { owed = replicate 16 0; is_taken = 0; has_dropped = 0 }

-- ---- what a call does

module _ {T : Type 0} where
  -- Whether the call did this, with some result, or returns the number of a fault, for this reason, and left this.
  pub record ReportsOutcome (did : T → Type 0) (why : BridgeFault → Type 0) (same : Type 0) (word : ℕ) : Type 0 where
    pub outcome : Result T BridgeFault
    pub word_is : word ≡ outcome_word outcome
    pub done : IfOk outcome did
    pub refused : IfErr outcome why
    pub left : OnErr outcome same

abbrev pub GathersFrom : ContentRecord → StoreBridge → ℕ → ContentRecord → StoreBridge → Type 0
GathersFrom c old word d new =
    ReportsOutcome (λ (u : ⊤). InEachState c (λ s. Gathers s d old new)) (λ fault. InEachState c (λ s. IsGatherFault s.feed old fault))
    (new ≡ old) word × InEachState c (ContentStands d)

abbrev pub AsksOf : ContentRecord → StoreBridge → Due → BridgeQuestion → ℕ → BridgeQuestion → StoreBridge → Type 0
AsksOf c old due before word told new =
    ReportsOutcome (λ q. AsksNext c old due q new × IsReportedQuestion q new told) (IsAskFault c old) ((new ≡ old) × (told ≡ before)) word

abbrev pub TakesFetched : ContentRecord → StoreBridge → BridgeId → List ℕ → BridgeTaken → ℕ → BridgeTaken → ContentRecord →
    StoreBridge → Type 0
TakesFetched c old end text before word told d new =
    ReportsOutcome (λ t. FetchesSnapshot c old (id_of end) text t d new × (told ≡ reported_taken t)) (IsFetchFault c old text)
    ((new ≡ old) × (d ≡ c) × (told ≡ before)) word

abbrev pub TakesConsumed : ContentRecord → StoreBridge → BridgeId → Bool → BridgeTaken → ℕ → BridgeTaken → ContentRecord →
    StoreBridge → Type 0
TakesConsumed c old end is_all before word told d new =
    ReportsOutcome (λ t. FinishesReading c old (id_of end) is_all t d new × (told ≡ reported_reading t)) (IsHearFault c old)
    ((new ≡ old) × (d ≡ c) × (told ≡ before)) word

abbrev pub MeetsOr : StoreBridge → ℕ → ℕ → StoreBridge → Type 0
MeetsOr old history word new = ReportsOutcome (λ (u : ⊤). Meets old history new) (IsMeetFault old) (new ≡ old) word

abbrev pub EntersOr : StoreBridge → BridgeId → List ℕ → ℕ → StoreBridge → Type 0
EntersOr old id text word new =
    ReportsOutcome (λ (u : ⊤). Enters old (id_of id) text new) (IsReadEntryFault old (id_of id) text) (new ≡ old) word

abbrev pub AcknowledgesOr : StoreBridge → ℕ → ℕ → ℕ → StoreBridge → Type 0
AcknowledgesOr old before word count new =
    ReportsOutcome (λ n. IsAcknowledged old n new × (count ≡ n)) (IsAddFault old) ((new ≡ old) × (count ≡ before)) word

-- Whether a reading begins after the id, or none may.
pub record ReadsAfter (old : StoreBridge) (before : BridgeId) (word : ℕ) (id : BridgeId) (new : StoreBridge) : Type 0 where
  pub from : Option ℕ
  pub starts : StartsReading old from new
  pub told : MatchOption from ((word ≡ not_found) × (id ≡ before)) (λ n. (word ≡ done) × (id_of id ≡ n))

-- ---- on a handle

-- Whether a bridge is opened beside a store with this content, or memory ran out.
abbrev pub OpenedBridge : ContentRecord → ℕ → Option StoreBridge → Type 0
OpenedBridge c word None = word ≡ no_memory
OpenedBridge c word (Some b) = (word ≡ done) × (b ≡ bridge_opened c)

-- The effect of a call that opens a bridge beside a store. An open handle is unchanged.
abbrev pub OpensBridge : Option KeeperSession → Option StoreBridge → ℕ → Option StoreBridge → Type 0
OpensBridge store (Some old) word new = (word ≡ is_open) × (new ≡ Some old)
OpensBridge None None word new = (word ≡ is_closed) × (new ≡ None)
OpensBridge (Some s) None word new = OpenedBridge s.rs.session.node.store word new

-- Whether the bridge of an open handle does so.
abbrev pub DoneIn : (StoreBridge → ℕ → StoreBridge → Type 0) → StoreBridge → ℕ → Option StoreBridge → Type 0
DoneIn does old word None = ⊥
DoneIn does old word (Some new) = does old word new

-- The effect of a call on a bridge alone. If the handle is closed, it stays so.
abbrev pub DoesIn : (StoreBridge → ℕ → StoreBridge → Type 0) → Option StoreBridge → ℕ → Option StoreBridge → Type 0
DoesIn does None word new = (word ≡ is_closed) × (new ≡ None)
DoesIn does (Some old) word new = DoneIn does old word new

-- The effect of a call that always does the same.
abbrev pub MovesIn : (StoreBridge → StoreBridge) → Option StoreBridge → ℕ → Option StoreBridge → Type 0
MovesIn move None word new = (word ≡ is_closed) × (new ≡ None)
MovesIn move (Some old) word new = (word ≡ done) × (new ≡ Some (move old))

module _ {A : Type 0} where
  -- The effect of a call that writes a result. If the handle is closed, it and the result's place are unchanged.
  abbrev pub AnswersIn : (StoreBridge → A → ℕ → A → StoreBridge → Type 0) → Option StoreBridge → A → ℕ → A → Option StoreBridge → Type 0
  AnswersIn does None before word told new = (word ≡ is_closed) × (told ≡ before) × (new ≡ None)
  AnswersIn does (Some old) before word told new = DoneIn (λ b w e. does b before w told e) old word new

-- The effect of a call that asks. If a handle is closed, the bridge and the question's place are unchanged.
abbrev pub AsksBeside : Option KeeperSession → StoreBridge → Due → BridgeQuestion → ℕ → BridgeQuestion → StoreBridge → Type 0
AsksBeside None old due before word told new = (word ≡ is_closed) × (told ≡ before) × (new ≡ old)
AsksBeside (Some s) old due before word told new = AsksOf s.rs.session.node.store old due before word told new

abbrev pub AsksByBridge : Option KeeperSession → Option StoreBridge → Due → BridgeQuestion → ℕ → BridgeQuestion → Option StoreBridge →
    Type 0
AsksByBridge s old due before word told new = AnswersIn (λ b before w told e. AsksBeside s b due before w told e) old before word told new

-- Whether only the store of a session may have changed.
pub record KeepsAllElse (old new : KeeperSession) : Type 0 where
  pub services : new.rs.session.node.services ≡ old.rs.session.node.services
  pub last : new.rs.session.last ≡ old.rs.session.last
  pub told : new.rs.told ≡ old.rs.told
  pub processes : new.processes ≡ old.processes

-- Whether a bridge does so beside the store of a session. The rest of the session is unchanged.
abbrev pub DoneBeside : (ContentRecord → StoreBridge → ℕ → ContentRecord → StoreBridge → Type 0) → KeeperSession → StoreBridge → ℕ →
    KeeperSession → StoreBridge → Type 0
DoneBeside does s old word t new = KeepsAllElse s t × does s.rs.session.node.store old word t.rs.session.node.store new

abbrev pub DoneAt : (ContentRecord → StoreBridge → ℕ → ContentRecord → StoreBridge → Type 0) → KeeperSession → StoreBridge → ℕ →
    Option KeeperSession → StoreBridge → Type 0
DoneAt does s old word None new = ⊥
DoneAt does s old word (Some t) new = DoneBeside does s old word t new

module _ {A : Type 0} where
  -- The effect of a call of a bridge with the handle of a store. If that is closed, the bridge and the result's place are unchanged.
  abbrev pub DoesAt : (ContentRecord → StoreBridge → A → ℕ → A → ContentRecord → StoreBridge → Type 0) → Option KeeperSession →
      StoreBridge → A → ℕ → A → Option KeeperSession → StoreBridge → Type 0
  DoesAt does None old before word told store new = (word ≡ is_closed) × (told ≡ before) × (store ≡ None) × (new ≡ old)
  DoesAt does (Some s) old before word told store new = DoneAt (λ c b w d e. does c b before w told d e) s old word store new

  abbrev pub DoneByBoth : (ContentRecord → StoreBridge → A → ℕ → A → ContentRecord → StoreBridge → Type 0) → Option KeeperSession →
      StoreBridge → A → ℕ → A → Option KeeperSession → Option StoreBridge → Type 0
  DoneByBoth does s old before word told store None = ⊥
  DoneByBoth does s old before word told store (Some new) = DoesAt does s old before word told store new

  -- The effect of a call on the handles of a bridge and a store. If one is closed, both and the result's place are unchanged.
  abbrev pub DoesByBoth : (ContentRecord → StoreBridge → A → ℕ → A → ContentRecord → StoreBridge → Type 0) → Option KeeperSession →
      Option StoreBridge → A → ℕ → A → Option KeeperSession → Option StoreBridge → Type 0
  DoesByBoth does s None before word told store new = (word ≡ is_closed) × (told ≡ before) × (store ≡ s) × (new ≡ None)
  DoesByBoth does s (Some old) before word told store new = DoneByBoth does s old before word told store new

-- The effect of a call that gathers, of an open bridge and of any.
abbrev pub GathersBeside : Option KeeperSession → StoreBridge → ℕ → Option KeeperSession → StoreBridge → Type 0
GathersBeside s old word store new = DoesAt (λ c b (u : ⊤) w (v : ⊤) d e. GathersFrom c b w d e) s old tt word tt store new

abbrev pub GathersAt : Option KeeperSession → Option StoreBridge → ℕ → Option KeeperSession → Option StoreBridge → Type 0
GathersAt s old word store new = DoesByBoth (λ c b (u : ⊤) w (v : ⊤) d e. GathersFrom c b w d e) s old tt word tt store new

-- The effect of a call that copies lines of an open bridge. If the handle is closed, nothing is copied.
abbrev pub FetchesOf : (StoreBridge → List (List ℕ)) → Option StoreBridge → List ℕ → Given → ℕ → List ℕ → Given → Type 0
FetchesOf lines None old before word room given = (word ≡ is_closed) × (room ≡ old) × (given ≡ before)
FetchesOf lines (Some b) old before word room given = (word ≡ done) × GivesPieces (lines b) old given room

-- The lines of the items that the question under way adds, and of the snapshot of the compaction under way, from one on.
abbrev pub added_from : ℕ → StoreBridge → List (List ℕ)
added_from first b = lines_from first (take b.decisions.in_flight b.outbox)

abbrev pub snapshot_from : ℕ → StoreBridge → List (List ℕ)
snapshot_from first b = lines_from first b.snapshot
