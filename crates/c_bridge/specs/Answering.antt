-- Answers to questions.
use Rattle.std.specs.Prelude.{◌≡◌, ◌≢◌, ℕ, ◌<◌, true, false, List, [], drop, length}
use Rattle.history.specs.History.{Path}
use Rattle.ds_entry.specs.declared.item.Item.{Item}
use Rattle.ds_content.specs.Content.{ContentRecord}
use Rattle.fleet_bridge.specs.State as decisions
use Rattle.fleet_bridge.specs.State.{MetBy}
use Rattle.fleet_bridge.specs.declared.question.Question.TheVariants.{Nothing, Meet, Fetch}
use Rattle.fleet_store.specs.Taking.{TakesItem, taking_begun, taking_of}
use Rattle.fleet_store.specs.declared.taking.Taken.{Taken}
use Rattle.c_values.specs.Lines.{AreLines}
use Rattle.c_bridge.specs.State.{is_adding}
use Rattle.c_bridge.specs.Texts.{IsItemsFault}
use Rattle.c_bridge.specs.declared.bridge.StoreBridge.{StoreBridge}
use Rattle.c_bridge.specs.declared.fault.BridgeFault.{BridgeFault}
use Rattle.c_bridge.specs.declared.fault.BridgeFault.TheVariants.{NotUnderWay, Ungathered, NoRoom}

-- ---- a history

pub record Meets (old : StoreBridge) (history : ℕ) (new : StoreBridge) : Type 0 where
  pub under_way : old.question ≡ Meet
  pub met : MetBy old.decisions history new.decisions
  pub bridge : new ≡ record old { decisions = new.decisions; question = Nothing }

abbrev pub IsMeetFault : StoreBridge → BridgeFault → Type 0
IsMeetFault b NotUnderWay = b.question ≢ Meet
IsMeetFault b _ = ⊥

-- ---- an acknowledgement

-- The bridge after the items in flight left its outbox.
abbrev pub having_acknowledged : StoreBridge → StoreBridge
having_acknowledged b = record b {
  decisions = decisions.acknowledged b.decisions;
  outbox = drop b.decisions.in_flight b.outbox;
  snapshot = [];
  question = Nothing;
}

pub record IsAcknowledged (old : StoreBridge) (count : ℕ) (new : StoreBridge) : Type 0 where
  pub under_way : is_adding old.question ≡ true
  pub count_is : count ≡ old.decisions.in_flight
  pub bridge : new ≡ having_acknowledged old

-- Whether the fault is the first that applies. Memory runs out only if something waits after the items in flight.
abbrev pub IsAddFault : StoreBridge → BridgeFault → Type 0
IsAddFault b NotUnderWay = is_adding b.question ≡ false
IsAddFault b NoRoom = (is_adding b.question ≡ true) × (b.decisions.in_flight < length b.outbox)
IsAddFault b _ = ⊥

-- ---- a snapshot

-- Whether the items of the text were taken as the snapshot up to the entry.
pub record FetchesSnapshot (c : ContentRecord) (old : StoreBridge) (end : ℕ) (text : List ℕ) (taken : Taken) (d : ContentRecord)
    (new : StoreBridge)
    : Type 0 where
  pub under_way : old.question ≡ Fetch
  pub gathered : c.journal.position ≡ old.seen
  pub items : List Item
  pub lines : AreLines items text
  pub takes : Path TakesItem (taking_begun c old.dead) items (taking_of d new.dead taken)
  pub bridge : new ≡ record old {
    decisions = decisions.fetched old.decisions end taken.has_dropped;
    dead = new.dead;
    seen = d.journal.position;
    question = Nothing;
  }

-- Whether the fault is the first that applies.
abbrev pub IsFetchFault : ContentRecord → StoreBridge → List ℕ → BridgeFault → Type 0
IsFetchFault c b text NotUnderWay = b.question ≢ Fetch
IsFetchFault c b text Ungathered = (b.question ≡ Fetch) × (c.journal.position ≢ b.seen)
IsFetchFault c b text fault = (b.question ≡ Fetch) × (c.journal.position ≡ b.seen) × IsItemsFault text fault
