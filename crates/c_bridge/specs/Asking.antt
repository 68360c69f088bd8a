-- Questions that are prepared.
use Rattle.std.specs.Prelude.{◌≡◌, ◌≢◌, ℕ, true, false, [], length, is_some, Option, Some, None}
use Rattle.ds_content.specs.Content.{ContentRecord}
use Rattle.fleet_bridge.specs.State as decisions
use Rattle.fleet_bridge.specs.Asking as asking
use Rattle.fleet_bridge.specs.Asking.{next_question, may_read}
use Rattle.fleet_bridge.specs.declared.question.Due.{Due}
use Rattle.fleet_bridge.specs.declared.question.Question.{Question}
use Rattle.fleet_bridge.specs.declared.question.Question.TheVariants.{Refill, Compact}
use Rattle.fleet_store.specs.Taking.{held_with_dead}
use Rattle.c_bridge.specs.State.{is_asking}
use Rattle.c_bridge.specs.declared.bridge.StoreBridge.{StoreBridge}
use Rattle.c_bridge.specs.declared.fault.BridgeFault.{BridgeFault}
use Rattle.c_bridge.specs.declared.fault.BridgeFault.TheVariants.{Busy, Ungathered, NoRoom}

-- The bridge with what a question needs: a refill puts all that is held into the outbox, a compaction takes all that is held in.
abbrev pub having_prepared : ContentRecord → StoreBridge → Question → StoreBridge
having_prepared c b Refill = record b {
  decisions = decisions.folded (decisions.refilled b.decisions 0) (length (held_with_dead c b.dead));
  outbox = held_with_dead c b.dead;
}
having_prepared c b Compact = record b { snapshot = held_with_dead c b.dead; question = Compact }
having_prepared c b q = record b { question = q }

abbrev pub having_sent : ContentRecord → StoreBridge → Question → StoreBridge
having_sent c b q = having_prepared c (record b { decisions = asking.having_asked b.decisions q }) q

-- Whether the question is the next one, and the bridge asked it of a store whose changes were all gathered.
pub record AsksNext (c : ContentRecord) (old : StoreBridge) (due : Due) (q : Question) (new : StoreBridge) : Type 0 where
  pub idle : is_asking old.question ≡ false
  pub gathered : c.journal.position ≡ old.seen
  pub question : q ≡ next_question old.decisions due
  pub bridge : new ≡ having_sent c old q

-- Whether the fault is the first that applies. Memory may run out for a copy of all that is held.
abbrev pub IsAskFault : ContentRecord → StoreBridge → BridgeFault → Type 0
IsAskFault c b Busy = is_asking b.question ≡ true
IsAskFault c b Ungathered = (is_asking b.question ≡ false) × (c.journal.position ≢ b.seen)
IsAskFault c b NoRoom = (is_asking b.question ≡ false) × (c.journal.position ≡ b.seen)
IsAskFault c b _ = ⊥

abbrev pub begins_reading : StoreBridge → ℕ → StoreBridge
begins_reading b from = record b { reading = Some (record { history = b.decisions.met; from = from; last = from }); entries = [] }

-- Whether a reading begins after the id, or none may.
abbrev pub StartsReading : StoreBridge → Option ℕ → StoreBridge → Type 0
StartsReading old (Some from) new = (is_some old.reading ≡ false) × (may_read old.decisions ≡ Some from) × (new ≡ begins_reading old from)
StartsReading old None new = (is_some old.reading ≡ false → may_read old.decisions ≡ None) × (new ≡ old)
