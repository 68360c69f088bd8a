-- Readings of the log: entries are kept, and taken when the reading ends.
use Rattle.std.specs.Prelude.{◌≡◌, ◌≢◌, ℕ, ◌<◌, ◌≤◌, Bool, true, false, List, [], ◌++◌, Option, Some, None}
use Rattle.history.specs.History.{Path}
use Rattle.ds_entry.specs.declared.item.Item.{Item}
use Rattle.ds_content.specs.Content.{ContentRecord}
use Rattle.fleet_bridge.specs.State.{ConsumedBy}
use Rattle.fleet_bridge.specs.declared.question.Reading.{Reading}
use Rattle.fleet_store.specs.Taking.{TakesItem, taking_begun, taking_of}
use Rattle.fleet_store.specs.declared.taking.Taken.{Taken}
use Rattle.c_values.specs.Lines.{AreLines}
use Rattle.c_bridge.specs.Texts.{IsItemsFault}
use Rattle.c_bridge.specs.declared.bridge.StoreBridge.{StoreBridge}
use Rattle.c_bridge.specs.declared.bridge.UnderRead.{UnderRead}
use Rattle.c_bridge.specs.declared.fault.BridgeFault.{BridgeFault}
use Rattle.c_bridge.specs.declared.fault.BridgeFault.TheVariants.{NotUnderWay, Ungathered, BadId, NoRoom}

-- ---- an entry

pub record Enters (old : StoreBridge) (id : ℕ) (text : List ℕ) (new : StoreBridge) : Type 0 where
  pub reading : UnderRead
  pub under_way : old.reading ≡ Some reading
  pub grows : reading.last < id
  pub items : List Item
  pub lines : AreLines items text
  pub bridge : new ≡ record old { reading = Some (record reading { last = id }); entries = old.entries ++ items }

-- Whether the fault applies to an entry of the reading. The id is judged before the text.
abbrev pub IsReadEntryFaultIn : UnderRead → ℕ → List ℕ → BridgeFault → Type 0
IsReadEntryFaultIn r id text BadId = id ≤ r.last
IsReadEntryFaultIn r id text NoRoom = r.last < id
IsReadEntryFaultIn r id text fault = (r.last < id) × IsItemsFault text fault

-- Whether the fault is the first that applies.
abbrev pub IsReadEntryFaultFor : Option UnderRead → ℕ → List ℕ → BridgeFault → Type 0
IsReadEntryFaultFor None id text fault = fault ≡ NotUnderWay
IsReadEntryFaultFor (Some r) id text fault = IsReadEntryFaultIn r id text fault

abbrev pub IsReadEntryFault : StoreBridge → ℕ → List ℕ → BridgeFault → Type 0
IsReadEntryFault b id text fault = IsReadEntryFaultFor b.reading id text fault

-- ---- a reading's end

-- The answer to the reading, as the decisions take it.
abbrev pub answer_to : UnderRead → ℕ → Bool → Bool → Reading
answer_to r end is_all dropped =
    record { history = r.history; from = r.from; end = end; last = r.last; is_all = is_all; has_dropped = dropped }

-- Whether the entries' items were taken, or the answer was ignored.
abbrev pub FinishesReadingOf : ContentRecord → StoreBridge → UnderRead → ℕ → Bool → Option Taken → ContentRecord → StoreBridge → Type 0
FinishesReadingOf c old r end is_all (Some taken) d new =
    ConsumedBy old.decisions (answer_to r end is_all taken.has_dropped) true new.decisions ×
    Path TakesItem (taking_begun c old.dead) old.entries (taking_of d new.dead taken) ×
    (new ≡ record old { decisions = new.decisions; dead = new.dead; seen = d.journal.position; reading = None; entries = [] })
FinishesReadingOf c old r end is_all None d new =
    ConsumedBy old.decisions (answer_to r end is_all false) false new.decisions × (d ≡ c) ×
    (new ≡ record old { decisions = new.decisions; reading = None; entries = [] })

pub record FinishesReading (c : ContentRecord) (old : StoreBridge) (end : ℕ) (is_all : Bool) (taken : Option Taken) (d : ContentRecord)
    (new : StoreBridge) : Type 0 where
  pub reading : UnderRead
  pub under_way : old.reading ≡ Some reading
  pub gathered : c.journal.position ≡ old.seen
  pub ends : FinishesReadingOf c old reading end is_all taken d new

-- Whether the fault is the first that applies.
abbrev pub IsHearFault : ContentRecord → StoreBridge → BridgeFault → Type 0
IsHearFault c b NotUnderWay = b.reading ≡ None
IsHearFault c b Ungathered = (b.reading ≢ None) × (c.journal.position ≢ b.seen)
IsHearFault c b _ = ⊥
