-- The store's own changes, which its bridge gathers.
use Rattle.std.specs.Prelude.{◌≡◌, ◌⊎◌, ℕ, ◌+◌, ◌<◌, ◌≤◌, Bool, true, false, List, length, min, ◌++◌, Result, Ok, Err}
use Rattle.ds_entry.specs.declared.item.Item.{Item}
use Rattle.ds_feed.specs.Feed.{Feed, position}
use Rattle.ds_feed.specs.declared.reading.Since.{Since}
use Rattle.ds_machine.specs.State.{State}
use Rattle.ds_machine.specs.declared.refusal.Refusal.{Refusal}
use Rattle.ds_machine.specs.declared.refusal.Refusal.TheVariants as refusals
use Rattle.ds_content.specs.Content.{ContentRecord}
use Rattle.fleet_store.specs.Journal.{IsInJournal, news_from}
use Rattle.c_bridge.specs.State.{bridge_folded, is_asking}
use Rattle.c_bridge.specs.declared.bridge.StoreBridge.{StoreBridge}
use Rattle.c_bridge.specs.declared.fault.BridgeFault.{BridgeFault}
use Rattle.c_bridge.specs.declared.fault.BridgeFault.TheVariants.{Ahead, Busy, NoRoom}

-- Whether the journal no longer has what was to be gathered.
abbrev pub IsBehind : Feed → ℕ → Type 0
IsBehind f at = (at ≤ position f) × (at + min f.ring (length f.accepted) < position f)

-- The bridge after these items were gathered.
abbrev pub gathered : Feed → StoreBridge → StoreBridge
gathered f b = record b {
  decisions = record b.decisions { outbox = length (b.outbox ++ news_from f b.seen) };
  outbox = b.outbox ++ news_from f b.seen;
  seen = b.seen + length (news_from f b.seen);
}

-- Whether the items that took effect were gathered, or all that is held.
abbrev pub Gathers : State → ContentRecord → StoreBridge → StoreBridge → Type 0
Gathers s c old new =
    (IsInJournal s.feed old.seen × (new ≡ gathered s.feed old))
    ⊎ (IsBehind s.feed old.seen × (is_asking old.question ≡ false) × (new ≡ bridge_folded c old))

abbrev pub IsFoldFault : StoreBridge → BridgeFault → Type 0
IsFoldFault b Busy = is_asking b.question ≡ true
IsFoldFault b NoRoom = is_asking b.question ≡ false
IsFoldFault b _ = ⊥

abbrev pub is_behind : Refusal → Bool
is_behind refusals.Behind = true
is_behind _ = false

abbrev pub is_ahead : Refusal → Bool
is_ahead refusals.Ahead = true
is_ahead _ = false

-- Whether all that is held was gathered, since the journal refused as Behind.
abbrev pub GathersAll : Refusal → ContentRecord → StoreBridge → StoreBridge → Type 0
GathersAll refusal c old new = (is_behind refusal ≡ true) × (is_asking old.question ≡ false) × (new ≡ bridge_folded c old)

-- Whether the fault is that of a refusal of the journal, by whether that is Behind, and whether it is Ahead.
abbrev pub IsNewsFault : Bool → Bool → StoreBridge → BridgeFault → Type 0
IsNewsFault true ahead b fault = IsFoldFault b fault
IsNewsFault false true b fault = fault ≡ Ahead
IsNewsFault false false b fault = fault ≡ NoRoom

-- The bridge after these items were gathered, up to this position.
abbrev pub gathered_up_to : StoreBridge → List Item → ℕ → StoreBridge
gathered_up_to b items position = record b {
  decisions = record b.decisions { outbox = length (b.outbox ++ items) };
  outbox = b.outbox ++ items;
  seen = position;
}

-- What becomes of the journal's answer: its items are gathered, or all that is held, or nothing changes.
abbrev pub SettlesNews : {U : Type 0} → ContentRecord → StoreBridge → Result Since Refusal → Result U BridgeFault → StoreBridge → Type 0
SettlesNews c old (Ok since) (Ok done) new = new ≡ gathered_up_to old since.items since.cursor.position
SettlesNews c old (Ok since) (Err fault) new = (fault ≡ NoRoom) × (new ≡ old)
SettlesNews c old (Err refusal) (Ok done) new = GathersAll refusal c old new
SettlesNews c old (Err refusal) (Err fault) new = IsNewsFault (is_behind refusal) (is_ahead refusal) old fault × (new ≡ old)

-- Whether the fault is the first that applies.
abbrev pub IsGatherFault : Feed → StoreBridge → BridgeFault → Type 0
IsGatherFault f b Ahead = position f < b.seen
IsGatherFault f b Busy = IsBehind f b.seen × (is_asking b.question ≡ true)
IsGatherFault f b NoRoom = IsInJournal f b.seen ⊎ (IsBehind f b.seen × (is_asking b.question ≡ false))
IsGatherFault f b _ = ⊥
