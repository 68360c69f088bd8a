-- What becomes of items that are delivered to a store or a map.
use Rattle.std.specs.Prelude.{◌≡◌, ◌≢◌, ◌⊎◌, ℕ, ◌+◌, ◌≤◌, true, List, [], ◌∷◌, ◌++◌, length, take, Option, Some, None, Contains}
use Rattle.std.specs.List.{flat_map, slice_get}
use Rattle.std.specs.Int.Bits.{bit_or}
use Rattle.ds_entry.specs.Change.{ChangeRecord}
use Rattle.ds_entry.specs.Item.{passes}
use Rattle.ds_entry.specs.declared.item.Item.{Item}
use Rattle.ds_entry.specs.declared.item.Item.TheVariants.{Change as Changed}
use Rattle.ds_join.specs.ItemTop.{IsTop}
use Rattle.ds_join.specs.declared.count.Count.{Count}
use Rattle.ds_pattern.specs.Under.{is_under}
use Rattle.ds_machine.specs.State.{State}
use Rattle.ds_machine.specs.Machine.{Step}
use Rattle.ds_machine.specs.declared.command.Command.TheVariants.{Merge}
use Rattle.ds_machine.specs.declared.refusal.Refusal.{Refusal}
use Rattle.ds_machine.specs.declared.refusal.Refusal.TheVariants.{NotOwner, Clash, Full, NoRoom}
use Rattle.ds_machine.specs.declared.reply.Reply.{Reply}
use Rattle.ds_machine.specs.declared.reply.Reply.TheVariants.{Merged, MergeStopped, Refused}
use Rattle.ds_replica.specs.World.{MapState}
use Rattle.ds_names.specs.Limits.{most_items}
use Rattle.ds_entry.specs.Under.{under}

-- The tally of a delivery: the count of its items, the mask of subscriptions to notify, and the refusal that stopped
-- it.
pub record Tally : Type 0 where
  pub count : Count
  pub owed : ℕ
  pub stop : Option Refusal

abbrev pub counting : ℕ → ℕ → ℕ → Count
counting done taken stale = record { done = done; taken = taken; stale = stale }

-- The tally of `done` items, none of them taken or stale, with this mask and this end.
abbrev pub ended : ℕ → ℕ → Option Refusal → Tally
ended done owed stop = record { count = counting done 0 0; owed = owed; stop = stop }

-- The tally of a first group and of those after it. A mask of both has the bits of either.
abbrev pub added : ℕ → ℕ → ℕ → ℕ → Tally → Tally
added done taken stale owed later = record {
  count = counting (done + later.count.done) (taken + later.count.taken) (stale + later.count.stale);
  owed = bit_or owed later.owed;
  stop = later.stop;
}

-- Whether this is the tally and the state after the reply. The other groups follow a Merge that did all of its items. After
-- any other reply, none of them does.
abbrev pub OthersFollow : Reply → State → (Tally → State → Type 0) → Tally → State → Type 0
OthersFollow (Merged done taken stale owed) mid Others tally new =
    (later : Tally) × Others later new × (tally ≡ added done taken stale owed later)
OthersFollow (MergeStopped done fault owed) mid Others tally new = (tally ≡ ended done owed (Some fault)) × (new ≡ mid)
OthersFollow (Refused fault) mid Others tally new = (tally ≡ ended 0 0 (Some fault)) × (new ≡ mid)
OthersFollow _ mid Others tally new = ⊥

-- Whether each group goes to the store as one Merge, in order.
abbrev pub GroupsAreMerged : State → List (List Item) → Tally → State → Type 0
GroupsAreMerged s [] tally new = (tally ≡ ended 0 0 None) × (new ≡ s)
GroupsAreMerged s (group ∷ groups) tally new =
    (reply : Reply) × (mid : State) × Step s (Merge group) reply mid ×
    OthersFollow reply mid (λ t n. GroupsAreMerged mid groups t n) tally new

-- The items go to a store in Merges of at most 256.
pub record StoreTakes (s : State) (items : List Item) (tally : Tally) (new : State) : Type 0 where
  pub groups : List (List Item)
  pub all : flat_map (λ group. group) groups ≡ items
  pub few : (group : List Item) → Contains groups group → length group ≤ most_items
  pub merged : GroupsAreMerged s groups tally new

-- What is held justifies the fault against the item. A change: another owner of its key, another body at its version,
-- or a limit (of keys or memory). A floor: only a limit.
abbrev pub StandsAgainst : List Item → Item → Refusal → Type 0
StandsAgainst held (Changed c) NotOwner = (h : ChangeRecord) × Contains held (Changed h) × (h.key ≡ c.key) × (h.owner ≢ c.owner)
StandsAgainst held (Changed c) (Clash v) =
    (h : ChangeRecord) × Contains held (Changed h) × (h.key ≡ c.key) × (h.version ≡ c.version) × (h.body ≢ c.body) × (v ≡ c.version)
StandsAgainst held i Full = Unit {0}
StandsAgainst held i NoRoom = Unit {0}
StandsAgainst held i _ = ⊥

-- Whether all items were done, or the next one is under the query and the fault applies to it. Matching the query may also
-- run out of memory.
abbrev pub DeliveryEnds : MapState → List Item → ℕ → Option Refusal → Type 0
DeliveryEnds m items done None = done ≡ length items
DeliveryEnds m items done (Some fault) =
    (next : Item) × (slice_get items done ≡ Some next) × ((passes (is_under m.query) next ≡ true) ⊎ (fault ≡ NoRoom)) ×
    StandsAgainst m.held next fault

-- The items go to a map, which then holds the top of what it held and of the items done under its query.
pub record MapTakes (m : MapState) (items : List Item) (tally : Tally) (new : MapState) : Type 0 where
  pub query : new.query ≡ m.query
  pub top : IsTop new.held (m.held ++ under (is_under m.query) (take tally.count.done items))
  pub counted : tally.count.taken + tally.count.stale ≤ tally.count.done
  pub owed : tally.owed ≡ 0
  pub ends : DeliveryEnds new items tally.count.done tally.stop
