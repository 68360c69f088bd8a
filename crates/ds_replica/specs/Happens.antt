-- What an event does to a world, and its outcome.
use Rattle.std.specs.Prelude.{◌≡◌, ◌⊎◌, ℕ, Bool, true, false, not, ◌&&◌, nat_le, nat_lt, cond, List, [], ◌∷◌, ◌++◌}
use Rattle.std.specs.Prelude.{length, Option, Some, None, is_some, slice_set, take}
use Rattle.std.specs.List.{slice_get}
use Rattle.std.specs.Option.{option_map_or, unwrap_or}
use Rattle.ds_entry.specs.declared.item.Item.{Item}
use Rattle.ds_pattern.specs.declared.query.Query.{Query}
use Rattle.ds_machine.specs.Calling.{against_query}
use Rattle.ds_machine.specs.State.{State, opening}
use Rattle.ds_machine.specs.Machine.{Step}
use Rattle.ds_machine.specs.declared.command.Command.{Command}
use Rattle.ds_machine.specs.declared.command.Command.TheVariants.{Check, Since, Snapshot, Page}
use Rattle.ds_machine.specs.declared.refusal.Refusal.{Refusal}
use Rattle.ds_machine.specs.declared.refusal.Refusal.TheVariants as refusals
use Rattle.ds_machine.specs.declared.reply.Reply.{Reply}
use Rattle.ds_machine.specs.declared.reply.Reply.TheVariants.{Checked, Journaled, Snapped, Paged}
use Rattle.ds_replica.specs.declared.event.Side.{Side}
use Rattle.ds_replica.specs.declared.event.Holder.{Holder}
use Rattle.ds_replica.specs.declared.event.Holder.TheVariants.{Store, Map}
use Rattle.ds_replica.specs.declared.event.Event.{Event}
use Rattle.ds_replica.specs.declared.event.Event.TheVariants.{Ask, NewMap, Deliver, ClearMap, RestartStore}
use Rattle.ds_replica.specs.declared.outcome.Outcome.{Outcome}
use Rattle.ds_replica.specs.declared.outcome.Outcome.TheVariants.{Replied, Made, MapMade, Merged, Stopped, Cleared, Restarted, Refused}
use Rattle.ds_replica.specs.declared.outcome.EventFault.{EventFault}
use Rattle.ds_replica.specs.declared.outcome.EventFault.TheVariants.{MessagesFull, MapsFull, TooLong, BadPattern, NoMessage}
use Rattle.ds_replica.specs.declared.outcome.EventFault.TheVariants.{NoMap, TooMany, OldIncarnation, NoRoom}
use Rattle.ds_replica.specs.World.{MapState, World, store_at, with_state, with_items}
use Rattle.ds_replica.specs.Delivery.{Tally, StoreTakes, MapTakes}

abbrev pub most_maps : ℕ
most_maps = 64

abbrev pub most_messages : ℕ
most_messages = 65536

-- ---- the faults against an event

-- Whether the store's reply to the command is kept as a message.
abbrev pub gives_items : Command → Bool
gives_items (Check sub max) = true
gives_items (Since scope at max) = true
gives_items (Snapshot scope) = true
gives_items (Page scope after max) = true
gives_items _ = false

abbrev pub ask_fault : World → Command → Option EventFault
ask_fault w command = cond (gives_items command && nat_le most_messages (length w.messages)) (Some MessagesFull) None

abbrev pub pattern_fault : Query → Option EventFault
pattern_fault query =
    cond (against_query query refusals.TooLong) (Some TooLong) (cond (against_query query refusals.BadPattern) (Some BadPattern) None)

abbrev pub map_fault : World → Query → Option EventFault
map_fault w query = cond (nat_le most_maps (length w.maps)) (Some MapsFull) (pattern_fault query)

-- Whether there is such a holder.
abbrev pub is_there : World → Holder → Bool
is_there w (Store side) = true
is_there w (Map j) = is_some (slice_get w.maps j)

-- How many of the items are to be delivered.
abbrev pub count_of : Option ℕ → List Item → ℕ
count_of count items = unwrap_or count (length items)

abbrev pub delivery_fault : World → Holder → Option ℕ → List Item → Option EventFault
delivery_fault w holder count items =
    cond (not (is_there w holder)) (Some NoMap) (cond (nat_lt (length items) (count_of count items)) (Some TooMany) None)

-- The first fault that applies to the event.
abbrev pub event_fault : World → Event → Option EventFault
event_fault w (Ask side command) = ask_fault w command
event_fault w (NewMap query) = map_fault w query
event_fault w (Deliver k holder count) =
    option_map_or (λ items. delivery_fault w holder count items) (slice_get w.messages k) (Some NoMessage)
event_fault w (ClearMap j) = cond (is_there w (Map j)) None (Some NoMap)
event_fault w (RestartStore side incarnation) =
    cond (nat_lt w.a.feed.incarnation incarnation && nat_lt w.b.feed.incarnation incarnation) None (Some OldIncarnation)

-- Whether the event takes memory before it does anything: for a message, or a map.
abbrev pub event_takes_memory : Event → Bool
event_takes_memory (Ask side command) = gives_items command
event_takes_memory (NewMap query) = true
event_takes_memory _ = false

-- The event is refused by its first fault, or for lack of memory: with no fault, or with BadPattern alone, since
-- reading a pattern takes memory.
abbrev pub IsEventRefused : World → Event → EventFault → Type 0
IsEventRefused w event NoRoom = (event_takes_memory event ≡ true) × ((event_fault w event ≡ None) ⊎ (event_fault w event ≡ Some BadPattern))
IsEventRefused w event fault = event_fault w event ≡ Some fault

-- ---- what an event does that isn't refused

-- The list of items of a reply, which may be empty; none if this kind of reply has no list.
abbrev pub items_given : Reply → Option (List Item)
items_given (Checked items before after) = Some items
items_given (Journaled since) = Some since.items
items_given (Snapped snapshot) = Some snapshot.items
items_given (Paged page) = Some page.items
items_given _ = None

-- The outcome of an Ask: the reply, or the number of the next message if the reply has items.
abbrev pub ask_outcome : World → Reply → Option (List Item) → Outcome
ask_outcome w reply None = Replied reply
ask_outcome w reply (Some items) = Made (length w.messages)

-- A store made a step on a command.
pub record Asks (w : World) (side : Side) (command : Command) (outcome : Outcome) (new : World) : Type 0 where
  pub reply : Reply
  pub after : State
  pub step : Step (store_at w side) command reply after
  pub outcome_is : outcome ≡ ask_outcome w reply (items_given reply)
  pub world_is : new ≡ with_items (with_state w side after) (items_given reply)

abbrev pub new_map : Query → MapState
new_map query = record { query = query; held = [] }

-- A map was made, with the next number.
pub record MakesMap (w : World) (query : Query) (outcome : Outcome) (new : World) : Type 0 where
  pub outcome_is : outcome ≡ MapMade (length w.maps)
  pub world_is : new ≡ record w { maps = w.maps ++ new_map query ∷ [] }

abbrev pub tally_outcome : Tally → Option Refusal → Outcome
tally_outcome t None = Merged t.count t.owed
tally_outcome t (Some fault) = Stopped t.count.done fault t.owed

-- A store took items.
pub record TakenByStore (w : World) (side : Side) (items : List Item) (tally : Tally) (new : World) : Type 0 where
  pub after : State
  pub takes : StoreTakes (store_at w side) items tally after
  pub world_is : new ≡ with_state w side after

-- A map took items.
pub record TakenByMap (w : World) (j : ℕ) (items : List Item) (tally : Tally) (new : World) : Type 0 where
  pub old : MapState
  pub there : slice_get w.maps j ≡ Some old
  pub after : MapState
  pub takes : MapTakes old items tally after
  pub world_is : new ≡ record w { maps = slice_set w.maps j after }

abbrev pub IsDelivered : World → Holder → List Item → Tally → World → Type 0
IsDelivered w (Store side) items tally new = TakenByStore w side items tally new
IsDelivered w (Map j) items tally new = TakenByMap w j items tally new

-- The first items of a message went to a holder.
pub record Delivers (w : World) (k : ℕ) (holder : Holder) (count : Option ℕ) (outcome : Outcome) (new : World) : Type 0 where
  pub items : List Item
  pub there : slice_get w.messages k ≡ Some items
  pub tally : Tally
  pub taken : IsDelivered w holder (take (count_of count items) items) tally new
  pub outcome_is : outcome ≡ tally_outcome tally tally.stop

-- A map was emptied.
pub record ClearsMap (w : World) (j : ℕ) (outcome : Outcome) (new : World) : Type 0 where
  pub old : MapState
  pub there : slice_get w.maps j ≡ Some old
  pub outcome_is : outcome ≡ Cleared
  pub world_is : new ≡ record w { maps = slice_set w.maps j (new_map old.query) }

-- The state of a store that is opened again: the same ring, limits and first position, another incarnation.
abbrev pub reopened : State → ℕ → State
reopened s incarnation = opening incarnation s.feed.first s.feed.ring s.limits

pub record Restarts (w : World) (side : Side) (incarnation : ℕ) (outcome : Outcome) (new : World) : Type 0 where
  pub outcome_is : outcome ≡ Restarted
  pub world_is : new ≡ with_state w side (reopened (store_at w side) incarnation)

abbrev pub Does : World → Event → Outcome → World → Type 0
Does w (Ask side command) outcome new = Asks w side command outcome new
Does w (NewMap query) outcome new = MakesMap w query outcome new
Does w (Deliver k holder count) outcome new = Delivers w k holder count outcome new
Does w (ClearMap j) outcome new = ClearsMap w j outcome new
Does w (RestartStore side incarnation) outcome new = Restarts w side incarnation outcome new

-- ---- events

-- The event has this outcome: a refused one changes nothing, and no fault applies to any other.
abbrev pub Happens : World → Event → Outcome → World → Type 0
Happens w event (Refused fault) new = IsEventRefused w event fault × (new ≡ w)
Happens w event outcome new = (event_fault w event ≡ None) × Does w event outcome new

-- The events had these outcomes, in order.
abbrev pub HappenAll : World → List (Event × Outcome) → World → Type 0
HappenAll w [] new = new ≡ w
HappenAll w (e ∷ es) new = (mid : World) × Happens w e.0 e.1 mid × HappenAll mid es new
