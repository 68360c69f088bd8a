-- What an event reports besides the world that it leaves: an Ask its reply, a delivery to a map that map, each event
-- the messages. And what a run reports, value by value.
use Rattle.std.specs.Prelude.{◌≡◌, ℕ, List, [], ◌∷◌, ◌++◌, length, take, Option, None, Some}
use Rattle.std.specs.List.{slice_get}
use Rattle.ds_entry.specs.declared.item.Item.{Item}
use Rattle.ds_join.specs.declared.merge.JoinFault.{JoinFault}
use Rattle.ds_held.specs.Held.{Holding}
use Rattle.ds_pattern.specs.declared.query.Query.{Query}
use Rattle.ds_submap.specs.Map.{SubMapRecord}
use Rattle.ds_submap.specs.Take.{AreCounted, IsTakeStopped}
use Rattle.ds_machine.specs.Stopped.{refusal_of_join}
use Rattle.ds_machine.specs.declared.command.Command.{Command}
use Rattle.ds_machine.specs.declared.reply.Reply.{Reply}
use Rattle.ds_machine.specs.declared.refusal.Refusal.{Refusal}
use Rattle.ds_machine.specs.declared.refusal.Refusal.TheVariants.{NoRoom}
use Rattle.ds_machine.specs.State.{State}
use Rattle.ds_store.specs.Last.{IsLast, MayLackItem}
use Rattle.ds_replica.specs.declared.event.Side.{Side}
use Rattle.ds_replica.specs.declared.event.Holder.TheVariants.{Store, Map}
use Rattle.ds_replica.specs.declared.event.Event.{Event}
use Rattle.ds_replica.specs.declared.event.Event.TheVariants.{Ask, Deliver}
use Rattle.ds_replica.specs.declared.outcome.Outcome.{Outcome}
use Rattle.ds_replica.specs.declared.outcome.Outcome.TheVariants.{Replied, Made, Merged, Stopped}
use Rattle.ds_replica.specs.World.{World, store_at}
use Rattle.ds_replica.specs.Happens.{count_of, event_fault, Asks, Happens, HappenAll}
use Rattle.ds_replica.specs.Bringing.{IsProper}
use Rattle.ds_world.specs.World.{WorldRecord, kept_items, WorldStands, Leads}
use Rattle.ds_world.specs.Run.{EventLeads}

-- Whether the item after the first `done` ones would take effect in this state, and takes memory.
pub record WouldTake (s : State) (items : List Item) (done : ℕ) : Type 0 where
  pub item : Item
  pub is_next : slice_get items done ≡ Some item
  pub lacks : MayLackItem s item

-- Whether lack of memory comes last: if it stopped the items, the next one would take effect in the state that they
-- left, and takes memory.
abbrev pub IsNoRoomLast : List Item → ℕ → Option Refusal → State → Type 0
IsNoRoomLast items done (Some NoRoom) s = WouldTake s items done
IsNoRoomLast items done _ s = Unit {0}

-- Whether a stopped delivery to a store leads to a world in which lack of memory comes last for that store.
abbrev pub IsStoreTold : Event → Side → List Item → Outcome → WorldRecord → WorldRecord → Type 0
IsStoreTold event side items (Stopped done fault owed) old new =
    Leads (λ w after. Happens w event (Stopped done fault owed) after × IsNoRoomLast items done (Some fault) (store_at after side)) old new
IsStoreTold event side items outcome old new = Unit {0}

-- Whether the map took all items, with this count; or took the first ones and refuses the next by this fault, as the
-- map's own contract says.
abbrev pub IsMapTold : Query → Holding → List Item → Outcome → Holding → Type 0
IsMapTold query old items (Merged counted owed) new = AreCounted query old items new counted
IsMapTold query old items (Stopped done fault owed) new =
    (stop : JoinFault) × (fault ≡ refusal_of_join stop) × IsTakeStopped query old items new (record { done = done; fault = stop })
IsMapTold query old items _ new = Unit {0}

-- Whether the store answered an Ask with this reply, from each world that the old value stands for to one that the new
-- value stands for, and lack of memory comes last.
pub record IsAnswered (side : Side) (command : Command) (outcome : Outcome) (reply : Reply) (old new : WorldRecord) : Type 0 where
  pub asks : (w : World) → WorldStands old w →
      (event_fault w (Ask side command) ≡ None) × (after : World) × (a : Asks w side command outcome after) × (a.reply ≡ reply) ×
      WorldStands new after
  pub last : (w : World) → WorldStands old w → IsLast (store_at w side) command reply

-- Whether the command's reply was kept, whole, as message `k`, after all other messages.
pub record IsMessageKept (side : Side) (command : Command) (k : ℕ) (old new : WorldRecord) : Type 0 where
  pub reply : Reply
  pub answered : IsAnswered side command (Made k) reply old new
  pub next : k ≡ length old.messages
  pub kept : new.messages ≡ old.messages ++ reply ∷ []

-- Whether an Ask reports this: the reply, or the number of the message that keeps it. A refused Ask changes no message.
abbrev pub IsAskTold : Side → Command → Outcome → WorldRecord → WorldRecord → Type 0
IsAskTold side command (Replied reply) old new = IsAnswered side command (Replied reply) reply old new × (new.messages ≡ old.messages)
IsAskTold side command (Made k) old new = IsMessageKept side command k old new
IsAskTold side command _ old new = new.messages ≡ old.messages

-- Whether an event reports this. The changes and floors that an Ask names are in their ranges, and only an Ask makes a
-- message.
abbrev pub IsTold : Event → Outcome → WorldRecord → WorldRecord → Type 0
IsTold (Ask side command) outcome old new = IsProper command × IsAskTold side command outcome old new
IsTold (Deliver k (Store side) count) outcome old new =
    ((items : List Item) → kept_items old.messages k ≡ Some items →
    IsStoreTold (Deliver k (Store side) count) side (take (count_of count items) items) outcome old new)
    × (new.messages ≡ old.messages)
IsTold (Deliver k (Map j) count) outcome old new =
    ((items : List Item) (m n : SubMapRecord) → kept_items old.messages k ≡ Some items → slice_get old.maps j ≡ Some m →
    slice_get new.maps j ≡ Some n →
    IsMapTold m.query m.held (take (count_of count items) items) outcome n.held)
    × (new.messages ≡ old.messages)
IsTold event outcome old new = new.messages ≡ old.messages

-- Whether the events led from each value to the next with these outcomes, and reported so.
abbrev pub AreTold : WorldRecord → List (Event × Outcome) → WorldRecord → Type 0
AreTold old [] new = new ≡ old
AreTold old (e ∷ es) new = (mid : WorldRecord) × EventLeads e.0 e.1 old mid × IsTold e.0 e.1 old mid × AreTold mid es new

-- Whether the existing messages stay, under their numbers.
abbrev pub MessagesStay : WorldRecord → WorldRecord → Type 0
MessagesStay old new = (made : List Reply) × (new.messages ≡ old.messages ++ made)

-- Whether each message that an Ask among these events made is the reply of the store's step at that time, after the
-- events before it.
abbrev pub RepliesAreKept : WorldRecord → List (Event × Outcome) → WorldRecord → Type 0
RepliesAreKept old events new =
    (before since : List (Event × Outcome)) (side : Side) (command : Command) (k : ℕ) (w : World) →
    before ++ (Ask side command, Made k) ∷ since ≡ events → WorldStands old w →
    (mid : World) × HappenAll w before mid × (after : World) × (a : Asks mid side command (Made k) after) ×
    (slice_get new.messages k ≡ Some a.reply)
    × (late : World) × HappenAll after since late × WorldStands new late

-- Whether the events' messages are the whole replies, and the existing ones stay.
abbrev pub MessagesAreKept : WorldRecord → List (Event × Outcome) → WorldRecord → Type 0
MessagesAreKept old events new = RepliesAreKept old events new × MessagesStay old new
