-- What each reply says about the machine's states.
use Rattle.std.specs.Prelude.{◌≡◌, ℕ, ◌+◌, ◌<◌, ◌≤◌, ◌^◌, ◌⊎◌, Bool, List, [], ◌∷◌, ◌++◌, length, take, Option, Some}
use Rattle.ds_names.specs.declared.key.Key.{Key}
use Rattle.ds_names.specs.Endpoint.{EndpointRecord}
use Rattle.ds_entry.specs.declared.floor.Floor.{Floor}
use Rattle.ds_entry.specs.declared.item.Item.{Item}
use Rattle.ds_entry.specs.declared.item.Item.TheVariants.{Floor as Floored}
use Rattle.ds_entry.specs.Floor.{floor_of}
use Rattle.ds_join.specs.ItemTop.{CoversAll}
use Rattle.ds_feed.specs.declared.cursor.Cursor.{Cursor}
use Rattle.ds_feed.specs.declared.reading.Since as readings
use Rattle.ds_feed.specs.declared.reading.Snapshot.{Snapshot as Snap}
use Rattle.ds_feed.specs.declared.reading.Page.{Page as Leaf}
use Rattle.ds_feed.specs.Since.{IsGiven}
use Rattle.ds_feed.specs.Page.{snapshot_of, page_of}
use Rattle.ds_pattern.specs.declared.query.Query.{Query}
use Rattle.ds_machine.specs.Scope.{is_kept}
use Rattle.ds_watch.specs.Mask.{has_bit}
use Rattle.ds_machine.specs.Subscription.{Subscription, is_owed}
use Rattle.ds_machine.specs.State.{State, held, cursor, unseen, takes_effect, owed, subscribes, subscription_at}
use Rattle.ds_entry.specs.declared.body.Value.{Value}
use Rattle.ds_machine.specs.Asking.{name_of}
use Rattle.ds_held.specs.Kept.{puts_void_by}
use Rattle.ds_machine.specs.Parts.{changes_in}
use Rattle.ds_machine.specs.Machine.{Step, live_at}
use Rattle.ds_machine.specs.Watching.{shown_at_first}
use Rattle.ds_machine.specs.Reached.{IsReached}
use Rattle.ds_machine.specs.Effect.{brought_by}
use Rattle.ds_machine.specs.declared.refusal.Refusal.{Refusal}
use Rattle.ds_machine.specs.declared.command.Scope.{Scope}
use Rattle.ds_machine.specs.declared.command.Command.{Command}
use Rattle.ds_machine.specs.declared.command.Command.TheVariants.{Publish, Delete, Sweep, Retrieve, NameOf}
use Rattle.ds_machine.specs.declared.command.Command.TheVariants.{Subscribe, Check, Since, Snapshot, Page, Merge}
use Rattle.ds_machine.specs.declared.reply.Reply.{Reply}
use Rattle.ds_machine.specs.declared.reply.Reply.TheVariants.{Changed as Accepted, Known, Swept, Found, Named, Subscribed}
use Rattle.ds_machine.specs.declared.reply.Reply.TheVariants.{Checked, Journaled, Snapped, Paged, Merged, MergeStopped, Refused}

-- A law: a refused command leaves the state unchanged.
abbrev pub RefusedSays : Type 0
RefusedSays = (s t : State) (command : Command) (refusal : Refusal) → Step s command (Refused refusal) t → t ≡ s

-- The items took effect, and are owed to the subscriptions whose queries they are under.
pub record IsTaken (s : State) (items : List Item) (owed_mask : ℕ) (t : State) : Type 0 where
  pub owed_is : owed_mask ≡ owed s items
  pub state_is : t ≡ takes_effect s items

abbrev pub ChangedSays : Type 0
ChangedSays =
    (s t : State) (command : Command) (owed_mask : ℕ) → Step s command (Accepted owed_mask) t → IsTaken s (brought_by s command) owed_mask t

-- A law: a value that is found is live.
abbrev pub FoundSays : Type 0
FoundSays = (s t : State) (key : Key) (value : Value) → Step s (Retrieve key) (Found value) t → (live_at s key ≡ Some value) × (t ≡ s)

-- A law: a name that is returned holds the endpoint.
abbrev pub NamedSays : Type 0
NamedSays =
    (s t : State) (endpoint : EndpointRecord) (name : List ℕ) → Step s (NameOf endpoint) (Named name) t →
    (name_of (held s) endpoint ≡ Some name) × (t ≡ s)

-- The floor took effect, or nothing changed. In both cases it or one that covers it is held after (LearntIsHeld).
pub record IsSwept (s : State) (f : Floor) (count owed_mask : ℕ) (t : State) : Type 0 where
  pub raised : ((count ≡ length (puts_void_by f (changes_in (held s)))) × (owed_mask ≡ owed s (Floored f ∷ [])) ×
      (t ≡ takes_effect s (Floored f ∷ []))) ⊎ ((count ≡ 0) × (owed_mask ≡ 0) × (t ≡ s))

abbrev pub SweptSays : Type 0
SweptSays =
    (s t : State) (caller : EndpointRecord) (owner : List ℕ) (generation count owed_mask : ℕ) →
    Step s (Sweep caller owner generation) (Swept count owed_mask) t → IsSwept s (floor_of owner generation) count owed_mask t

-- The subscription was made with this stamp.
pub record IsMade (s : State) (sub : ℕ) (query : Query) (initial : Bool) (stamp : ℕ) (t : State) : Type 0 where
  pub place : sub < s.limits.subs
  pub stamp_is : stamp ≡ s.stamp + 1
  pub state_is : t ≡ subscribes s sub query (shown_at_first (held s) initial)

abbrev pub SubscribedSays : Type 0
SubscribedSays =
    (s t : State) (sub : ℕ) (query : Query) (initial overwrite : Bool) (stamp owed : ℕ) →
    Step s (Subscribe sub query initial overwrite) (Subscribed stamp owed) t → IsMade s sub query initial stamp t

-- The state after the subscription was shown the items. If there are none, nothing changed.
abbrev pub LeavesShown : State → ℕ → Subscription → List Item → ℕ → State → Type 0
LeavesShown s sub seer [] after t = (after ≡ seer.stamp) × (t ≡ s)
LeavesShown s sub seer (i ∷ items) after t = (after ≡ s.stamp + 1) × (t ≡ subscribes s sub seer.query (seer.shown ++ i ∷ items))

-- The subscription was shown the first `max` of its unseen items.
pub record IsShown (s : State) (sub max : ℕ) (items : List Item) (before after : ℕ) (t : State) : Type 0 where
  pub seer : Subscription
  pub here : subscription_at s sub ≡ Some seer
  pub place : sub < s.limits.subs
  pub items_are : items ≡ take max (unseen s seer)
  pub before_is : before ≡ seer.stamp
  pub leaves : LeavesShown s sub seer items after t

abbrev pub CheckedSays : Type 0
CheckedSays =
    (s t : State) (sub max : ℕ) (items : List Item) (before after : ℕ) → Step s (Check sub max) (Checked items before after) t →
    IsShown s sub max items before after t

-- A law: a Since returns exactly what the definition says, and the state is unchanged.
abbrev pub JournaledSays : Type 0
JournaledSays =
    (s t : State) (scope : Scope) (at : Cursor) (max : ℕ) (since : readings.Since) → Step s (Since scope at max) (Journaled since) t →
    IsGiven s.feed (is_kept scope) at max since × (t ≡ s)

abbrev pub SnappedSays : Type 0
SnappedSays =
    (s t : State) (scope : Scope) (snapshot : Snap) → Step s (Snapshot scope) (Snapped snapshot) t →
    (snapshot ≡ snapshot_of (is_kept scope) (held s) (cursor s)) × (t ≡ s)

abbrev pub PagedSays : Type 0
PagedSays =
    (s t : State) (scope : Scope) (after : Option Key) (max : ℕ) (page : Leaf) → Step s (Page scope after max) (Paged page) t →
    (page ≡ page_of (is_kept scope) after max (held s) (cursor s)) × (t ≡ s)

-- A merge that wasn't stopped has done all its items: for each, it or one that covers it is held.
pub record IsMerged (items : List Item) (done taken stale : ℕ) (t : State) : Type 0 where
  pub holds : CoversAll (held t) items
  pub all : done ≡ length items
  pub within : taken + stale ≤ done

abbrev pub MergedSays : Type 0
MergedSays =
    (s t : State) (items : List Item) (done taken stale owed : ℕ) → IsReached s → Step s (Merge items) (Merged done taken stale owed) t →
    IsMerged items done taken stale t

-- A stopped merge has done its first `done` items.
pub record IsMergeStopped (items : List Item) (done : ℕ) (t : State) : Type 0 where
  pub holds : CoversAll (held t) (take done items)
  pub some_left : done < length items

abbrev pub MergeStoppedSays : Type 0
MergeStoppedSays =
    (s t : State) (items : List Item) (done : ℕ) (fault : Refusal) (owed : ℕ) → IsReached s →
    Step s (Merge items) (MergeStopped done fault owed) t → IsMergeStopped items done t

-- A law: a mask of subscriptions fits their places.
abbrev pub OwedFits : Type 0
OwedFits = (s : State) (items : List Item) → IsReached s → owed s items < 2 ^ s.limits.subs

-- A law: the mask has exactly the bits of the subscriptions that are owed something: a change under the query, or a
-- floor.
abbrev pub OwedTells : Type 0
OwedTells = (s : State) (items : List Item) (k : ℕ) → has_bit (owed s items) k ≡ is_owed items (subscription_at s k)

-- ---- the replies that a command can get

abbrev pub IsAskedReply : Reply → Type 0
IsAskedReply (Accepted owed) = Unit {0}
IsAskedReply Known = Unit {0}
IsAskedReply (Refused refusal) = Unit {0}
IsAskedReply _ = ⊥

abbrev pub IsSweepReply : Reply → Type 0
IsSweepReply (Swept count owed) = Unit {0}
IsSweepReply (Refused refusal) = Unit {0}
IsSweepReply _ = ⊥

abbrev pub IsRetrieveReply : Reply → Type 0
IsRetrieveReply (Found value) = Unit {0}
IsRetrieveReply (Refused refusal) = Unit {0}
IsRetrieveReply _ = ⊥

abbrev pub IsNameReply : Reply → Type 0
IsNameReply (Named name) = Unit {0}
IsNameReply (Refused refusal) = Unit {0}
IsNameReply _ = ⊥

abbrev pub IsSubscribeReply : Reply → Type 0
IsSubscribeReply (Subscribed stamp owed) = Unit {0}
IsSubscribeReply (Refused refusal) = Unit {0}
IsSubscribeReply _ = ⊥

abbrev pub IsCheckReply : Reply → Type 0
IsCheckReply (Checked items before after) = Unit {0}
IsCheckReply (Refused refusal) = Unit {0}
IsCheckReply _ = ⊥

abbrev pub IsSinceReply : Reply → Type 0
IsSinceReply (Journaled since) = Unit {0}
IsSinceReply (Refused refusal) = Unit {0}
IsSinceReply _ = ⊥

abbrev pub IsSnapshotReply : Reply → Type 0
IsSnapshotReply (Snapped snapshot) = Unit {0}
IsSnapshotReply (Refused refusal) = Unit {0}
IsSnapshotReply _ = ⊥

abbrev pub IsPageReply : Reply → Type 0
IsPageReply (Paged page) = Unit {0}
IsPageReply (Refused refusal) = Unit {0}
IsPageReply _ = ⊥

abbrev pub IsMergeReply : Reply → Type 0
IsMergeReply (Merged done taken stale owed) = Unit {0}
IsMergeReply (MergeStopped done fault owed) = Unit {0}
IsMergeReply (Refused refusal) = Unit {0}
IsMergeReply _ = ⊥

abbrev pub IsReplyTo : Command → Reply → Type 0
IsReplyTo (Publish caller key version value overwrite) reply = IsAskedReply reply
IsReplyTo (Delete caller key version) reply = IsAskedReply reply
IsReplyTo (Sweep caller owner generation) reply = IsSweepReply reply
IsReplyTo (Retrieve key) reply = IsRetrieveReply reply
IsReplyTo (NameOf endpoint) reply = IsNameReply reply
IsReplyTo (Subscribe sub query initial overwrite) reply = IsSubscribeReply reply
IsReplyTo (Check sub max) reply = IsCheckReply reply
IsReplyTo (Since scope at max) reply = IsSinceReply reply
IsReplyTo (Snapshot scope) reply = IsSnapshotReply reply
IsReplyTo (Page scope after max) reply = IsPageReply reply
IsReplyTo (Merge items) reply = IsMergeReply reply

abbrev pub RepliesFit : Type 0
RepliesFit = (s t : State) (command : Command) (reply : Reply) → Step s command reply t → IsReplyTo command reply
