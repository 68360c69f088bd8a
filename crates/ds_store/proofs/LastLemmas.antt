-- The machine's own answers need no memory.
use Rattle.std.proofs.Common.{◌≢◌, ℕ, List, [], ◌∷◌, length, take, Option, Some, None, refl}
use Rattle.std.specs.Option.{option_map, option_map_or}
use Rattle.ds_names.specs.Endpoint.{EndpointRecord}
use Rattle.ds_entry.specs.declared.body.Value.{Value}
use Rattle.ds_entry.specs.declared.body.Body.{Body}
use Rattle.ds_entry.specs.declared.body.Body.TheVariants.{Put, Gone}
use Rattle.ds_entry.specs.declared.floor.Floor.{Floor}
use Rattle.ds_entry.specs.declared.item.Item.{Item}
use Rattle.ds_entry.specs.Floor.{floor_of}
use Rattle.ds_machine.specs.State.{State, held, unseen, subscription_at, owed}
use Rattle.ds_machine.specs.Subscription.{Subscription}
use Rattle.ds_machine.specs.Order.{first_refusal}
use Rattle.ds_machine.specs.Standing.{standing_of, floor_standing_of}
use Rattle.ds_machine.specs.Asking.{AskedChange, published, deleted, name_of, asked_in, against_asked, cause_against, against_sweep}
use Rattle.ds_machine.specs.Asking.{sweep_cause}
use Rattle.ds_machine.specs.Calling.{against_subscribe, against_check, against_scope, against_since, against_page, against_merge}
use Rattle.ds_machine.specs.Merging.{Course, course, merge_reply}
use Rattle.ds_machine.specs.Watching.{subscribe_case, check_case, shows}
use Rattle.ds_machine.specs.Machine.{answer_for, sweep_answer, found_or, live_at, asking, sweeping}
use Rattle.ds_machine.specs.declared.refusal.Cause.{Cause}
use Rattle.ds_machine.specs.declared.refusal.Cause.TheVariants as causes
use Rattle.ds_machine.specs.declared.refusal.Refusal.{Refusal}
use Rattle.ds_machine.specs.declared.refusal.Refusal.TheVariants as refusals
use Rattle.ds_machine.specs.declared.command.Command.{Command}
use Rattle.ds_machine.specs.declared.command.Command.TheVariants.{Publish, Delete, Sweep, Retrieve, NameOf, Subscribe, Check, Since}
use Rattle.ds_machine.specs.declared.command.Command.TheVariants.{Snapshot, Page, Merge}
use Rattle.ds_machine.specs.declared.reply.Reply.{Reply}
use Rattle.ds_machine.specs.declared.reply.Reply.TheVariants as replies
use Rattle.ds_store.specs.Last.{IsLast, OutcomesAreLast}
use Rattle.ds_store.proofs.RoomLemmas.{no_cause, no_refusal, no_course}

-- a reply that isn't lack of memory, nor a merge that stopped for it
refused : (s : State) (command : Command) (r : Refusal) → r ≢ refusals.NoRoom → IsLast s command (replies.Refused r)
refused s command refusals.NoRoom n = absurd (n refl)
refused s command refusals.BadSub n = tt
refused s command refusals.TooMany n = tt
refused s command refusals.TooLong n = tt
refused s command refusals.BadPattern n = tt
refused s command refusals.BadKind n = tt
refused s command refusals.BadLabel n = tt
refused s command refusals.BadVersion n = tt
refused s command refusals.NoCaller n = tt
refused s command refusals.NotAllowed n = tt
refused s command refusals.NotOwner n = tt
refused s command (refusals.Clash v) n = tt
refused s command refusals.Stale n = tt
refused s command refusals.Exists n = tt
refused s command refusals.NotFound n = tt
refused s command refusals.OldCursor n = tt
refused s command refusals.Ahead n = tt
refused s command refusals.Behind n = tt
refused s command refusals.Full n = tt
refused s command refusals.Worn n = tt
refused s command refusals.BadRing n = tt
refused s command refusals.BadFirst n = tt

some_refusal : (r : Refusal) → Some r ≢ Some refusals.NoRoom → r ≢ refusals.NoRoom
some_refusal r n e = n (cc)

some_cause : (r : Refusal) → Some (causes.Refused r) ≢ Some (causes.Refused refusals.NoRoom) → r ≢ refusals.NoRoom
some_cause r n e = n (cc)

-- the answer if a refusal may apply that isn't lack of memory, and the answer otherwise isn't either
or_refused : (s : State) (command : Command) (o : Option Refusal) → o ≢ Some refusals.NoRoom → (other : Reply × State) →
    IsLast s command other.0 →
    IsLast s command (option_map_or {U = Reply × State} (λ (r : Refusal). (replies.Refused r, s)) o other).0
or_refused s command None n other last = last
or_refused s command (Some r) n other last = refused s command r (some_refusal r n)

asked : (s : State) (command : Command) (a : AskedChange) (body : Body) → IsLast s command (asking s a body).0
asked s command a body = by_cause (cause_against s a body)
    (no_cause (Some a.version) (against_asked (standing_of s (asked_in s a body)) (name_of (held s) a.caller) a body)) _ _
  where
    by_cause : (o : Option Cause) → o ≢ Some (causes.Refused refusals.NoRoom) → (other : ℕ) (t : State) →
        IsLast s command (option_map_or {U = Reply × State} (λ (cause : Cause). (answer_for cause, s)) o (replies.Changed other, t)).0
    by_cause None n other t = tt
    by_cause (Some causes.Known) n other t = tt
    by_cause (Some (causes.Refused r)) n other t = refused s command r (some_cause r n)

swept : (s : State) (command : Command) (caller : EndpointRecord) (f : Floor) → IsLast s command (sweeping s caller f).0
swept s command caller f = by_cause (sweep_cause s caller f) (no_cause None (against_sweep (floor_standing_of s f) caller f)) _ _ _
  where
    by_cause : (o : Option Cause) → o ≢ Some (causes.Refused refusals.NoRoom) → (count other : ℕ) (t : State) →
        IsLast s command (option_map_or {U = Reply × State} (λ (cause : Cause). (sweep_answer cause, s)) o (replies.Swept count other, t)).0
    by_cause None n count other t = tt
    by_cause (Some causes.Known) n count other t = tt
    by_cause (Some (causes.Refused r)) n count other t = by_refusal r (some_cause r n)
      where
        by_refusal : (r : Refusal) → r ≢ refusals.NoRoom → IsLast s command (sweep_answer (causes.Refused r))
        by_refusal refusals.Stale m = tt
        by_refusal refusals.NoRoom m = absurd (m refl)
        by_refusal refusals.BadSub m = tt
        by_refusal refusals.TooMany m = tt
        by_refusal refusals.TooLong m = tt
        by_refusal refusals.BadPattern m = tt
        by_refusal refusals.BadKind m = tt
        by_refusal refusals.BadLabel m = tt
        by_refusal refusals.BadVersion m = tt
        by_refusal refusals.NoCaller m = tt
        by_refusal refusals.NotAllowed m = tt
        by_refusal refusals.NotOwner m = tt
        by_refusal (refusals.Clash v) m = tt
        by_refusal refusals.Exists m = tt
        by_refusal refusals.NotFound m = tt
        by_refusal refusals.OldCursor m = tt
        by_refusal refusals.Ahead m = tt
        by_refusal refusals.Behind m = tt
        by_refusal refusals.Full m = tt
        by_refusal refusals.Worn m = tt
        by_refusal refusals.BadRing m = tt
        by_refusal refusals.BadFirst m = tt

found_last : (s : State) (command : Command) (o : Option Value) → IsLast s command (found_or (option_map replies.Found o))
found_last s command None = tt
found_last s command (Some value) = tt

named_last : (s : State) (command : Command) (o : Option (List ℕ)) → IsLast s command (found_or (option_map replies.Named o))
named_last s command None = tt
named_last s command (Some name) = tt

shown_last : (s : State) (command : Command) (sub : ℕ) (seer : Subscription) (items : List Item) →
    IsLast s command (shows s sub seer items).0
shown_last s command sub seer [] = tt
shown_last s command sub seer (i ∷ items) = tt

checked_last : (s : State) (command : Command) (sub max : ℕ) (seer : Option Subscription) →
    IsLast s command (option_map_or {U = Reply × State} (λ (f : Subscription). shows s sub f (take max (unseen s f))) seer
    (replies.Refused refusals.NotFound, s)).0
checked_last s command sub max None = tt
checked_last s command sub max (Some f) = shown_last s command sub f (take max (unseen s f))

merged_last : (s : State) (items : List Item) (k : Course) → k.stop ≢ Some refusals.NoRoom → IsLast s (Merge items) (merge_reply s k)
merged_last s items k n = by_stop k.stop n k.done (length k.taken) k.stale (owed s k.taken)
  where
    by_stop : (o : Option Refusal) → o ≢ Some refusals.NoRoom → (done taken stale owed : ℕ) →
        IsLast s (Merge items) (option_map_or {U = Reply} (λ (fault : Refusal). replies.MergeStopped done fault owed) o
        (replies.Merged done taken stale owed))
    by_stop None m done taken stale owed = tt
    by_stop (Some refusals.NoRoom) m done taken stale owed = absurd (m refl)
    by_stop (Some (refusals.Clash v)) m done taken stale owed = tt
    by_stop (Some refusals.BadSub) m done taken stale owed = tt
    by_stop (Some refusals.TooMany) m done taken stale owed = tt
    by_stop (Some refusals.TooLong) m done taken stale owed = tt
    by_stop (Some refusals.BadPattern) m done taken stale owed = tt
    by_stop (Some refusals.BadKind) m done taken stale owed = tt
    by_stop (Some refusals.BadLabel) m done taken stale owed = tt
    by_stop (Some refusals.BadVersion) m done taken stale owed = tt
    by_stop (Some refusals.NoCaller) m done taken stale owed = tt
    by_stop (Some refusals.NotAllowed) m done taken stale owed = tt
    by_stop (Some refusals.NotOwner) m done taken stale owed = tt
    by_stop (Some refusals.Stale) m done taken stale owed = tt
    by_stop (Some refusals.Exists) m done taken stale owed = tt
    by_stop (Some refusals.NotFound) m done taken stale owed = tt
    by_stop (Some refusals.OldCursor) m done taken stale owed = tt
    by_stop (Some refusals.Ahead) m done taken stale owed = tt
    by_stop (Some refusals.Behind) m done taken stale owed = tt
    by_stop (Some refusals.Full) m done taken stale owed = tt
    by_stop (Some refusals.Worn) m done taken stale owed = tt
    by_stop (Some refusals.BadRing) m done taken stale owed = tt
    by_stop (Some refusals.BadFirst) m done taken stale owed = tt

pub last : OutcomesAreLast
last s (Publish caller key version value overwrite) =
    asked s (Publish caller key version value overwrite) (published caller key version overwrite) (Put value)
last s (Delete caller key version) = asked s (Delete caller key version) (deleted caller key version) Gone
last s (Sweep caller owner generation) = swept s (Sweep caller owner generation) caller (floor_of owner generation)
last s (Retrieve key) = found_last s (Retrieve key) (live_at s key)
last s (NameOf endpoint) = named_last s (NameOf endpoint) (name_of (held s) endpoint)
last s (Subscribe sub query initial overwrite) =
    or_refused s (Subscribe sub query initial overwrite) (first_refusal (against_subscribe (subscribe_case s sub query overwrite)))
    (no_refusal (against_subscribe (subscribe_case s sub query overwrite))) _ tt
last s (Check sub max) =
    or_refused s (Check sub max) (first_refusal (against_check (check_case s sub max (subscription_at s sub))))
    (no_refusal (against_check (check_case s sub max (subscription_at s sub)))) _
    (checked_last s (Check sub max) sub max (subscription_at s sub))
last s (Since scope at max) = or_refused s (Since scope at max) (first_refusal (against_since s.feed scope at max))
    (no_refusal (against_since s.feed scope at max)) _ tt
last s (Snapshot scope) = or_refused s (Snapshot scope) (first_refusal (against_scope scope)) (no_refusal (against_scope scope)) _ tt
last s (Page scope after max) = or_refused s (Page scope after max) (first_refusal (against_page scope max))
    (no_refusal (against_page scope max)) _ tt
last s (Merge items) =
    or_refused s (Merge items) (first_refusal (against_merge (length items))) (no_refusal (against_merge (length items)))
    (merge_reply s (course s items), (course s items).state) (merged_last s items (course s items) (no_course s items))
