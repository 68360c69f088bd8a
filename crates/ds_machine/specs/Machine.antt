-- The steps of the store's machine.
use Rattle.std.specs.Prelude.{◌≡◌, ℕ, ◌<◌, ◌≤◌, ◌⊎◌, List, [], ◌∷◌, length, take, Option, Some, None}
use Rattle.std.specs.Option.{option_map, option_map_or, option_and_then}
use Rattle.ds_names.specs.declared.key.Key.{Key}
use Rattle.ds_names.specs.Endpoint.{EndpointRecord}
use Rattle.ds_entry.specs.declared.body.Value.{Value}
use Rattle.ds_entry.specs.declared.body.Body.{Body}
use Rattle.ds_entry.specs.declared.body.Body.TheVariants.{Put, Gone}
use Rattle.ds_entry.specs.declared.floor.Floor.{Floor}
use Rattle.ds_entry.specs.declared.item.Item.{Item}
use Rattle.ds_entry.specs.declared.item.Item.TheVariants.{Change as Changed, Floor as Floored}
use Rattle.ds_entry.specs.Floor.{floor_of}
use Rattle.ds_held.specs.Kept.{puts_void_by}
use Rattle.ds_feed.specs.declared.cursor.Cursor.{Cursor}
use Rattle.ds_feed.specs.Since.{since_of}
use Rattle.ds_feed.specs.Page.{snapshot_of, page_of}
use Rattle.ds_machine.specs.Scope.{is_kept}
use Rattle.ds_machine.specs.Parts.{changes_in, held_at}
use Rattle.ds_machine.specs.State.{State, held, cursor, takes_effect, owed}
use Rattle.ds_machine.specs.Order.{first_refusal}
use Rattle.ds_machine.specs.Asking.{AskedChange, published, deleted, name_of, asked_in, cause_against, sweep_cause}
use Rattle.ds_machine.specs.Calling.{against_scope, against_since, against_page, against_merge}
use Rattle.ds_machine.specs.Merging.{course, merging}
use Rattle.ds_machine.specs.Watching.{subscribing, checking}
use Rattle.ds_machine.specs.declared.refusal.Cause.{Cause}
use Rattle.ds_machine.specs.declared.refusal.Cause.TheVariants as causes
use Rattle.ds_machine.specs.declared.refusal.Refusal.TheVariants as refusals
use Rattle.ds_machine.specs.declared.command.Scope.{Scope}
use Rattle.ds_machine.specs.declared.command.Command.{Command}
use Rattle.ds_machine.specs.declared.command.Command.TheVariants.{Publish, Delete, Sweep, Retrieve, NameOf, Subscribe}
use Rattle.ds_machine.specs.declared.command.Command.TheVariants.{Check, Since, Snapshot, Page, Merge}
use Rattle.ds_machine.specs.declared.reply.Reply.{Reply}
use Rattle.ds_machine.specs.declared.reply.Reply.TheVariants.{Changed as Accepted, Known, Swept, Found, Named, Journaled}
use Rattle.ds_machine.specs.declared.reply.Reply.TheVariants.{Snapped, Paged, MergeStopped, Refused}
use Rattle.ds_names.specs.Limits.{most_items}
use Rattle.ds_entry.specs.Left.{value_of}

-- ---- a Publish or a Delete

-- The reply if a cause applies to a Publish or a Delete: Known for a repeat, else a refusal.
abbrev pub answer_for : Cause → Reply
answer_for causes.Known = Known
answer_for (causes.Refused refusal) = Refused refusal

-- The reply and state of a Publish or a Delete. The change takes effect unless a cause applies to it.
abbrev pub asking : State → AskedChange → Body → Reply × State
asking s a body =
    option_map_or (λ cause. (answer_for cause, s)) (cause_against s a body)
    (Accepted (owed s (Changed (asked_in s a body) ∷ [])), takes_effect s (Changed (asked_in s a body) ∷ []))

-- ---- a Sweep

-- The reply if a cause applies to a Sweep: a floor not above the held one changes nothing; any other cause refuses.
abbrev pub sweep_answer : Cause → Reply
sweep_answer causes.Known = Swept 0 0
sweep_answer (causes.Refused refusals.Stale) = Swept 0 0
sweep_answer (causes.Refused refusal) = Refused refusal

-- The reply and state of a Sweep. The floor is raised unless a cause applies to it, and is owed to every subscription.
abbrev pub sweeping : State → EndpointRecord → Floor → Reply × State
sweeping s caller f =
    option_map_or (λ cause. (sweep_answer cause, s)) (sweep_cause s caller f)
    (Swept (length (puts_void_by f (changes_in (held s)))) (owed s (Floored f ∷ [])), takes_effect s (Floored f ∷ []))

-- ---- a Retrieve and a NameOf

-- The reply if there is one, else NotFound.
abbrev pub found_or : Option Reply → Reply
found_or (Some reply) = reply
found_or None = Refused refusals.NotFound

-- The live value of the key.
abbrev pub live_at : State → Key → Option Value
live_at s key = option_and_then value_of (held_at (held s) key)

abbrev pub retrieving : State → Key → Reply × State
retrieving s key = (found_or (option_map Found (live_at s key)), s)

abbrev pub naming : State → EndpointRecord → Reply × State
naming s endpoint = (found_or (option_map Named (name_of (held s) endpoint)), s)

-- ---- a Since, a Snapshot and a Page

-- The reply and state of a Since: up to `max` accepted items under the scope from the cursor on, and the cursor after
-- all that was looked at.
abbrev pub journaling : State → Scope → Cursor → ℕ → Reply × State
journaling s scope at max =
    option_map_or (λ r. (Refused r, s)) (first_refusal (against_since s.feed scope at max))
    (Journaled (since_of s.feed (is_kept scope) at max), s)

-- The reply and state of a Snapshot: everything held under the scope.
abbrev pub snapping : State → Scope → Reply × State
snapping s scope =
    option_map_or (λ r. (Refused r, s)) (first_refusal (against_scope scope)) (Snapped (snapshot_of (is_kept scope) (held s) (cursor s)), s)

-- The reply and state of a Page: the first `max` changes after the key that are held under the scope, and all floors on
-- the first page.
abbrev pub paging : State → Scope → Option Key → ℕ → Reply × State
paging s scope after max =
    option_map_or (λ r. (Refused r, s)) (first_refusal (against_page scope max))
    (Paged (page_of (is_kept scope) after max (held s) (cursor s)), s)

-- ---- all commands

-- The reply to a command, and the state after it.
abbrev pub outcome : State → Command → Reply × State
outcome s (Publish caller key version value overwrite) = asking s (published caller key version overwrite) (Put value)
outcome s (Delete caller key version) = asking s (deleted caller key version) Gone
outcome s (Sweep caller owner generation) = sweeping s caller (floor_of owner generation)
outcome s (Retrieve key) = retrieving s key
outcome s (NameOf endpoint) = naming s endpoint
outcome s (Subscribe sub query initial overwrite) = subscribing s sub query initial overwrite
outcome s (Check sub max) = checking s sub max
outcome s (Since scope at max) = journaling s scope at max
outcome s (Snapshot scope) = snapping s scope
outcome s (Page scope after max) = paging s scope after max
outcome s (Merge items) = merging s items (first_refusal (against_merge (length items)))

-- The reply and the new state are those of the outcome.
pub record IsOutcome (out : Reply × State) (reply : Reply) (new : State) : Type 0 where
  pub reply_is : reply ≡ out.0
  pub state_is : new ≡ out.1

-- The command was refused for lack of memory, and nothing changed.
pub record WantsRoom (old : State) (reply : Reply) (new : State) : Type 0 where
  pub reply_is : reply ≡ Refused refusals.NoRoom
  pub state_is : new ≡ old

abbrev pub Answers : State → Reply × State → Reply → State → Type 0
Answers old out reply new = IsOutcome out reply new ⊎ WantsRoom old reply new

-- Whether memory ran out after `done` items of a Merge. None of them was refused, and they took effect.
pub record StopsForRoom (old : State) (items : List Item) (reply : Reply) (new : State) (done : ℕ) : Type 0 where
  pub few : length items ≤ most_items
  pub some_left : done < length items
  pub not_refused : (course old (take done items)).stop ≡ None
  pub reply_is : reply ≡ MergeStopped done refusals.NoRoom (owed old (course old (take done items)).taken)
  pub state_is : new ≡ (course old (take done items)).state

-- A merge ran out of memory after some number of items.
abbrev pub MergeWantsRoom : State → Command → Reply → State → Type 0
MergeWantsRoom old (Merge items) reply new = (done : ℕ) × StopsForRoom old items reply new done
MergeWantsRoom old _ reply new = ⊥

-- Whether the command leads from the first state to the second with this reply, by one step of the machine.
abbrev pub Step : State → Command → Reply → State → Type 0
Step old command reply new = Answers old (outcome old command) reply new ⊎ MergeWantsRoom old command reply new

-- A run: each command gets its reply, one step after another.
abbrev pub Run : State → List Command → List Reply → State → Type 0
Run old [] [] new = new ≡ old
Run old (command ∷ commands) (reply ∷ replies) new = (mid : State) × Step old command reply mid × Run mid commands replies new
Run old [] (reply ∷ replies) new = ⊥
Run old (command ∷ commands) [] new = ⊥
