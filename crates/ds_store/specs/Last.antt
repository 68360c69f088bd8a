-- When a store may report that it is out of memory: only where memory is taken, and after every cause that applies.
use Rattle.std.specs.Prelude.{◌≡◌, ◌≢◌, ◌⊎◌, ℕ, Bool, true, List, [], ◌∷◌, Option, Some, None, is_some, slice_get, take}
use Rattle.std.specs.List.{find}
use Rattle.ds_names.specs.declared.kind.Kind.{Kind}
use Rattle.ds_names.specs.declared.kind.Kind.TheVariants.{Label, U32, Str, Mem}
use Rattle.ds_names.specs.declared.version.Version.{Version}
use Rattle.ds_entry.specs.Change.{ValueCopyTakesMemory, BodyCopyTakesMemory}
use Rattle.ds_entry.specs.Floor.{floor_of}
use Rattle.ds_entry.specs.declared.body.Body.{Body}
use Rattle.ds_entry.specs.declared.body.Value.{Value}
use Rattle.ds_entry.specs.declared.body.Body.TheVariants.{Put, Gone}
use Rattle.ds_entry.specs.declared.item.Item.{Item}
use Rattle.ds_entry.specs.declared.item.Item.TheVariants.{Change as Changed, Floor as Floored}
use Rattle.ds_machine.specs.Parts.{held_at, floor_at}
use Rattle.ds_machine.specs.State.{State, held, subscription_at}
use Rattle.ds_machine.specs.Order.{first_cause, first_refusal}
use Rattle.ds_machine.specs.Standing.{cause_of}
use Rattle.ds_machine.specs.Asking.{AskedChange, asked_in, published, deleted, cause_against, sweep_cause}
use Rattle.ds_machine.specs.Calling.{against_subscribe, against_check, against_scope, against_since, against_page}
use Rattle.ds_machine.specs.Merging.{course}
use Rattle.ds_machine.specs.Watching.{subscribe_case, check_case}
use Rattle.ds_machine.specs.Machine.{live_at, outcome}
use Rattle.ds_machine.specs.declared.refusal.Cause.{Cause}
use Rattle.ds_machine.specs.declared.refusal.Cause.TheVariants as causes
use Rattle.ds_machine.specs.declared.refusal.Refusal.{Refusal}
use Rattle.ds_machine.specs.declared.refusal.Refusal.TheVariants.{BadSub, TooMany, TooLong, NoRoom}
use Rattle.ds_machine.specs.declared.command.Scope.{Scope}
use Rattle.ds_machine.specs.declared.command.Scope.TheVariants.{All, Under}
use Rattle.ds_machine.specs.declared.command.Command.{Command}
use Rattle.ds_machine.specs.declared.command.Command.TheVariants.{Publish, Delete, Sweep, Retrieve, NameOf, Subscribe}
use Rattle.ds_machine.specs.declared.command.Command.TheVariants.{Check, Since, Snapshot, Page, Merge}
use Rattle.ds_machine.specs.declared.reply.Reply.{Reply}
use Rattle.ds_machine.specs.declared.reply.Reply.TheVariants.{MergeStopped, Refused}
use Rattle.ds_machine.specs.Scope.{is_kept}
use Rattle.ds_feed.specs.Since.{since_of}
use Rattle.ds_store.specs.Reading.{page_in, snapshot_in}

-- The refusals that are judged before a pattern is read. Reading a pattern may take memory.
abbrev pub before_patterns : List Refusal
before_patterns = BadSub ∷ TooMany ∷ TooLong ∷ []

-- The scope has a pattern, and no refusal judged before it applies.
abbrev pub ReadsPattern : Scope → (Refusal → Bool) → Type 0
ReadsPattern All stands = ⊥
ReadsPattern (Under query) stands = find stands before_patterns ≡ None

-- Whether giving these items under the scope takes memory: each item takes some, and so does a pattern.
abbrev pub GivingTakesMemory : Scope → List Item → Type 0
GivingTakesMemory All given = given ≢ []
GivingTakesMemory (Under query) given = Unit {0}

-- A command with a scope may be refused for lack of memory: no refusal applies and there is something to give, or no
-- refusal that is judged before the scope's pattern applies.
abbrev pub MayLackFor : Scope → (Refusal → Bool) → List Item → Type 0
MayLackFor All stands given = (first_refusal stands ≡ None) × (given ≢ [])
MayLackFor (Under query) stands given = find stands before_patterns ≡ None

-- Whether values of the kind take no memory.
abbrev pub IsKindInPlace : Kind → Type 0
IsKindInPlace Label = Unit {0}
IsKindInPlace U32 = Unit {0}
IsKindInPlace Str = ⊥
IsKindInPlace Mem = ⊥

-- Whether the item takes memory when it takes effect. A change does if its key isn't held, or if its body is a text
-- or a blob that isn't empty; a floor does if its owner has none yet.
abbrev pub MergeTakesMemory : State → Item → Type 0
MergeTakesMemory s (Changed c) = (held_at (held s) c.key ≡ None) ⊎ BodyCopyTakesMemory c.body
MergeTakesMemory s (Floored f) = floor_at (held s) f.owner ≡ None

-- What the caller asks for takes effect, since no cause applies to it, and takes memory.
abbrev pub MayLackAsked : State → AskedChange → Body → Type 0
MayLackAsked s a body = (cause_against s a body ≡ None) × MergeTakesMemory s (Changed (asked_in s a body))

-- The item of another holder takes effect, since no cause applies to it, and takes memory.
abbrev pub MayLackItem : State → Item → Type 0
MayLackItem s i = (cause_of s i ≡ None) × MergeTakesMemory s i

-- The command may be refused for lack of memory: no cause applies, or none judged before its pattern, and it takes
-- memory. A Merge is never refused so; it stops at an item.
abbrev pub MayLackRoom : State → Command → Type 0
MayLackRoom s (Publish caller key version value overwrite) = MayLackAsked s (published caller key version overwrite) (Put value)
MayLackRoom s (Delete caller key version) = MayLackAsked s (deleted caller key version) Gone
MayLackRoom s (Sweep caller owner generation) =
    let f = floor_of owner generation in (sweep_cause s caller f ≡ None) × MergeTakesMemory s (Floored f)
MayLackRoom s (Retrieve key) = (value : Value) × (live_at s key ≡ Some value) × ValueCopyTakesMemory value
MayLackRoom s (NameOf endpoint) = ⊥
MayLackRoom s (Subscribe sub query initial overwrite) =
    find (against_subscribe (subscribe_case s sub query overwrite)) before_patterns ≡ None
MayLackRoom s (Check sub max) =
    let case = check_case s sub max (subscription_at s sub) in (first_refusal (against_check case) ≡ None) × (case.some ≡ true)
MayLackRoom s (Since scope at max) =
    MayLackFor scope (against_since s.feed scope at max) (since_of s.feed (is_kept scope) at max).items
MayLackRoom s (Snapshot scope) = MayLackFor scope (against_scope scope) (snapshot_in s scope).items
MayLackRoom s (Page scope after max) = MayLackFor scope (against_page scope max) (page_in s scope after max).items
MayLackRoom s (Merge items) = ⊥

-- The item after the first `done` ones of a Merge takes effect and takes memory.
pub record TakesNext (s : State) (items : List Item) (done : ℕ) : Type 0 where
  pub item : Item
  pub is_next : slice_get items done ≡ Some item
  pub lacks : MayLackItem (course s (take done items)).state item

-- The reply reports lack of memory only where it may. A Merge stops for it only at an item that takes effect and takes
-- memory.
abbrev pub IsLast : State → Command → Reply → Type 0
IsLast s command (Refused NoRoom) = MayLackRoom s command
IsLast s (Merge items) (MergeStopped done NoRoom owed) = TakesNext s items done
IsLast s command reply = Unit {0}

-- A law: lack of memory isn't in the order of causes.
abbrev pub NoRoomIsNoCause : Type 0
NoRoomIsNoCause = (version : Option Version) (stands : Cause → Bool) → first_cause version stands ≢ Some (causes.Refused NoRoom)

-- A law: nor is it in the order of refusals.
abbrev pub NoRoomIsNoRefusal : Type 0
NoRoomIsNoRefusal = (stands : Refusal → Bool) → first_refusal stands ≢ Some NoRoom

-- A law: the machine's own answers never need memory.
abbrev pub OutcomesAreLast : Type 0
OutcomesAreLast = (s : State) (command : Command) → IsLast s command (outcome s command).0

-- A law: a command that reads a pattern may be out of memory.
abbrev pub PatternMayLackRoom : Type 0
PatternMayLackRoom =
    (scope : Scope) (stands : Refusal → Bool) (given : List Item) → ReadsPattern scope stands → MayLackFor scope stands given

-- A law: a command that no refusal applies to may be out of memory for what it gives, and under the scope of all keys
-- only if it gives something.
abbrev pub BehindMayLackRoom : Type 0
BehindMayLackRoom =
    (scope : Scope) (stands : Refusal → Bool) (given : List Item) → first_refusal stands ≡ None → GivingTakesMemory scope given →
    MayLackFor scope stands given
