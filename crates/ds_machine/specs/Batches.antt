-- Merges in which no cause applies to any item at its turn, done at once or in parts.
use Rattle.std.specs.Prelude.{◌≡◌, ℕ, ◌+◌, ◌≤◌, List, [], ◌∷◌, ◌++◌, length, map, Contains, None}
use Rattle.std.specs.Int.Bits.{bit_or}
use Rattle.ds_entry.specs.Change.{ChangeRecord}
use Rattle.ds_entry.specs.declared.item.Item.{Item}
use Rattle.ds_entry.specs.declared.item.Item.TheVariants.{Change as Changed}
use Rattle.ds_names.specs.Limits.{most_items, last_place}
use Rattle.ds_machine.specs.Machine.{Step}
use Rattle.ds_machine.specs.Merging.{course}
use Rattle.ds_machine.specs.Reached.{IsReached}
use Rattle.ds_machine.specs.Standing.{cause_of}
use Rattle.ds_machine.specs.State.{State, next_position, takes_effect, owed}
use Rattle.ds_machine.specs.declared.command.Command.TheVariants.{Merge}
use Rattle.ds_machine.specs.declared.reply.Reply.TheVariants.{Merged}
use Rattle.ds_machine.specs.Taken.{HasNoFloor, TakesHeld, KeysApart, all_taken}

-- Whether no cause applies to any of the items, once those before it took effect.
abbrev pub AreFree : State → List Item → Type 0
AreFree s [] = Unit {0}
AreFree s (i ∷ items) = (cause_of s i ≡ None) × AreFree (takes_effect s (i ∷ [])) items

-- A law: a merge takes all of them.
abbrev pub FreeAreTaken : Type 0
FreeAreTaken = (s : State) (items : List Item) → AreFree s items → course s items ≡ all_taken s items

-- A law: the first part is free, and after it so is the rest.
abbrev pub FreeInParts : Type 0
FreeInParts = (s : State) (part rest : List Item) → AreFree s (part ++ rest) → AreFree s part × AreFree (takes_effect s part) rest

-- A law: the reply of a store that merged them.
abbrev pub FreeAreAnswered : Type 0
FreeAreAnswered =
    (s t : State) (items : List Item) (done taken stale owed_mask : ℕ) → AreFree s items → length items ≤ most_items →
    Step s (Merge items) (Merged done taken stale owed_mask) t →
    (t ≡ takes_effect s items) × (owed_mask ≡ owed s items) × (done ≡ length items) × (taken ≡ length items) × (stale ≡ 0)

-- A law: changes of distinct keys that take the places of held ones are free.
abbrev pub PlacesAreFree : Type 0
PlacesAreFree =
    (s : State) (cs : List ChangeRecord) → IsReached s → HasNoFloor s → ((c : ChangeRecord) → Contains cs c → TakesHeld s c) →
    KeysApart cs →
    next_position s + length cs ≤ last_place → AreFree s (map Changed cs)

-- A law: what is owed for the whole is what is owed for either part.
abbrev pub OwedInParts : Type 0
OwedInParts = (s : State) (part rest : List Item) → owed s (part ++ rest) ≡ bit_or (owed s part) (owed s rest)
