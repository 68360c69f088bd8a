-- A sweep of format 1, which leaves tombstones.
use Rattle.std.specs.Prelude.{◌≡◌, ℕ, ◌+◌, ◌≤◌, Bool, not, ◌&&◌, nat_le, is_some, List, length, map, filter, cond}
use Rattle.ds_names.specs.Endpoint.{EndpointRecord, is_rs}
use Rattle.ds_entry.specs.Change.{ChangeRecord, change_of}
use Rattle.ds_names.specs.Kind.{is_label}
use Rattle.ds_entry.specs.declared.body.Body.TheVariants.{Gone}
use Rattle.ds_entry.specs.declared.item.Item.{Item}
use Rattle.ds_entry.specs.declared.item.Item.TheVariants.{Change as Changed}
use Rattle.ds_entry.specs.Left.{value_of}
use Rattle.ds_names.specs.Limits.{last_seq, last_place}
use Rattle.ds_machine.specs.Merging.{course}
use Rattle.ds_machine.specs.Parts.{changes_in}
use Rattle.ds_machine.specs.Reached.{IsReached}
use Rattle.ds_names.specs.Name.{is_same_name}
use Rattle.ds_machine.specs.State.{State, held, next_position, takes_effect, owed}
use Rattle.ds_machine.specs.declared.refusal.Refusal.TheVariants.{NotAllowed, Worn}
use Rattle.ds_machine.specs.declared.reply.Reply.{Reply}
use Rattle.ds_machine.specs.declared.reply.Reply.TheVariants.{Swept, Refused}
use Rattle.ds_replica.specs.CaughtUp.{AreItems}
use Rattle.ds_machine.specs.Batches.{AreFree}
use Rattle.ds_machine.specs.Taken.{HasNoFloor, all_taken}

-- Whether the change is a live entry of the owner, not a label, of at most this generation.
abbrev pub is_swept : List ℕ → ℕ → ChangeRecord → Bool
is_swept owner generation c =
    not (is_label c.key.kind) && is_some (value_of c) && is_same_name c.owner owner && nat_le c.version.epoch generation

-- The tombstone that replaces it: of the swept generation, with the last number, which no put has.
abbrev pub tombstone : List ℕ → ℕ → ChangeRecord → Item
tombstone owner generation c = Changed (change_of c.key owner (record { epoch = generation; seq = last_seq }) Gone)

-- All tombstones that a sweep leaves, in key order.
abbrev pub tombstones : List Item → List ℕ → ℕ → List Item
tombstones held owner generation = map (tombstone owner generation) (filter (is_swept owner generation) (changes_in held))

-- The reply and the state after a sweep: if the caller is RS and positions for them are left, all tombstones take
-- effect.
abbrev pub older_sweep : State → EndpointRecord → List ℕ → ℕ → Reply × State
older_sweep s caller owner generation =
    let gone = tombstones (held s) owner generation in
    cond (is_rs caller)
    (cond (nat_le (next_position s + length gone) last_place) (Swept (length gone) (owed s gone), takes_effect s gone) (Refused Worn, s))
    (Refused NotAllowed, s)

-- If no floor is held and positions are left, nothing refuses any of the tombstones, in order.
abbrev pub TombstonesAreFree : Type 0
TombstonesAreFree =
    (s : State) (owner : List ℕ) (generation : ℕ) →
    IsReached s → AreItems s.feed.accepted → HasNoFloor s → next_position s + length (tombstones (held s) owner generation) ≤ last_place →
    AreFree s (tombstones (held s) owner generation)

-- So a Merge takes all of them.
abbrev pub TombstonesAreTaken : Type 0
TombstonesAreTaken =
    (s : State) (owner : List ℕ) (generation : ℕ) →
    IsReached s → AreItems s.feed.accepted → HasNoFloor s → next_position s + length (tombstones (held s) owner generation) ≤ last_place →
    course s (tombstones (held s) owner generation) ≡ all_taken s (tombstones (held s) owner generation)
