-- A sweep of format 1, part by part.
use Rattle.std.specs.Prelude.{◌≡◌, ℕ, cond, List, Option, Some, None}
use Rattle.ds_content.specs.Content.{ContentRecord}
use Rattle.ds_content.specs.Stands.{ContentStands}
use Rattle.ds_entry.specs.Change.{ChangeRecord}
use Rattle.ds_entry.specs.declared.item.Item.{Item}
use Rattle.ds_held.specs.Limits.{LimitsRecord}
use Rattle.ds_machine.specs.Batches.{AreFree}
use Rattle.ds_machine.specs.State.{State, takes_effect, owed}
use Rattle.ds_machine.specs.declared.reply.Reply.{Reply}
use Rattle.script_commands.specs.declared.command.ScriptCommand.{ScriptCommand}
use Rattle.ds_machine.specs.declared.command.Command.TheVariants as machine
use Rattle.script_commands.specs.declared.command.ScriptCommand.TheVariants as commands
use Rattle.trace_walk.specs.declared.header.Format.{Format}
use Rattle.trace_walk.specs.declared.header.Format.TheVariants.{One}
use Rattle.trace_walk.specs.OneReply.{IsTraced}
use Rattle.trace_walk.specs.Sweep.{is_swept, tombstone, older_sweep}
use Rattle.trace_walk.specs.Text.{TraceEntry}
use Rattle.trace_walk.specs.Upgrade.{SweepBecomes}
use Rattle.trace_walk.specs.declared.merges.Merges.{Merges}
use Rattle.trace_walk.specs.declared.sweep.Sweep.{Sweep}
use Rattle.trace_walk.specs.Merging.{AreEntries}

-- The sweep of format 1 that the command is, if it is one.
abbrev pub older_of : Format → ScriptCommand → Option Sweep
older_of One (commands.Store (machine.Sweep caller owner generation)) =
    Some (record { caller = caller; owner = owner; generation = generation })
older_of format command = None

-- The tombstone for a change, if the sweep ends it.
abbrev pub tombstone_over : List ℕ → ℕ → ChangeRecord → Option Item
tombstone_over owner generation c = cond (is_swept owner generation c) (Some (tombstone owner generation c)) None

-- Whether some tombstones that nothing refuses took effect, with the mask of what they owe.
abbrev pub MergesPart : ContentRecord → List Item → ℕ → ContentRecord → Type 0
MergesPart old part mask new =
    (s : State) → ContentStands old s → AreFree s part → (mask ≡ owed s part) × ContentStands new (takes_effect s part)

-- Whether the store swept as in format 1.
abbrev pub SweepsAs : ContentRecord → Sweep → Reply → ContentRecord → Type 0
SweepsAs old sweep reply new =
    (s : State) → ContentStands old s → IsTraced One s →
    (reply ≡ (older_sweep s sweep.caller sweep.owner sweep.generation).0) ×
    ContentStands new (older_sweep s sweep.caller sweep.owner sweep.generation).1

-- Whether the entries are the sweep in format 2, by its reply.
abbrev pub IsSweptInMerges : State → ℕ → LimitsRecord → Sweep → Reply → Merges → Type 0
IsSweptInMerges s pass limits sweep reply merges =
    (entries : List TraceEntry) × SweepBecomes s pass sweep.owner sweep.generation reply entries × AreEntries limits merges entries

-- Whether the store swept as in format 1, and these Merges are that sweep in format 2.
abbrev pub SweepsInMerges : ContentRecord → ℕ → LimitsRecord → Sweep → Reply × Merges → ContentRecord → Type 0
SweepsInMerges old pass limits sweep r new =
    SweepsAs old sweep r.0 new × ((s : State) → ContentStands old s → IsTraced One s → IsSweptInMerges s pass limits sweep r.0 r.1)
