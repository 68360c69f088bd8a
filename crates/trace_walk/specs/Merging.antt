-- Merges that take all of their items, as entries of a trace.
use Rattle.std.specs.Prelude.{◌≡◌, ℕ, List, [], length}
use Rattle.std.specs.List.{flat_map}
use Rattle.ds_entry.specs.declared.item.Item.{Item}
use Rattle.ds_held.specs.Limits.{LimitsRecord}
use Rattle.ds_machine.specs.declared.reply.Reply.{Reply}
use Rattle.ds_machine.specs.declared.reply.Reply.TheVariants.{Merged}
use Rattle.trace_walk.specs.declared.asked.Asked.TheVariants.{Merge}
use Rattle.trace_walk.specs.Text.{TraceEntry, entry_text}
use Rattle.trace_walk.specs.declared.merges.Merges.{Merges}

-- The entry of a pass that merges the items, with this reply.
abbrev pub told_merge : ℕ → List Item → Reply → TraceEntry
told_merge pass items reply = record { pass = pass; asked = Merge items; reply = reply }

-- The entry of a pass that merges the items, all of which took effect, with the mask of what they owe.
abbrev pub taking_entry : ℕ → List Item → ℕ → TraceEntry
taking_entry pass items owed = told_merge pass items (Merged (length items) (length items) 0 owed)

-- Whether there are no merges.
pub record IsEmpty (merges : Merges) : Type 0 where
  pub text : merges.text.items ≡ []
  pub count : merges.count ≡ 0

-- Whether the merges are these entries, as text, and counted.
pub record AreEntries (limits : LimitsRecord) (merges : Merges) (entries : List TraceEntry) : Type 0 where
  pub text : merges.text.items ≡ flat_map (entry_text limits) entries
  pub counted : merges.count ≡ length entries
