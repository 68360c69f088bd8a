-- The causes for which parts aren't a change. The first one that applies is reported.
use Rattle.std.specs.Prelude.{◌≡◌, ◌≢◌}
use Rattle.ds_names.specs.declared.kind.Kind.TheVariants.{Label}
use Rattle.ds_entry.specs.declared.change.EntryFault.{EntryFault}
use Rattle.ds_entry.specs.declared.change.EntryFault.TheVariants.{BadKind, BadLabel, BadVersion}
use Rattle.ds_entry.specs.Change.{ChangeRecord, IsOfKind, IsLabelChange, IsBelowSweeps}

-- Whether the fault is the first that applies to the parts.
abbrev pub IsEntryFault : EntryFault → ChangeRecord → Type 0
IsEntryFault BadKind c = ¬ IsOfKind c.key.kind c.body
IsEntryFault BadLabel c = IsOfKind c.key.kind c.body × (c.key.kind ≡ Label) × (¬ IsLabelChange c)
IsEntryFault BadVersion c = IsOfKind c.key.kind c.body × (c.key.kind ≢ Label) × (¬ IsBelowSweeps c.version c.body)
