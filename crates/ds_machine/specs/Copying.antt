-- Where a copy of a scope, a command or a reply may run out of memory.
use Rattle.std.specs.Prelude.{◌≢◌, []}
use Rattle.ds_entry.specs.Change.{ValueCopyTakesMemory}
use Rattle.ds_machine.specs.declared.command.Scope.{Scope}
use Rattle.ds_machine.specs.declared.command.Scope.TheVariants.{All, Under}
use Rattle.ds_machine.specs.declared.command.Command.{Command}
use Rattle.ds_machine.specs.declared.command.Command.TheVariants.{Publish, Subscribe, Since, Snapshot, Page, Merge}
use Rattle.ds_machine.specs.declared.reply.Reply.{Reply}
use Rattle.ds_machine.specs.declared.reply.Reply.TheVariants.{Found, Checked, Journaled, Snapped, Paged}

-- A copy of the scope takes memory: it has a pattern's text.
abbrev pub ScopeCopyTakesMemory : Scope → Type 0
ScopeCopyTakesMemory All = ⊥
ScopeCopyTakesMemory (Under query) = query.text ≢ []

-- A copy of the command takes memory: it has a text or a blob that isn't empty, a pattern's text or an item.
abbrev pub CommandCopyTakesMemory : Command → Type 0
CommandCopyTakesMemory (Publish caller key version value overwrite) = ValueCopyTakesMemory value
CommandCopyTakesMemory (Subscribe sub query initial overwrite) = query.text ≢ []
CommandCopyTakesMemory (Since scope cursor max) = ScopeCopyTakesMemory scope
CommandCopyTakesMemory (Snapshot scope) = ScopeCopyTakesMemory scope
CommandCopyTakesMemory (Page scope after max) = ScopeCopyTakesMemory scope
CommandCopyTakesMemory (Merge items) = items ≢ []
CommandCopyTakesMemory _ = ⊥

-- A copy of the reply takes memory: it has a text or a blob that isn't empty, or an item.
abbrev pub ReplyCopyTakesMemory : Reply → Type 0
ReplyCopyTakesMemory (Found value) = ValueCopyTakesMemory value
ReplyCopyTakesMemory (Checked items before after) = items ≢ []
ReplyCopyTakesMemory (Journaled since) = since.items ≢ []
ReplyCopyTakesMemory (Snapped snapshot) = snapshot.items ≢ []
ReplyCopyTakesMemory (Paged page) = page.items ≢ []
ReplyCopyTakesMemory _ = ⊥
