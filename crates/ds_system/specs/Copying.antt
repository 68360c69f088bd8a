-- Where a copy of an outcome may run out of memory.
use Rattle.std.specs.Prelude.{◌≢◌, ◌⊎◌, []}
use Rattle.ds_machine.specs.Copying.{ReplyCopyTakesMemory}
use Rattle.ds_replica.specs.Copying.{OutcomeCopyTakesMemory}
use Rattle.ds_system.specs.declared.outcome.SystemOutcome.{SystemOutcome}
use Rattle.ds_system.specs.declared.outcome.SystemOutcome.TheVariants.{Acted, Replied, Moved, Happened, Refused}

-- Whether a copy of the outcome takes memory: it has an action, a reply or a round, or the store's reply or the world's
-- outcome takes memory.
abbrev pub CopyTakesMemory : SystemOutcome → Type 0
CopyTakesMemory (Acted actions replies) = (actions ≢ []) ⊎ (replies ≢ [])
CopyTakesMemory (Replied reply) = ReplyCopyTakesMemory reply
CopyTakesMemory (Moved rounds own fault) = rounds ≢ []
CopyTakesMemory (Happened outcome) = OutcomeCopyTakesMemory outcome
CopyTakesMemory (Refused fault) = ⊥
