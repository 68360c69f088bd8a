use Rattle.std.proofs.Common.{◌≡◌, take}
use Rattle.ds_held.specs.Held.{held_changes}
use Rattle.ds_submap.proofs.EntryLemmas.{puts_of}
use Rattle.ds_live.proofs.report.entries_held.Given as goal

-- the puts so far
abbrev pub invariant-loop-index : goal.invariant-loop-index
invariant-loop-index l = l.puts ≡ puts_of (take l.index (held_changes l.fn.held))
