use Rattle.std.proofs.Common.{◌≡◌, drop}
use Rattle.std.specs.List.{find}
use Rattle.ds_entry.specs.Left.{leaves_value}
use Rattle.ds_held.specs.Held.{held_changes}
use Rattle.ds_c.proofs.entries.next_key.Given as goal

-- no change that was passed is an entry
abbrev pub invariant-loop-index : goal.invariant-loop-index
invariant-loop-index l = find leaves_value (drop l.index (held_changes l.held)) ≡ find leaves_value (drop l.begin (held_changes l.held))
