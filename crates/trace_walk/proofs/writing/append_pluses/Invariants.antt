use Rattle.std.proofs.Common.{◌≡◌, ◌++◌, take}
use Rattle.std.specs.List.{flat_map}
use Rattle.trace_walk.specs.Text.{plus_text}
use Rattle.trace_walk.proofs.writing.append_pluses.Given as goal

-- the lines of the items so far
abbrev pub invariant-loop-item : goal.invariant-loop-item
invariant-loop-item l = l.text.items ≡ l.initial.text.items ++ flat_map plus_text (take l.item-index l.items)
