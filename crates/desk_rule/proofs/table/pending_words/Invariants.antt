use Rattle.std.proofs.Common.{◌≡◌, ℕ, ◌+◌, ◌<◌, length}
use Rattle.std.specs.Prelude.{slice_index}
use Rattle.std.specs.Mem.Slots.{slots_items}
use Rattle.desk_rule.proofs.table.pending_words.Given as goal

abbrev pub invariant-loop-server : goal.invariant-loop-server
invariant-loop-server g l = (length l.pending ≡ 16) ×
    ((s : ℕ) → s < l.server → slice_index l.pending s ≡ slice_index (slots_items l.fn.closed.words) (s + 1))
