use Rattle.std.proofs.Common.{◌≡◌, ◌≤◌, ◌*◌, ◌^◌, take}
use Rattle.desk_rule.specs.History.{total_of}
use Rattle.desk.specs.Pass.{notes_learnt, notes_made}
use Rattle.desk.proofs.close.count_notes.Given as goal

abbrev pub invariant-loop-i : goal.invariant-loop-i
invariant-loop-i g l = (l.made ≡ total_of notes_made (take l.i l.fn.passes.items)) ×
    (l.learnt ≡ total_of notes_learnt (take l.i l.fn.passes.items)) × (l.made ≤ l.i * 2 ^ 62) × (l.learnt ≤ l.i * 2 ^ 62)
