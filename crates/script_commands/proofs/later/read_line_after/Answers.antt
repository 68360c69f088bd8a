use Rattle.std.proofs.Common.{arith, sym, ◌∙◌}
use Rattle.std.proofs.lemmas.Bool.{false≢true}
use Rattle.script_commands.proofs.LaterLemmas.{ring_is_bad, reads_later}
use Rattle.script_commands.proofs.later.read_line_after.Goals as goal
use Rattle.script_commands.proofs.later.read_line_after.Goals.{else-before-gt0-via-then-before-gt0+else-has_ring}
use Rattle.script_commands.proofs.later.read_line_after.Goals.{else-before-gt0-via-else-before-gt0}

pub returns-then-has_ring-clause-later : goal.returns-then-has_ring-clause-later
returns-then-has_ring-clause-later c = λ later.
    let ring = c.has_ring.ensures.0 c.if-has_ring.true in
    ring_is_bad c.args.line.now ring.0 ring.1

pub returns-clause-later : goal.returns-clause-later
returns-clause-later c = λ later.
    elim c.else-before-gt0.branch [
      | else-before-gt0-via-then-before-gt0+else-has_ring w ↦ reads_later c.args.line.now c.read_line.result
          (λ after begins. false≢true (sym w.if-has_ring.false ∙ w.has_ring.ensures.1 (after, begins))) c.read_line.ensures
      | else-before-gt0-via-else-before-gt0 w ↦ absurd (later (omega (arith, w.if-before-gt0.false)))
    ]
