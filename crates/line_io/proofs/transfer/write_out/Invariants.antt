use Rattle.std.proofs.Common.{◌≡◌, ◌++◌, List, ℕ}
use Rattle.std.specs.Io.KnownBytes.{Appends}
use Rattle.line_io.specs.Streams.{CallsLead}
use Rattle.line_io.proofs.transfer.write_out.Given as goal

abbrev pub invariant-loop-turn : goal.invariant-loop-turn
invariant-loop-turn g l =
    (sent : List ℕ) × (l.text ≡ sent ++ l.rest) × Appends (g.W.Sink.contents l.fn.writer) (g.W.Sink.contents l.writer) sent
    × CallsLead g.W.Sink.writes l._turn l.fn.writer l.writer
