use Rattle.std.proofs.Common.{◌≡◌, ◌-◌, []}
use Rattle.std.specs.Io.KnownBytes.{Consumes}
use Rattle.line_io.specs.Pulling.{left, LeadsOn}
use Rattle.line_io.proofs.lines.Lines.pull.Given as goal

abbrev pub invariant-loop-self : goal.invariant-loop-self
invariant-loop-self g l = record {
  kept : Consumes (left l.fn.self (g.R.Source.remaining l.fn.reader)) (left l.self (g.R.Source.remaining l.reader)) [];
  count : l.self.count ≡ l.fn.self.count;
  led : LeadsOn g.R.Source.reads l.fn.self.reads l.self.reads l.fn.reader l.reader;
}

abbrev pub decreases-loop-self : goal.decreases-loop-self
decreases-loop-self g l = 4294967296 - l.self.reads
