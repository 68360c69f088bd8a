use Rattle.std.proofs.Common.{◌≡◌, ◌≤◌, ◌+◌, ◌-◌, ◌^◌}
use Rattle.line_io.specs.Lines.{IsUnbroken}
use Rattle.line_io.specs.Streams.{CallsLead}
use Rattle.ds_script.specs.Taking.{reached, written, KeepsWriter, OnlyWrites}
use Rattle.ds_script.proofs.EndLemmas.{Come}
use Rattle.ds_script.proofs.taking.Replay.run.Given as goal

abbrev pub invariant-loop-self : goal.invariant-loop-self
invariant-loop-self g l = record {
  come : Come (g.R.Source.remaining l.fn.reader) (g.R.Source.remaining l.reader) (written g.W.Sink l.fn.self) (written g.W.Sink l.self)
      l.fn.self.bad_lines l.fn.self.tally.lines l.fn.self.session (reached l.self) l.lines.rest;
  unbroken : IsUnbroken l.lines.rest;
  count : l.self.tally.lines ≤ l.lines.count + 2 ^ 32;
  led : CallsLead g.R.Source.reads l.lines.reads l.fn.reader l.reader;
  same : KeepsWriter l.fn.self l.self;
  wrote : OnlyWrites g.W.Sink l.fn.self l.self;
}

abbrev pub decreases-loop-self : goal.decreases-loop-self
decreases-loop-self g l = 4294967296 - l.lines.reads
