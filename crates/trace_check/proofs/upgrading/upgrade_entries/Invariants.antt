use Rattle.std.proofs.Common.{◌≤◌, ◌+◌, ◌*◌, ◌^◌, List, ℕ}
use Rattle.line_io.specs.Streams.{OnlyCalls}
use Rattle.trace_walk.specs.Reads.{ReadsFurther}
use Rattle.trace_walk.specs.Steps.{WalksAt}
use Rattle.trace_check.specs.Upgrading.{Upgrades}
use Rattle.trace_walk.specs.Walking.{Spot}
use Rattle.trace_check.proofs.UpgradingLemmas.{IsUnderWay}
use Rattle.trace_check.proofs.upgrading.upgrade_entries.Given as goal

-- what was passed is written in format 2
abbrev pub invariant-loop-entry : goal.invariant-loop-entry
invariant-loop-entry g l = record {
  writes : (b : Spot) (before : List ℕ) → WalksAt b l.fn.walk (g.R.Source.remaining l.fn.reader) → Upgrades b l.fn.walk.header before 0 →
      IsUnderWay b before l.fn.walk.header l.walk (g.R.Source.remaining l.reader) (g.W.Sink.contents l.fn.writer)
      (g.W.Sink.contents l.writer) l.written;
  reads : ReadsFurther g.R.Source l.fn.walk.entry.lines l.fn.reader l.walk.entry.lines l.reader;
  counted : l._entry ≤ l.walk.entry.lines.count;
  few : l._entry ≤ 2 ^ 49 + 1;
  written : l.written ≤ 255 * l._entry;
  wrote : OnlyCalls g.W.Sink.writes l.fn.writer l.writer;
}
