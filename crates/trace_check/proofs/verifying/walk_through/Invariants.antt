use Rattle.std.proofs.Common.{◌≡◌, ◌≤◌, ◌+◌, ◌^◌}
use Rattle.trace_walk.specs.Reads.{ReadsFurther}
use Rattle.trace_walk.specs.Steps.{WalksAt}
use Rattle.trace_walk.specs.Walking.{Spot}
use Rattle.trace_check.proofs.verifying.walk_through.Given as goal

-- the walk is `length` entries after the header
abbrev pub invariant-loop-length : goal.invariant-loop-length
invariant-loop-length g l = record {
  walks : (b : Spot) → WalksAt b l.fn.walk (g.R.Source.remaining l.fn.reader) → b.count ≡ 0 →
      (now : Spot) × (now.bytes ≡ b.bytes) × (now.count ≡ l.length) × WalksAt now l.walk (g.R.Source.remaining l.reader);
  reads : ReadsFurther g.R.Source l.fn.walk.entry.lines l.fn.reader l.walk.entry.lines l.reader;
  counted : l.length ≤ l.walk.entry.lines.count;
  few : l.length ≤ 2 ^ 49 + 1;
}
