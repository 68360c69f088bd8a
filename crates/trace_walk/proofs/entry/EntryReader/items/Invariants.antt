use Rattle.trace_walk.specs.Entry.{AddsItems}
use Rattle.trace_walk.specs.Reads.{ReadsFurther}
use Rattle.trace_walk.proofs.entry.EntryReader.items.Given as goal

-- how many items are read, by how many reads
abbrev pub invariant-loop-index : goal.invariant-loop-index
invariant-loop-index g l =
    AddsItems l.fn.format l.fn.self (g.R.Source.remaining l.fn.reader) l._index l.self (g.R.Source.remaining l.reader) l.items ×
    ReadsFurther g.R.Source l.fn.self.lines l.fn.reader l.self.lines l.reader
