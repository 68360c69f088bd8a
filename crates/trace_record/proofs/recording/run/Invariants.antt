use Rattle.std.proofs.Common.{ℕ, List, Option}
use Rattle.line_io.specs.Streams.{OnlyCalls}
use Rattle.trace_walk.specs.declared.header.Header.{Header}
use Rattle.trace_record.specs.Causes.{LeadsFrom}
use Rattle.trace_record.specs.Reading.{IsReady}
use Rattle.trace_record.specs.Running.{Runs}
use Rattle.trace_record.proofs.recording.run.Given as goal

-- how many entries are recorded, whatever was before, by how many reads
abbrev pub invariant-loop-count : goal.invariant-loop-count
invariant-loop-count g l =
    IsReady l.recorder.entry.lines l.next
    × ((known : Option (List ℕ)) (first : List ℕ) (had : Option (List ℕ)) (h : Header) →
    Runs known first had h l.fn.recorder (g.R.Source.remaining l.fn.reader) (g.W.Sink.contents l.fn.writer) l.fn.first 0 →
    Runs known first had h l.recorder (g.R.Source.remaining l.reader) (g.W.Sink.contents l.writer) l.next l.count)
    × LeadsFrom g.R.Source l.fn.first l.fn.reader l.fn.recorder.entry.lines.reads l.next l.reader l.recorder.entry.lines.reads
    × OnlyCalls g.W.Sink.writes l.fn.writer l.writer
