use Rattle.std.proofs.Common.{◌≡◌, length, []}
use Rattle.std.specs.Option.{option_map}
use Rattle.std.specs.Io.KnownBytes.{Consumes}
use Rattle.line_io.specs.Streams.{CallsLead}
use Rattle.ds_script.specs.Left.{text_left}
use Rattle.ds_script.proofs.without_notes.WithoutNotesSource.read.Given as goal

abbrev pub invariant-loop-again : goal.invariant-loop-again
invariant-loop-again g l = record {
  same : length l.buf ≡ length l.fn.buf;
  passed : Consumes (option_map (text_left l.fn.self.place) (g.R.Source.remaining l.fn.self.reader.now))
      (option_map (text_left l.self.place) (g.R.Source.remaining l.self.reader.now)) [];
  same_reader : l.self.reader.ghost_name ≡ l.fn.self.reader.ghost_name;
  led : CallsLead g.R.Source.reads l._again l.fn.self.reader.now l.self.reader.now;
}
