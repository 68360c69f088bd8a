-- The recorded trace of a run of one store.
use Rattle.std.specs.Prelude.{◌≡◌, ℕ, List, ◌++◌, length, Option, IfSome}
use Rattle.std.specs.Io.KnownBytes.{Appends}
use Rattle.ds_held.specs.Limits.{smaller}
use Rattle.line_io.specs.Transfer.{WritesPart}
use Rattle.ds_machine.specs.State.{State}
use Rattle.trace_walk.specs.declared.header.Format.{Format}
use Rattle.trace_walk.specs.declared.header.Format.TheVariants as formats
use Rattle.trace_walk.specs.declared.header.Header.{Header}
use Rattle.trace_walk.specs.Legal.{IsTrace, opened_by}
use Rattle.trace_walk.specs.Text.{TraceEntry}
use Rattle.trace_record.specs.declared.fault.RecordFault.{RecordFault}
use Rattle.trace_record.specs.declared.fault.RecordFault.TheVariants.{BadLine, WriteFault}
use Rattle.trace_record.specs.declared.form.Form.{Form}
use Rattle.trace_record.specs.declared.form.Form.TheVariants.{One, Two}
use Rattle.trace_record.specs.Stepping.{AllAnswered}
use Rattle.trace_record.specs.Asking.{AskAll, OpensWith, AsksNothingAt, IsFirstLines, IsAllLines}

-- The header of a store of incarnation 1, whose positions begin at 0 and whose journal keeps `ring` items.
abbrev pub header_of : Form → ℕ → Header
header_of One ring = record { format = formats.One; incarnation = 1; first = 0; ring = ring; limits = smaller }
header_of (Two limits) ring = record { format = formats.Two; incarnation = 1; first = 0; ring = ring; limits = limits }

abbrev pub format_of : Form → Format
format_of One = formats.One
format_of (Two limits) = formats.Two

-- Whether the text is a legal trace of `count` entries, which are the input's lines, in order, and one store's answers to
-- them.
pub record IsRecord (form : Form) (input text : List ℕ) (count : ℕ) : Type 0 where
  pub ring : ℕ
  pub first : List ℕ
  pub asking : List ℕ
  pub entries : List TraceEntry
  pub last : State
  pub opens : OpensWith first ring
  pub input_is : input ≡ first ++ asking
  pub asks : AskAll asking entries
  pub trace : IsTrace text (header_of form ring) entries last
  pub answered : AllAnswered (header_of form ring).format (opened_by (header_of form ring)) entries last
  pub counted : length entries ≡ count

-- Whether the trace of everything that the reader has was written.
abbrev pub Records : Form → (known had has : Option (List ℕ)) → ℕ → Type 0
Records form known had has count =
    (input text : List ℕ) × IsRecord form input text count × Appends had has text × IfSome known (λ bytes. IsAllLines bytes input)

-- What was recorded before a fault: the lines before a bad one, or some first lines.
abbrev pub IsBeforeFault : Format → RecordFault → List ℕ → List ℕ → Type 0
IsBeforeFault format (BadLine number place) bytes input = AsksNothingAt format bytes input number place
IsBeforeFault format _ bytes input = IsFirstLines bytes input

-- Whether the trace of these lines was written, or, if the writer failed, a front of it.
abbrev pub WritesBy : RecordFault → (had has : Option (List ℕ)) → List ℕ → Type 0
WritesBy WriteFault had has text = WritesPart had has text
WritesBy _ had has text = Appends had has text

-- Whether, however the recording ends, the trace of whole entries was written, or, if the writer failed, a front of it.
abbrev pub StopsRecording : Form → (known had has : Option (List ℕ)) → RecordFault → Type 0
StopsRecording form known had has fault =
    (input text : List ℕ) × (count : ℕ)
    × IsRecord form input text count × WritesBy fault had has text
    × IfSome known (λ bytes. IsBeforeFault (format_of form) fault bytes input)
