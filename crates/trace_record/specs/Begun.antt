-- A recording that begins, and how it continues. `known` is what the reader had at first, and `had` what the writer held.
use Rattle.std.specs.Prelude.{ℕ, List, Option}
use Rattle.trace_record.specs.declared.fault.RecordFault.{RecordFault}
use Rattle.trace_record.specs.declared.form.Form.{Form}
use Rattle.trace_record.specs.declared.opened.Recording.{Recording}
use Rattle.trace_record.specs.Asking.{OpensWith}
use Rattle.trace_record.specs.Record.{Records, StopsRecording, header_of}
use Rattle.trace_record.specs.Running.{Runs}

-- Whether the store is open, the header waits, and the first line of a command was read, after any line `ring N`. The reader has
-- `from` then.
abbrev pub HasBegun : Form → (known from : Option (List ℕ)) → Recording → Type 0
HasBegun form known from r =
    (ring : ℕ) × (first : List ℕ) × OpensWith first ring
    × ((had : Option (List ℕ)) → Runs known first had (header_of form ring) r.recorder from had r.next 0)

-- Whether all entries are recorded and written, in whichever form the recording began.
abbrev pub RecordsAll : Recording → (from had has : Option (List ℕ)) → ℕ → Type 0
RecordsAll r from had has count = (form : Form) (known : Option (List ℕ)) → HasBegun form known from r → Records form known had has count

-- Whether the entries before this fault are written. Even without any entry the header is.
abbrev pub StopsBefore : Recording → (from had has : Option (List ℕ)) → RecordFault → Type 0
StopsBefore r from had has fault =
    (form : Form) (known : Option (List ℕ)) → HasBegun form known from r → StopsRecording form known had has fault
