-- The reads and the lines of a walk, and why it can't read on.
use Rattle.std.specs.Prelude.{◌^◌, ◌<◌, ◌≤◌, Result, Ok, Err}
use Rattle.line_io.specs.Pulling.{LeadsOn}
use Rattle.line_io.specs.Reading.{LinesContent}
use Rattle.line_io.specs.Streams.{CallsLead, HasFailedRead}
use Rattle.line_io.specs.declared.streams.Source.{Ghosts as Reader}
use Rattle.trace_walk.specs.declared.entry.EntryFault.{EntryFault}
use Rattle.trace_walk.specs.declared.entry.EntryFault.TheVariants as entries
use Rattle.trace_walk.specs.declared.fault.WalkFault.{WalkFault}
use Rattle.trace_walk.specs.declared.fault.WalkFault.TheVariants.{ReadFault}
use Rattle.trace_walk.specs.declared.walk.Walk.{Walk}

-- The cause of a fault. ReadFault comes only if the last read failed, or 2^32 reads were made.
abbrev pub BlamesReader : {R : Type 0} → Reader R → WalkFault → (old new : R) → Type 0
BlamesReader r ReadFault old new = HasFailedRead r.reads r.fails old new
BlamesReader r _ old new = Unit {0}

-- Like `BlamesReader`, for an entry's lines.
abbrev pub BlamesLines : {R : Type 0} → Reader R → EntryFault → (old new : R) → Type 0
BlamesLines r entries.ReadFault old new = HasFailedRead r.reads r.fails old new
BlamesLines r _ old new = Unit {0}

-- Whether the fault blames no reader.
abbrev pub IsBlameless : WalkFault → Type 0
IsBlameless ReadFault = ⊥
IsBlameless _ = Unit {0}

-- Whether the lines continued by reads of which none failed.
abbrev pub ReadsFurther : {R : Type 0} → Reader R → LinesContent → R → LinesContent → R → Type 0
ReadsFurther r old from new to = LeadsOn r.reads old.reads new.reads from to × (old.count ≤ new.count)

-- Whether the lines continued so, whatever was returned; or the cause of the fault, whichever reader the reads began
-- with.
abbrev pub Advances : {R T : Type 0} → Reader R → Result T WalkFault → LinesContent → R → LinesContent → R → Type 0
Advances r (Ok x) old from new to = ReadsFurther r old from new to
Advances {R} r (Err fault) old from new to = (first : R) → CallsLead r.reads old.reads first from → BlamesReader r fault first to

-- Like `Advances`, for an entry's lines.
abbrev pub Continues : {R T : Type 0} → Reader R → Result T EntryFault → LinesContent → R → LinesContent → R → Type 0
Continues r (Ok x) old from new to = ReadsFurther r old from new to
Continues {R} r (Err fault) old from new to = (first : R) → CallsLead r.reads old.reads first from → BlamesLines r fault first to

-- Whether a further line was passed. An input has at most 2^49 lines: 2^32 reads bring no more.
abbrev pub CountsOn : (old new : LinesContent) → Type 0
CountsOn old new = (old.count ≤ 2 ^ 49) × (old.count < new.count)

-- Whether the walk's reads lead from the first reader to this one, and none failed; or the cause of the fault.
abbrev pub BeginsReading : {R : Type 0} → Reader R → Result Walk WalkFault → (old new : R) → Type 0
BeginsReading r (Ok walk) old new = CallsLead r.reads walk.entry.lines.reads old new
BeginsReading r (Err fault) old new = BlamesReader r fault old new
