-- The outcome of a move to the next line, however many reads it takes.
use Rattle.std.specs.Prelude.{◌≡◌, ℕ, suc, ◌<◌, ◌≤◌, ◌⊎◌, List, [], length, Option}
use Rattle.std.specs.Io.KnownBytes.{Consumes, IsAtEnd, prepend_known}
use Rattle.line_io.specs.Lines.{IsUnbroken, EndsLine, with_newline}
use Rattle.line_io.specs.Reading.{LinesContent}
use Rattle.line_io.specs.Streams.{CallsLead, HasFailedRead}
use Rattle.line_io.specs.declared.streams.Source.{Ghosts as Reader}
use Rattle.line_io.specs.declared.pull.Pulled.{Pulled}
use Rattle.line_io.specs.declared.pull.Pulled.TheVariants.{Line, Long, End, ReadFault, NoRoom}

-- The input that is left: the bytes read after the line, and then those of the reader.
abbrev pub left : LinesContent → Option (List ℕ) → Option (List ℕ)
left lines remaining = prepend_known lines.rest remaining

-- Whether the line is the next one of the input that is left. A last line without a newline gets one.
abbrev pub ComesNext : List ℕ → (from to : Option (List ℕ)) → Type 0
ComesNext line from to =
    Consumes from to line ⊎ ((last : List ℕ) × (0 < length last) × (line ≡ with_newline last) × Consumes from to last × IsAtEnd to)

-- Whether the input that is left begins with these bytes.
abbrev pub StandsFirst : List ℕ → Option (List ℕ) → Type 0
StandsFirst front from = (past : Option (List ℕ)) × Consumes from past front

-- The meaning of each outcome. `from` and `to` are the input that is left before and after the call. `Line`: the next
-- line became the current one. `Long`: the next line is above 4096 bytes. `End`: no input is left. `ReadFault`: the
-- reader failed, and no byte is lost. `NoRoom`: memory ran out.
abbrev pub Pulls : Pulled → (from to : Option (List ℕ)) → (old new : LinesContent) → Type 0
Pulls Line from to old new = EndsLine new.line × ComesNext new.line from to × (length new.line ≤ 4097) × (new.count ≡ suc old.count)
Pulls Long from to old new = (front : List ℕ) × StandsFirst front from × IsUnbroken front × (4096 < length front)
Pulls End from to old new = IsAtEnd from × (new.count ≡ old.count)
Pulls ReadFault from to old new = Consumes from to [] × (new.count ≡ old.count)
Pulls NoRoom from to old new = Unit {0}

-- Whether `calls` calls lead to the new state, where the first `made` of them led to the old one.
abbrev pub LeadsOn : {S : Type 0} → (S → S → Type 0) → (made calls : ℕ) → (old new : S) → Type 0
LeadsOn {S} leads made calls old new = (first : S) → CallsLead leads made first old → CallsLead leads calls first new

-- The reads that an outcome means: for `ReadFault` the last one failed, or 2^32 were made; for any other, none failed.
abbrev pub PullsBy : {R : Type 0} → Reader R → Pulled → (first new : R) → ℕ → Type 0
PullsBy r ReadFault first new reads = HasFailedRead r.reads r.fails first new
PullsBy r _ first new reads = CallsLead r.reads reads first new

-- Like `PullsBy`, from each state from which `made` reads led to the old one.
abbrev pub PulledBy : {R : Type 0} → Reader R → Pulled → (old new : R) → (made reads : ℕ) → Type 0
PulledBy {R} r result old new made reads = (first : R) → CallsLead r.reads made first old → PullsBy r result first new reads

-- Whether the outcome matches the line's length.
abbrev pub IsJudged : Pulled → List ℕ → Type 0
IsJudged Line line = length line ≤ 4097
IsJudged Long line = 4097 < length line
IsJudged _ line = ⊥

-- The meaning of each outcome when there is no more to read.
abbrev pub ComesToEnd : Pulled → (old new : LinesContent) → Type 0
ComesToEnd Line old new = (0 < length old.rest) × (new.line ≡ with_newline old.rest) × (new.rest ≡ []) × (new.count ≡ suc old.count)
ComesToEnd End old new = (old.rest ≡ []) × (new ≡ old)
ComesToEnd NoRoom old new = new ≡ old
ComesToEnd _ old new = ⊥
