-- The lines of an input, for all inputs and places. `from` and `to` are what the reader has before and after each step.
use Rattle.std.specs.Prelude.{◌≡◌, ℕ, true, false, Bool, List, [], Option, None, Some, Result, Ok, Err}
use Rattle.line_io.specs.Lines.{EndsLine, with_newline}
use Rattle.line_io.specs.Reading.{LinesContent}
use Rattle.trace_walk.specs.Walking.{IsAt, IsRead, IsLong, HasLine, IsShort}
use Rattle.trace_walk.specs.declared.asked.Head.{Head}
use Rattle.trace_walk.specs.declared.entry.EntryFault.{EntryFault}
use Rattle.trace_walk.specs.declared.entry.EntryFault.TheVariants as entries
use Rattle.trace_walk.specs.declared.header.Format.{Format}
use Rattle.trace_walk.specs.Head.{IsHeadOf}
use Rattle.trace_record.specs.declared.begin.Beginning.{Beginning}
use Rattle.trace_record.specs.declared.fault.RecordFault.{RecordFault}
use Rattle.trace_record.specs.declared.fault.RecordFault.TheVariants.{BadLine, ReadFault, WriteFault, NoRoom}
use Rattle.trace_record.specs.Asking.{OpensWith, IsAtLimit, IsFirstLines, IsPlaceOfLine, IsRingLine, AsksNothing, ring_text}

-- Whether the fault is one of the input, or out of memory.
abbrev pub IsOfInput : RecordFault → Type 0
IsOfInput WriteFault = ⊥
IsOfInput _ = Unit {0}

-- The fault of lines that can't be read on, of which a bad one is bad at the place.
abbrev pub of_lines : EntryFault → ℕ → RecordFault
of_lines (entries.BadLine number) place = BadLine number place
of_lines entries.ReadFault place = ReadFault
of_lines entries.NoRoom place = NoRoom

-- Like `of_lines`, for some place.
abbrev pub IsOfLines : EntryFault → RecordFault → Type 0
IsOfLines fault told = (place : ℕ) × (told ≡ of_lines fault place)

-- Whether the lines are at the line after the front.
abbrev pub IsAtLine : (bytes front : List ℕ) → LinesContent → Option (List ℕ) → Type 0
IsAtLine bytes front l remaining = (line : List ℕ) × (l.line ≡ with_newline line) × HasLine bytes front line l remaining

-- The result of reading the next line after the front: it is reached, there is none, it is too long, or nothing is
-- known.
abbrev pub ComesToNext : (bytes front : List ℕ) → LinesContent → Option (List ℕ) → Result Bool RecordFault → Type 0
ComesToNext bytes front new to (Ok true) = IsAtLine bytes front new to
ComesToNext bytes front new to (Ok false) = IsRead bytes front new.count
ComesToNext bytes front new to (Err (BadLine number place)) = IsLong bytes front number × IsAtLimit place
ComesToNext bytes front new to (Err WriteFault) = ⊥
ComesToNext bytes front new to (Err _) = IsFirstLines bytes front

abbrev pub Comes : LinesContent → Option (List ℕ) → LinesContent → Option (List ℕ) → Result Bool RecordFault → Type 0
Comes old from new to r = (bytes front : List ℕ) → IsAt bytes front old from → ComesToNext bytes front new to r

-- Whether a line that was reached ends and is short, and a fault is one of the input.
abbrev pub IsReady : LinesContent → Result Bool RecordFault → Type 0
IsReady new (Ok true) = EndsLine new.line × IsShort new.line
IsReady new (Ok false) = Unit {0}
IsReady new (Err fault) = IsOfInput fault

-- Whether the line that was reached, if any, isn't `ring N`.
abbrev pub GoesToNoRing : LinesContent → Result Bool RecordFault → Type 0
GoesToNoRing new next = next ≡ Ok true → ¬ IsRingLine new.line

-- How many items the journal keeps by the line that was reached, if that is `ring N`.
abbrev pub SaysRing : Result Bool RecordFault → List ℕ → Option ℕ → Type 0
SaysRing next line (Some ring) = (next ≡ Ok true) × (line ≡ ring_text ring)
SaysRing next line None = next ≡ Ok true → ¬ IsRingLine line

-- Whether the next line was read, after a first line `ring N`, or after nothing. After nothing, it isn't `ring N`.
abbrev pub BeginsInput : LinesContent → Option (List ℕ) → LinesContent → Option (List ℕ) → Beginning → Type 0
BeginsInput old from new to b =
    (first : List ℕ) ×
    OpensWith first b.ring × (first ≡ [] → GoesToNoRing new b.next) ×
    ((bytes : List ℕ) → IsAt bytes [] old from → ComesToNext bytes first new to b.next)

-- Whether the line, in some pass, has this command.
abbrev pub IsHeadAfter : Format → List ℕ → Head → Type 0
IsHeadAfter format text head = (pass : ℕ) × IsHeadOf format pass head text × IsShort text

-- Why a line isn't read: it isn't a command, has this number and is bad at the place, or memory ran out.
abbrev pub IsBadHead : Format → List ℕ → ℕ → RecordFault → Type 0
IsBadHead format line number (BadLine told place) = (told ≡ number) × AsksNothing format line × IsPlaceOfLine number line place
IsBadHead format line number NoRoom = Unit {0}
IsBadHead format line number _ = ⊥
