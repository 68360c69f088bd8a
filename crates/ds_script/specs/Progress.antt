-- The progress of a replay, in the words of its private functions. `from` and `to` are the reader's remaining bytes
-- before and after, `had` and `has` the writer's bytes, where these are known, `old` and `new` the replay itself.
use Rattle.std.specs.Prelude.{◌≡◌, ℕ, suc, ◌+◌, ◌⊎◌, Bool, true, false, List, [], ◌∷◌, ◌++◌, length, Option}
use Rattle.std.specs.List.{All}
use Rattle.std.specs.Io.KnownBytes.{Appends, Consumes, IsAtEnd}
use Rattle.line_io.specs.Lines.{IsUnbroken, joined, unended}
use Rattle.script_commands.specs.declared.fault.CommandFault.{CommandFault}
use Rattle.script_commands.specs.declared.fault.CommandFault.TheVariants as lines
use Rattle.ds_script.specs.declared.fault.ReplayFault.{ReplayFault}
use Rattle.ds_script.specs.declared.fault.ReplayFault.TheVariants.{BadLine, ReadFault, WriteFault, NoRoom}
use Rattle.ds_script.specs.declared.report.BadLines.{BadLines}
use Rattle.ds_script.specs.declared.report.BadLines.TheVariants.{End}
use Rattle.ds_script.specs.Session.{SessionContent}
use Rattle.line_io.specs.Transfer.{WritesPart}
use Rattle.ds_script.specs.Replay.{AnswersLines, IsBadAfter, BeginsBadLine, badline, StopsLater}

-- The state of a replay: its session, the answers that wait to be written, the count of lines and of bad ones, and what
-- it does at bad lines.
pub record Reached : Type 0 where
  pub session : SessionContent
  pub waiting : List ℕ
  pub lines : ℕ
  pub bad : ℕ
  pub policy : BadLines

-- ---- one line

-- Why a line after `before` others, without its newline, isn't answered.
abbrev pub IsUnendedFault : ℕ → CommandFault → List ℕ → Type 0
IsUnendedFault before (lines.BadLine place expected) text = IsBadAfter before text place
IsUnendedFault before lines.NoRoom text = Unit {0}

-- A bad line leaves the session unchanged.
abbrev pub KeepsSession : CommandFault → SessionContent → SessionContent → Type 0
KeepsSession (lines.BadLine place expected) old new = new ≡ old
KeepsSession lines.NoRoom old new = Unit {0}

-- Whether the waiting answers are written and the fault is the bad line's, or the writer failed.
abbrev pub EndsAtBad : ReplayFault → (number place : ℕ) → Option (List ℕ) → Option (List ℕ) → (old new : List ℕ) → Type 0
EndsAtBad (BadLine n p expected) number place had has old new = (n ≡ number) × (p ≡ place) × Appends had has old × (new ≡ [])
EndsAtBad WriteFault number place had has old new = WritesPart had has old
EndsAtBad _ number place had has old new = ⊥

-- Why the script doesn't continue after a bad line: out of memory for its answer, and nothing is written; or the writer
-- failed.
abbrev pub TellsBad : ReplayFault → (number place : ℕ) → Option (List ℕ) → Option (List ℕ) → (old new : List ℕ) → Type 0
TellsBad NoRoom number place had has old new = Appends had has [] × (new ≡ old)
TellsBad WriteFault number place had has old new = WritesPart had has (old ++ badline number place)
TellsBad _ number place had has old new = ⊥

-- ---- lines

-- Whether the lines are answered. A front of the answers, after those that waited before, is written.
pub record TakesLines (had has : Option (List ℕ)) (old : Reached) (lines : List (List ℕ)) (new : Reached) : Type 0 where
  pub output : List ℕ
  pub sent : List ℕ
  pub bad : ℕ
  pub answers : AnswersLines old.policy old.lines old.session lines output bad new.session
  pub split : old.waiting ++ output ≡ sent ++ new.waiting
  pub written : Appends had has sent
  pub counted : new.lines ≡ old.lines + length lines
  pub told : new.bad ≡ old.bad + bad
  pub policy : new.policy ≡ old.policy

-- Whether the first lines of a text are answered, and `rest` is left.
pub record TakesText (had has : Option (List ℕ)) (old : Reached) (text : List ℕ) (new : Reached) (rest : List ℕ) : Type 0 where
  pub lines : List (List ℕ)
  pub split : text ≡ joined lines ++ rest
  pub unbroken : All IsUnbroken lines
  pub takes : TakesLines had has old lines new

-- ---- why lines aren't answered

-- What a fault leaves: `output` is the answers that still wait, `mid` the replay after the last line that was answered,
-- `rest` what wasn't answered.
abbrev pub Leaves : ReplayFault → (to : Option (List ℕ)) → (output : List ℕ) → (mid : Reached) → (rest : List ℕ) → Type 0
Leaves (BadLine number place expected) to output mid rest =
    (mid.policy ≡ End) × (mid.waiting ≡ output) × BeginsBadLine mid.lines to rest place × (number ≡ suc mid.lines)
Leaves ReadFault to output mid rest = (mid.waiting ≡ output) × IsUnbroken rest
Leaves WriteFault to output mid rest = Unit {0}
Leaves NoRoom to output mid rest = mid.waiting ≡ output

-- Whether none of the lines is answered, or all are.
abbrev pub TakesNoneOrAll : (had has : Option (List ℕ)) → Reached → List (List ℕ) → Type 0
TakesNoneOrAll had has old whole =
    (lines : List (List ℕ)) × (mid : Reached) × ((lines ≡ []) ⊎ (lines ≡ whole)) × TakesLines had has old lines mid

-- Whether a line, without its newline, isn't answered, or the writer failed after it.
abbrev pub LineStops : ReplayFault → (had has : Option (List ℕ)) → Reached → List ℕ → (output : List ℕ) → Type 0
LineStops (BadLine number place expected) had has old line output =
    (mid : Reached) × TakesLines had has old [] mid × (mid.policy ≡ End) × (mid.waiting ≡ output) × IsBadAfter old.lines line place ×
    (number ≡ suc old.lines)
LineStops ReadFault had has old line output = ⊥
LineStops WriteFault had has old line output = TakesNoneOrAll had has old (line ∷ [])
LineStops NoRoom had has old line output = (mid : Reached) × TakesLines had has old [] mid × (mid.waiting ≡ output)

-- Whether some lines of a text are answered before the fault.
abbrev pub TextStops : ReplayFault → (to had has : Option (List ℕ)) → Reached → (text output : List ℕ) → Type 0
TextStops fault to had has old text output =
    (mid : Reached) × (rest : List ℕ) × TakesText had has old text mid rest × Leaves fault to output mid rest

-- Whether the last line, whose newline is missing, isn't answered, or the writer failed after it.
abbrev pub LastStops : ReplayFault → (to had has : Option (List ℕ)) → Reached → (pending output : List ℕ) → Type 0
LastStops fault to had has old pending output =
    TextStops fault to had has old pending output ⊎ ((fault ≡ WriteFault) × TakesNoneOrAll had has old (unended pending))

-- ---- turns

-- The result of a turn: bytes are read after the pending ones, and their whole lines are answered; or there is no more
-- to read, and the pending bytes, if any, are answered as the last line.
abbrev pub Turns : Bool → (from to had has : Option (List ℕ)) → Reached → (pending : List ℕ) → Reached → (rest : List ℕ) → Type 0
Turns true from to had has old pending new rest =
    (bytes : List ℕ) × Consumes from to bytes × TakesText had has old (pending ++ bytes) new rest × IsUnbroken rest
Turns false from to had has old pending new rest =
    Consumes from to [] × IsAtEnd to × TakesLines had has old (unended pending) new × (new.waiting ≡ [])

-- What a turn that stopped has done.
abbrev pub TurnStops : ReplayFault → (from to had has : Option (List ℕ)) → Reached → (pending output : List ℕ) → Type 0
TurnStops fault from to had has old pending output =
    ((bytes : List ℕ) × Consumes from to bytes × TextStops fault to had has old (pending ++ bytes) output)
    ⊎ (Consumes from to [] × IsAtEnd to × LastStops fault to had has old pending output)

-- How the written and the waiting answers answer the input, from the session `first` after `before` lines on. This is
-- what the fault promises once the waiting answers are written too; for a writer that failed, it holds already.
abbrev pub Stops : BadLines → ℕ → SessionContent → ReplayFault → (to : Option (List ℕ)) → (input output waiting : List ℕ) → Type 0
Stops policy before first WriteFault to input output waiting = StopsLater policy before first WriteFault to input output
Stops policy before first fault to input output waiting = StopsLater policy before first fault to input (output ++ waiting)

-- The fault of a whole replay, after the waiting answers are written.
abbrev pub Settles : ReplayFault → ReplayFault → (had has : Option (List ℕ)) → List ℕ → Type 0
Settles given WriteFault had has output = (given ≡ WriteFault) × (has ≡ had)
Settles given fault had has output = ((given ≡ fault) × Appends had has output) ⊎ ((given ≡ WriteFault) × WritesPart had has output)
