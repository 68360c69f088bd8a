-- What the steps of a replay do to its session, the waiting answers and the writer.
use Rattle.std.specs.Prelude.{◌≡◌, ℕ, ◌≤◌, ◌+◌, ◌^◌, suc, Bool, List, [], ◌∷◌, Option, Result, MatchResult}
use Rattle.std.specs.Io.KnownBytes.{IsAtEnd}
use Rattle.line_io.specs.Lines.{IsUnbroken, unended, with_newline}
use Rattle.ds_script.specs.declared.fault.ReplayFault.{ReplayFault}
use Rattle.line_io.specs.declared.streams.Source.{Ghosts as Reader}
use Rattle.line_io.specs.declared.streams.Sink.{Ghosts as Writer}
use Rattle.line_io.specs.Streams.{OnlyCalls}
use Rattle.ds_script.specs.declared.report.BadLines.{BadLines}
use Rattle.ds_script.specs.declared.report.BadLines.TheVariants.{End, GoOn}
use Rattle.ds_script.specs.declared.taking.Replay.{Replay}
use Rattle.line_io.specs.Reading.{LinesContent, no_lines}
use Rattle.ds_script.specs.Replay.{IsBadAfter}
use Rattle.ds_script.specs.Progress.{Reached, TakesLines, TakesText, LineStops, TextStops, LastStops, Turns, TurnStops}
use Rattle.ds_script.specs.Causes.{HasWriteCause, HasTurnCause}

-- ---- a replay

-- The state that the replay has reached.
abbrev pub reached : {W B : Type 0} → Replay W B → Reached
reached it = record {
  session = it.session;
  waiting = it.output.items;
  lines = it.tally.lines;
  bad = it.tally.bad;
  policy = it.bad_lines;
}

-- The bytes that its writer holds, where they are known.
abbrev pub written : {W B : Type 0} → Writer W → Replay W B → Option (List ℕ)
written w it = w.contents it.writer.now

-- Whether the replay still has the same writer.
abbrev pub KeepsWriter : {W B : Type 0} → Replay W B → Replay W B → Type 0
KeepsWriter old new = new.writer.ghost_name ≡ old.writer.ghost_name

-- Whether the lines are answered.
abbrev pub Takes : {W B : Type 0} → Writer W → Replay W B → List (List ℕ) → Replay W B → Type 0
Takes w old lines new = TakesLines (written w old) (written w new) (reached old) lines (reached new)

-- ---- after a fault

-- Whether a line, without its newline, isn't answered.
abbrev pub StopsAtLine : {W B : Type 0} → Writer W → Replay W B → Replay W B → List ℕ → ReplayFault → Type 0
StopsAtLine w old new text fault = LineStops fault (written w old) (written w new) (reached old) text new.output.items

-- Whether some lines of a text are answered before the fault, whatever the reader has left.
abbrev pub StopsInText : {W B : Type 0} → Writer W → Replay W B → Replay W B → List ℕ → ReplayFault → Type 0
StopsInText w old new text fault =
    (to : Option (List ℕ)) → TextStops fault to (written w old) (written w new) (reached old) text new.output.items

-- Whether the last line, whose newline is missing, isn't answered.
abbrev pub StopsAtLast : {W B : Type 0} → Writer W → Replay W B → Replay W B → List ℕ → ReplayFault → Type 0
StopsAtLast w old new pending fault =
    (to : Option (List ℕ)) → IsAtEnd to → LastStops fault to (written w old) (written w new) (reached old) pending new.output.items

-- The cause of a fault where nothing is read.
abbrev pub IsCaused : {W B : Type 0} → Writer W → (old new : Replay W B) → ReplayFault → Type 0
IsCaused w old new fault = HasWriteCause w fault old.writer.now new.writer.now

-- Whether no write failed on the way.
abbrev pub OnlyWrites : {W B : Type 0} → Writer W → (old new : Replay W B) → Type 0
OnlyWrites w old new = OnlyCalls w.writes old.writer.now new.writer.now

-- ---- lines

-- Whether a line, with its newline, is answered; or why it isn't.
abbrev pub TakesLine : {W B T : Type 0} → Writer W → Replay W B → Replay W B → List ℕ → Result T ReplayFault → Type 0
TakesLine w old new line result =
    MatchResult result (λ _. OnlyWrites w old new × ((text : List ℕ) → line ≡ with_newline text → Takes w old (text ∷ []) new))
    (λ fault. IsCaused w old new fault × ((text : List ℕ) → line ≡ with_newline text → StopsAtLine w old new text fault))

-- Whether a line that is bad at the place is passed over; or why it isn't.
abbrev pub TakesBad : {W B T : Type 0} → Writer W → Replay W B → Replay W B → ℕ → Result T ReplayFault → Type 0
TakesBad w old new place result =
    let before = old.tally.lines in
    MatchResult result (λ _. OnlyWrites w old new × ((text : List ℕ) → IsBadAfter before text place → Takes w old (text ∷ []) new))
    (λ fault. IsCaused w old new fault × ((text : List ℕ) → IsBadAfter before text place → StopsAtLine w old new text fault))

-- Whether the whole lines of a text are answered, and the rest is the front of a line; or why not.
abbrev pub TakesWhole : {W B T : Type 0} → Writer W → Replay W B → Replay W B → (text rest : List ℕ) → Result T ReplayFault → Type 0
TakesWhole w old new text rest result =
    MatchResult result
    (λ _. OnlyWrites w old new × TakesText (written w old) (written w new) (reached old) text (reached new) rest × IsUnbroken rest)
    (λ fault. IsCaused w old new fault × StopsInText w old new text fault)

-- Whether the front of a line may still become a line, and nothing is done; or why it is bad already.
abbrev pub TakesFront : {W B T : Type 0} → Writer W → Replay W B → Replay W B → List ℕ → Result T ReplayFault → Type 0
TakesFront w old new front result =
    MatchResult result (λ _. (reached new ≡ reached old) × (new.writer.now ≡ old.writer.now))
    (λ fault. IsCaused w old new fault × StopsInText w old new front fault)

-- Whether at most this many bytes are kept of a line whose end wasn't read. Where a bad line ends the replay, that is
-- the length of the longest line.
abbrev pub IsShortFront : BadLines → ℕ → Type 0
IsShortFront End n = n ≤ 4096
IsShortFront GoOn n = n ≤ 16777216

-- Whether the pending bytes, if any, are answered as the last line; or why they aren't.
abbrev pub TakesUnended : {W B T : Type 0} → Writer W → Replay W B → Replay W B → List ℕ → Result T ReplayFault → Type 0
TakesUnended w old new pending result =
    MatchResult result (λ _. OnlyWrites w old new × Takes w old (unended pending) new)
    (λ fault. IsCaused w old new fault × StopsAtLast w old new pending fault)

-- Like `TakesUnended`, and no answer waits afterwards.
abbrev pub TakesLast : {W B T : Type 0} → Writer W → Replay W B → Replay W B → List ℕ → Result T ReplayFault → Type 0
TakesLast w old new pending result =
    MatchResult result (λ _. OnlyWrites w old new × Takes w old (unended pending) new × (new.output.items ≡ []))
    (λ fault. IsCaused w old new fault × StopsAtLast w old new pending fault)

-- ---- turns

-- Whether one read is made, with the result that `Turns` describes.
abbrev pub TurnsBy : {R W B : Type 0} → Reader R → Writer W → (from to : R) → Replay W B → Replay W B → (pending rest : List ℕ)
    → Bool → Type 0
TurnsBy r w from to old new pending rest more =
    r.reads from to × OnlyWrites w old new
    × Turns more (r.remaining from) (r.remaining to) (written w old) (written w new) (reached old) pending (reached new) rest

-- Whether the replay stopped in a turn, with this fault.
abbrev pub StopsInTurn : {R W B : Type 0} → Reader R → Writer W → (from to : R) → Replay W B → Replay W B → List ℕ → ReplayFault → Type 0
StopsInTurn r w from to old new pending fault =
    HasTurnCause r w fault from to old.writer.now new.writer.now
    × TurnStops fault (r.remaining from) (r.remaining to) (written w old) (written w new) (reached old) pending new.output.items

-- The result of one turn: whether there may be more to read, or why it stopped.
abbrev pub TakesTurn : {R W B : Type 0} → Reader R → Writer W → (from to : R) → Replay W B → Replay W B → (pending rest : List ℕ)
    → Result Bool ReplayFault → Type 0
TakesTurn r w from to old new pending rest result =
    MatchResult result (TurnsBy r w from to old new pending rest) (StopsInTurn r w from to old new pending)

-- Whether the replay has counted the lines so far, after one more read. Earlier replays of the session had at most 2^32.
pub record KeepsCount {W B : Type 0} (replay : Replay W B) (old new : LinesContent) : Type 0 where
  pub count : replay.tally.lines ≤ new.count + 2 ^ 32
  pub reads : new.reads ≡ suc old.reads

-- Whether nothing has been read or answered yet, since `before` lines.
pub record IsAtStart {W B : Type 0} (before : ℕ) (replay : Replay W B) (at : LinesContent) : Type 0 where
  pub few : before ≤ 2 ^ 32
  pub waiting : replay.output.items ≡ []
  pub lines : replay.tally.lines ≡ before
  pub bad : replay.tally.bad ≡ 0
  pub nothing : at ≡ no_lines
