-- Writing at a bad line.
use Rattle.std.specs.Prelude.{◌≡◌, ℕ, List, [], ◌++◌, Result, MatchResult}
use Rattle.std.specs.Io.KnownBytes.{Appends}
use Rattle.ds_script.specs.declared.fault.ReplayFault.{ReplayFault}
use Rattle.ds_script.specs.declared.fault.ReplayFault.TheVariants.{BadLine}
use Rattle.ds_line.specs.declared.expected.Expected.{Expected}
use Rattle.line_io.specs.declared.streams.Sink.{Ghosts as Writer}
use Rattle.line_io.specs.Streams.{OnlyCalls}
use Rattle.ds_script.specs.Replay.{badline}
use Rattle.ds_script.specs.Progress.{EndsAtBad, TellsBad}
use Rattle.ds_script.specs.Causes.{HasWriteCause}

-- Whether the line ends the script with this fault, after the waiting answers, `old`, are written.
abbrev pub EndsFor : {W : Type 0} → Writer W → ReplayFault → (number place : ℕ) → (from to : W) → (old new : List ℕ) → Type 0
EndsFor w fault number place from to old new =
    HasWriteCause w fault from to × EndsAtBad fault number place (w.contents from) (w.contents to) old new

-- Whether a bad line's fault names the part that was expected.
abbrev pub TellsExpected : ReplayFault → Expected → Type 0
TellsExpected (BadLine number place told) expected = told ≡ expected
TellsExpected _ expected = Unit {0}

-- Whether the script continues after the line: its answer is written after the waiting ones; or why not.
abbrev pub PassesOver : {W T : Type 0} → Writer W → (number place : ℕ) → (from to : W) → (old new : List ℕ) → Result T ReplayFault → Type 0
PassesOver w number place from to old new result =
    MatchResult result
    (λ _. OnlyCalls w.writes from to × Appends (w.contents from) (w.contents to) (old ++ badline number place) × (new ≡ []))
    (λ fault. HasWriteCause w fault from to × TellsBad fault number place (w.contents from) (w.contents to) old new)
