-- Where a replay of what is left stops.
use Rattle.std.specs.Prelude.{◌≡◌, ℕ, List, ◌++◌, Option, Some}
use Rattle.std.specs.Io.KnownBytes.{Appends}
use Rattle.ds_script.specs.declared.fault.ReplayFault.{ReplayFault}
use Rattle.ds_script.specs.declared.report.BadLines.{BadLines}
use Rattle.ds_script.specs.Session.{SessionContent}
use Rattle.ds_script.specs.Replay.{StopsLater}
use Rattle.ds_script.specs.declared.place.Place.TheVariants.{Begins}
use Rattle.ds_script.specs.Left.{text_left}

-- Whether a fault ends the replay of what is left of a text, after this part of it, as it ends a replay of that alone in
-- the session `old`, after `before` lines; `had` and `has` are what the writer holds before and after.
pub record StopsWhatIsLeft (policy : BadLines) (before : ℕ) (old : SessionContent) (fault : ReplayFault) (had has : Option (List ℕ))
    (text : List ℕ) : Type 0 where
  pub input : List ℕ
  pub rest : List ℕ
  pub output : List ℕ
  pub split : text_left Begins text ≡ input ++ rest
  pub written : Appends had has output
  pub stops : StopsLater policy before old fault (Some rest) input output
