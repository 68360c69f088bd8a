-- What a replay of the lines that are left says of all lines.
use Rattle.std.proofs.Common.{ℕ, List, ◌++◌, sym, ◌∙◌, ap, subst}
use Rattle.std.specs.Prelude.{Option, None, Some, IfSome}
use Rattle.std.specs.Option.{option_map}
use Rattle.std.specs.Io.KnownBytes.{Appends, Consumes, IsAtEnd}
use Rattle.std.proofs.lemmas.List.{append-nil}
use Rattle.ds_script.specs.declared.place.Place.TheVariants.{Begins}
use Rattle.ds_script.specs.Left.{text_left}
use Rattle.ds_script.specs.Stops.{StopsWhatIsLeft}
use Rattle.ds_script.specs.declared.fault.ReplayFault.{ReplayFault}
use Rattle.ds_script.specs.declared.report.BadLines.{BadLines}
use Rattle.ds_script.specs.Session.{SessionContent}
use Rattle.ds_script.specs.Replay.{StopsLater}

-- Where all was read, what holds of the input that was read holds of what is left.
pub answered_of : (old new : Option (List ℕ)) (input : List ℕ) (P : List ℕ → Type 0) →
    Consumes (option_map (text_left Begins) old) new input → IsAtEnd new → P input → IfSome old (λ text. P (text_left Begins text))
answered_of None new input P read end holds = tt
answered_of (Some text) None input P read end holds = absurd read
answered_of (Some text) (Some rest) input P read end holds =
    subst P (sym (read ∙ ap (λ l. input ++ l) end ∙ append-nil input)) holds

-- Where a part was read, a fault that ends the replay of that part ends that of what is left.
pub stopped_of : (policy : BadLines) (before : ℕ) (first : SessionContent) (fault : ReplayFault) (old new had has : Option (List ℕ))
    (input output : List ℕ) →
    Consumes (option_map (text_left Begins) old) new input → Appends had has output →
    StopsLater policy before first fault new input output →
    IfSome old (λ text. StopsWhatIsLeft policy before first fault had has text)
stopped_of policy before first fault None new had has input output read written stops = tt
stopped_of policy before first fault (Some text) None had has input output read written stops = absurd read
stopped_of policy before first fault (Some text) (Some rest) had has input output read written stops =
    record { input = input; rest = rest; output = output; split = read; written = written; stops = stops }
