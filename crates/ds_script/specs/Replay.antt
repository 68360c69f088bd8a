-- The answers to the bytes of a script, whole or up to a fault, and what happens at lines that aren't commands.
use Rattle.std.specs.Prelude.{◌≡◌, ℕ, suc, ◌<◌, ◌+◌, ◌⊎◌, List, [], ◌∷◌, ◌++◌, length, Option, codes}
use Rattle.std.specs.List.{All}
use Rattle.std.specs.Fmt.{decimal}
use Rattle.std.specs.Io.KnownBytes.{IsAtEnd}
use Rattle.line_io.specs.Lines.{IsUnbroken, joined, HasLines, with_newline}
use Rattle.script_commands.specs.Command.{IsBadLineAs}
use Rattle.ds_script.specs.declared.fault.ReplayFault.{ReplayFault}
use Rattle.ds_script.specs.declared.fault.ReplayFault.TheVariants.{BadLine, ReadFault, WriteFault, NoRoom}
use Rattle.ds_script.specs.declared.report.BadLines.{BadLines}
use Rattle.ds_script.specs.declared.report.BadLines.TheVariants.{End, GoOn}
use Rattle.ds_script.specs.Session.{SessionContent, IsOpened}
use Rattle.ds_script.specs.Answer.{MayStand, AnswersLine}

-- Whether the line, after `before` others, is bad at the place.
abbrev pub IsBadAfter : ℕ → List ℕ → ℕ → Type 0
IsBadAfter before line place = IsBadLineAs (MayStand before) line place

-- The answer to a line that isn't a command: its number, from 1, and the place.
abbrev pub badline : ℕ → ℕ → List ℕ
badline number place = with_newline (codes "badline " ++ (decimal number ++ 32 ∷ decimal place))

-- The answer to a bad line after `before` others, where bad lines don't end the script. It changes nothing, and is
-- counted.
abbrev pub TellsBadLine : BadLines → ℕ → SessionContent → List ℕ → List ℕ → ℕ → SessionContent → Type 0
TellsBadLine policy before old line out bad new =
    (policy ≡ GoOn) × (new ≡ old) × (bad ≡ 1) × (place : ℕ) × IsBadAfter before line place × (out ≡ badline (suc before) place)

-- The answer to a line after `before` others, a bad one too.
abbrev pub AnswersOrTells : BadLines → ℕ → SessionContent → List ℕ → List ℕ → ℕ → SessionContent → Type 0
AnswersOrTells policy before old line out bad new =
    (AnswersLine before old line out new × (bad ≡ 0)) ⊎ TellsBadLine policy before old line out bad new

-- The answers to lines after `before` others, in order, and how many are bad.
abbrev pub AnswersLines : BadLines → ℕ → SessionContent → List (List ℕ) → List ℕ → ℕ → SessionContent → Type 0
AnswersLines policy before old [] out bad new = (out ≡ []) × (bad ≡ 0) × (new ≡ old)
AnswersLines policy before old (line ∷ lines) out bad new =
    (mid : SessionContent) × (first rest : List ℕ) × (one more : ℕ) × AnswersOrTells policy before old line first one mid ×
    AnswersLines policy (suc before) mid lines rest more new × (out ≡ first ++ rest) × (bad ≡ one + more)

-- Whether the output is the answers to a script's lines, `bad` of them bad, from a new session whose journals keep 256
-- items. No lines have no answers.
abbrev pub AreAnswers : BadLines → List (List ℕ) → ℕ → List ℕ → Type 0
AreAnswers policy [] bad output = (output ≡ []) × (bad ≡ 0)
AreAnswers policy (line ∷ lines) bad output =
    (start end : SessionContent) × IsOpened 256 start × AnswersLines policy 0 start (line ∷ lines) output bad end

-- The answers to lines after `before` others, from a session to some other.
abbrev pub AnswersFrom : BadLines → ℕ → SessionContent → List (List ℕ) → ℕ → List ℕ → Type 0
AnswersFrom policy before old lines bad output = (new : SessionContent) × AnswersLines policy before old lines output bad new

-- Whether the input is `count` lines, `bad` of them bad, and the output is all their answers, as A has them.
pub record IsAnsweredAs (A : List (List ℕ) → ℕ → List ℕ → Type 0) (input : List ℕ) (count bad : ℕ) (output : List ℕ) : Type 0 where
  pub lines : List (List ℕ)
  pub split : HasLines input lines
  pub answers : A lines bad output
  pub counted : length lines ≡ count

-- Like `IsAnsweredAs`, for a script from a new session on.
abbrev pub IsReplayed : BadLines → List ℕ → ℕ → ℕ → List ℕ → Type 0
IsReplayed policy input count bad output = IsAnsweredAs (AreAnswers policy) input count bad output

-- Whether the input is lines after `before` others, `total` is the count of them all, `bad` of the input's are bad, and
-- the output is all their answers, which lead from the old session to the new one.
pub record IsReplayedIn (policy : BadLines) (before : ℕ) (old new : SessionContent) (input : List ℕ) (total bad : ℕ) (output : List ℕ) :
    Type 0 where
  pub count : ℕ
  pub answered : IsAnsweredAs (λ lines n out. AnswersLines policy before old lines out n new) input count bad output
  pub counted : total ≡ before + count

-- Whether the input is `count` whole lines and then `rest`, and the output is the answers to these lines.
pub record IsAnsweredUpTo (A : List (List ℕ) → ℕ → List ℕ → Type 0) (rest input : List ℕ) (count bad : ℕ) (output : List ℕ) : Type 0 where
  pub lines : List (List ℕ)
  pub unbroken : All IsUnbroken lines
  pub split : input ≡ joined lines ++ rest
  pub answers : A lines bad output
  pub counted : length lines ≡ count

-- Whether the output is the answers to a front of the input, except the last of them, `left`. The front ends with a
-- newline, or is all that there was to read.
pub record IsAnsweredInPart (A : List (List ℕ) → ℕ → List ℕ → Type 0) (to : Option (List ℕ)) (input output : List ℕ) : Type 0 where
  pub front : List ℕ
  pub rest : List ℕ
  pub left : List ℕ
  pub count : ℕ
  pub bad : ℕ
  pub split : input ≡ front ++ rest
  pub answered : IsAnsweredAs A front count bad (output ++ left)
  pub ends : (answered.split.last ≡ []) ⊎ ((rest ≡ []) × IsAtEnd to)

-- Whether the rest, after `before` lines, begins with a line that is bad at the place. It was read up to its newline,
-- up to the end of the input, or past 4096 bytes.
pub record BeginsBadLine (before : ℕ) (to : Option (List ℕ)) (rest : List ℕ) (place : ℕ) : Type 0 where
  pub line : List ℕ
  pub more : List ℕ
  pub split : rest ≡ line ++ more
  pub unbroken : IsUnbroken line
  pub bad : IsBadAfter before line place
  pub ends : ((after : List ℕ) × (more ≡ 10 ∷ after)) ⊎ (((more ≡ []) × IsAtEnd to) ⊎ (4096 < length line))

-- Whether all lines before the rest are answered.
abbrev pub ReplayStops : (List (List ℕ) → ℕ → List ℕ → Type 0) → (ℕ → List ℕ → Type 0) → List ℕ → List ℕ → Type 0
ReplayStops A Why input output = (count bad : ℕ) × (rest : List ℕ) × IsAnsweredUpTo A rest input count bad output × Why count rest

-- How the output answers the input, after `before` lines, when a fault ends the replay; `to` is what the reader has left.
-- A bad line ends it only under the policy End.
abbrev pub StopsBy : (List (List ℕ) → ℕ → List ℕ → Type 0) → ℕ → BadLines → ReplayFault → Option (List ℕ) → List ℕ → List ℕ → Type 0
StopsBy A before policy (BadLine number place expected) to input output =
    (policy ≡ End)
    × ReplayStops A (λ count rest. BeginsBadLine (before + count) to rest place × (number ≡ suc (before + count))) input output
StopsBy A before policy ReadFault to input output = ReplayStops A (λ count rest. IsUnbroken rest) input output
StopsBy A before policy WriteFault to input output = IsAnsweredInPart A to input output
StopsBy A before policy NoRoom to input output = ReplayStops A (λ count rest. Unit {0}) input output

-- Like `StopsBy`, for a script from a new session on.
abbrev pub StopsWith : BadLines → ReplayFault → Option (List ℕ) → List ℕ → List ℕ → Type 0
StopsWith policy fault to input output = StopsBy (AreAnswers policy) 0 policy fault to input output

-- Like `StopsBy`, for a script that continues a session.
abbrev pub StopsLater : BadLines → ℕ → SessionContent → ReplayFault → Option (List ℕ) → List ℕ → List ℕ → Type 0
StopsLater policy before old fault to input output = StopsBy (AnswersFrom policy before old) before policy fault to input output
