-- The line that a verdict names, and what must follow in its place.
use Rattle.std.specs.Prelude.{◌≡◌, ℕ, List, Option, None, Some}
use Rattle.trace_walk.specs.declared.verdict.Verdict.{Verdict}
use Rattle.trace_walk.specs.declared.verdict.Verdict.TheVariants as verdicts
use Rattle.trace_walk.specs.declared.walk.Walk.{Walk}
use Rattle.trace_walk.specs.declared.wrong_line.Wanted.{Wanted}
use Rattle.trace_walk.specs.declared.wrong_line.Wanted.TheVariants.{Header, Reply}
use Rattle.trace_walk.specs.Steps.{WalksAt}
use Rattle.trace_walk.specs.Walking.{Spot}
use Rattle.trace_walk.specs.Wanting.{IsWantedAt, wanted_in}
use Rattle.trace_check.specs.declared.judged.Judged.{Judged}

-- The sort of line that must be in place of a bad one: the header if no walk began.
abbrev pub wanted_by : Option Walk → Wanted
wanted_by None = Header
wanted_by (Some walk) = wanted_in walk.in_items

-- Whether the verdict names this line, and a reply line, or this other sort, must follow there.
abbrev pub NamesLine : Verdict → (sort : Wanted) → ℕ → Wanted → Type 0
NamesLine (verdicts.IllegalAt line) sort number wanted = (number ≡ line) × (wanted ≡ Reply)
NamesLine (verdicts.BadLineAt line) sort number wanted = (number ≡ line) × (wanted ≡ sort)
NamesLine _ sort number wanted = ⊥

abbrev pub IsOfLine : Judged → ℕ → Wanted → Type 0
IsOfLine judged number wanted = NamesLine judged.verdict (wanted_by judged.walk) number wanted

-- Whether the verdict names no line.
abbrev pub TellsNoLine : Verdict → Type 0
TellsNoLine (verdicts.IllegalAt line) = ⊥
TellsNoLine (verdicts.BadLineAt line) = ⊥
TellsNoLine _ = Unit {0}

-- Whether, at the line that the verdict names, a reply line must follow, or this other sort.
abbrev pub WantsSort : List ℕ → Wanted → Verdict → Type 0
WantsSort bytes sort (verdicts.IllegalAt number) = IsWantedAt bytes number Reply
WantsSort bytes sort (verdicts.BadLineAt number) = IsWantedAt bytes number sort
WantsSort bytes sort _ = Unit {0}

abbrev pub WantsRightly : List ℕ → Judged → Type 0
WantsRightly bytes judged = WantsSort bytes (wanted_by judged.walk) judged.verdict

-- Like `WantsRightly`, from after the header on. `old` is the walk before, and `new` the one after.
abbrev pub EndsWanting : Walk → Option (List ℕ) → Walk → Verdict → Type 0
EndsWanting old from new verdict = (b : Spot) → WalksAt b old from → b.count ≡ 0 → WantsSort b.bytes (wanted_in new.in_items) verdict
