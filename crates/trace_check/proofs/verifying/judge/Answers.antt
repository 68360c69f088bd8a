use Rattle.std.proofs.Common.{[], refl, subst, sym}
use Rattle.trace_walk.specs.Verdict.{IsVerdict}
use Rattle.trace_walk.specs.Steps.{first_spot}
use Rattle.trace_walk.proofs.BeginLemmas.{known_both, known_then, said_for}
use Rattle.trace_walk.specs.declared.verdict.Verdict.{Verdict}
use Rattle.trace_check.specs.Verifying.{IsVerdictCause}
use Rattle.trace_check.proofs.CauseLemmas.{cause_told}
use Rattle.trace_check.proofs.TellingLemmas.{wanted_for}
use Rattle.trace_check.specs.Telling.{WantsSort}
use Rattle.trace_walk.specs.declared.wrong_line.Wanted.TheVariants.{Header}
use Rattle.trace_check.proofs.verifying.judge.Goals as goal

pub returns-in-Ok-clause-verdict : goal.returns-in-Ok-clause-verdict
returns-in-Ok-clause-verdict g c =
    known_then (g.R.Source.remaining c.args.reader.now) _ _ c.in-Ok.ensures.begins
    (λ bytes walks. c.walk_through-verdict.ensures.ends (first_spot bytes c.in-Ok.walk.header) walks refl)

pub returns-in-Err-clause-verdict : goal.returns-in-Err-clause-verdict
returns-in-Err-clause-verdict g c =
    known_then (g.R.Source.remaining c.args.reader.now) _ _ c.in-Err.ensures.fails
    (λ bytes fails. subst (IsVerdict bytes) (sym c.verdict.ensures) (said_for [] bytes c.in-Err.fault fails))

pub returns-in-Ok-clause-cause : goal.returns-in-Ok-clause-cause
returns-in-Ok-clause-cause g c = c.walk_through-verdict.ensures.cause c.args.reader.now c.in-Ok.ensures.reads

pub returns-in-Err-clause-cause : goal.returns-in-Err-clause-cause
returns-in-Err-clause-cause g c =
    subst (λ (v : Verdict). IsVerdictCause g.R.Source v c.args.reader.now c.begin.new.reader) (sym c.verdict.ensures)
    (cause_told g.R.Source c.in-Err.fault c.args.reader.now c.begin.new.reader c.in-Err.ensures.reads)

pub returns-in-Ok-clause-wanted : goal.returns-in-Ok-clause-wanted
returns-in-Ok-clause-wanted g c =
    known_then (g.R.Source.remaining c.args.reader.now) _ _ c.in-Ok.ensures.begins
    (λ bytes walks. c.walk_through-verdict.ensures.wanted (first_spot bytes c.in-Ok.walk.header) walks refl)

pub returns-in-Err-clause-wanted : goal.returns-in-Err-clause-wanted
returns-in-Err-clause-wanted g c =
    known_both (g.R.Source.remaining c.args.reader.now) _ _ _ c.in-Err.ensures.fails c.in-Err.ensures.wanted
    (λ bytes fails wanted. subst (WantsSort bytes Header) (sym c.verdict.ensures) (wanted_for [] bytes Header c.in-Err.fault fails wanted))
