-- Histories of turns are runs of the machine.
use Rattle.std.proofs.Common.{[], ◌∷◌, refl, sym, subst}
use Rattle.history.proofs.RunLemmas.{run_end}
use Rattle.ds_content.specs.Content.{ContentRecord}
use Rattle.ds_content.specs.Stands.{ContentStands}
use Rattle.ds_store.specs.Turns.{HistoriesRun, Turn, TurnsRun, TurnsAreAnswered}

pub turns_run : TurnsRun
turns_run [] old new run s h = (s, refl, subst (λ (x : ContentRecord). ContentStands x s) run h)
turns_run (e ∷ es) old new run s h =
    let step = run.1.steps s h in
    let rest = turns_run es run.0 new run.2 step.0 step.2 in
    (rest.0, (step.0, record { step = step.1; last = run.1.last s h }, rest.1), rest.2)

pub turns_answer : TurnsAreAnswered
turns_answer es e old new run =
    let turn = (run_end Turn old new es e run).2 in
    let s = turn.stood in
    let step = turn.steps s.0 s.1 in
    record { before = s.0; after = step.0; reached = s.1.reached; answered = record { step = step.1; last = turn.last s.0 s.1 } }

pub histories_run : HistoriesRun
histories_run [] s t run = sym run
histories_run (e ∷ es) s t run = (run.0, run.1.step, histories_run es run.0 t run.2)
