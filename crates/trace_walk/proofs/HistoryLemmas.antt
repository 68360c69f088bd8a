-- A written run is a legal trace, and a legal trace is a history of the machine.
use Rattle.std.proofs.Common.{List, [], ◌∷◌, refl, sym, subst}
use Rattle.std.specs.List.{All}
use Rattle.ds_machine.specs.Machine.{Run}
use Rattle.ds_machine.specs.State.{State}
use Rattle.ds_machine.specs.declared.command.Command.{Command}
use Rattle.trace_walk.specs.declared.header.Format.{Format}
use Rattle.trace_walk.specs.declared.header.Format.TheVariants.{Two}
use Rattle.trace_walk.specs.History.{AskEach, replies_in, RunIsLegal, LegalIsHistory}
use Rattle.trace_walk.specs.Legal.{AllLead, opened_by}
use Rattle.trace_walk.specs.Text.{TraceEntry, IsEntry}

run_leads : (entries : List TraceEntry) (commands : List Command) (s t : State) → AskEach entries commands →
    Run s commands (replies_in entries) t → AllLead Two s entries t
run_leads [] [] s t asks run = run
run_leads (e ∷ entries) (command ∷ commands) s t asks run =
    (run.0, (command, asks.0, run.1), run_leads entries commands run.0 t asks.1 run.2)
run_leads [] (command ∷ commands) s t asks run = absurd asks
run_leads (e ∷ entries) [] s t asks run = absurd asks

pub run_is_legal : RunIsLegal
run_is_legal h entries commands last two is each asks run =
    record {
      header = is;
      each = subst (λ (f : Format). All (IsEntry f) entries) (sym two) each;
      history = subst (λ (f : Format). AllLead f (opened_by h) entries last) (sym two)
          (run_leads entries commands (opened_by h) last asks run);
      written = refl;
    }

lead_runs : (entries : List TraceEntry) (s t : State) → AllLead Two s entries t →
    (commands : List Command) × AskEach entries commands × Run s commands (replies_in entries) t
lead_runs [] s t leads = ([], tt, leads)
lead_runs (e ∷ entries) s t leads =
    let more = lead_runs entries leads.0 t leads.2 in
    (leads.1.0 ∷ more.0, (leads.1.1, more.1), (leads.0, leads.1.2, more.2))

pub legal_is_history : LegalIsHistory
legal_is_history text h entries last two trace =
    lead_runs entries (opened_by h) last (subst (λ (f : Format). AllLead f (opened_by h) entries last) two trace.history)
