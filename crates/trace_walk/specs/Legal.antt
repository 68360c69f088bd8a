-- Which entries are a legal history.
use Rattle.std.specs.Prelude.{◌≡◌, ℕ, List, [], ◌∷◌, Some}
use Rattle.std.specs.List.{All}
use Rattle.ds_machine.specs.State.{State, opening}
use Rattle.ds_machine.specs.Machine.{Step, Answers}
use Rattle.ds_machine.specs.declared.command.Command.{Command}
use Rattle.ds_machine.specs.declared.command.Command.TheVariants.{Sweep}
use Rattle.ds_machine.specs.declared.reply.Reply.{Reply}
use Rattle.trace_walk.specs.declared.header.Format.{Format}
use Rattle.trace_walk.specs.declared.header.Format.TheVariants.{One}
use Rattle.trace_walk.specs.declared.header.Header.{Header}
use Rattle.trace_walk.specs.Sweep.{older_sweep}
use Rattle.trace_walk.specs.Text.{TraceEntry, IsEntry, IsHeader, command_asked, trace_text}

-- A step of a trace's store: a step of the machine, except that a sweep of format 1 leaves tombstones.
abbrev pub StepOf : Format → State → Command → Reply → State → Type 0
StepOf One old (Sweep caller owner generation) reply new = Answers old (older_sweep old caller owner generation) reply new
StepOf _ old command reply new = Step old command reply new

-- Whether the entry is such a step.
abbrev pub EntryLeads : Format → State → TraceEntry → State → Type 0
EntryLeads format old e new = (command : Command) × (command_asked e.asked ≡ Some command) × StepOf format old command e.reply new

-- Whether each entry is a step from the state after the one before it.
abbrev pub AllLead : Format → State → List TraceEntry → State → Type 0
AllLead format old [] new = new ≡ old
AllLead format old (e ∷ entries) new = (mid : State) × EntryLeads format old e mid × AllLead format mid entries new

-- The state that a header opens.
abbrev pub opened_by : Header → State
opened_by h = opening h.incarnation h.first h.ring h.limits

-- Whether the text is a legal trace: a header, and entries that lead from the state that it opens to `last`.
pub record IsTrace (text : List ℕ) (h : Header) (entries : List TraceEntry) (last : State) : Type 0 where
  pub header : IsHeader h
  pub each : All (IsEntry h.format) entries
  pub history : AllLead h.format (opened_by h) entries last
  pub written : text ≡ trace_text h entries
