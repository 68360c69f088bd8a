-- Steps of a store by an entry's command.
use Rattle.std.specs.Prelude.{◌≡◌, List, [], ◌∷◌, Some}
use Rattle.ds_content.specs.Content.{ContentRecord}
use Rattle.ds_content.specs.Stands.{ContentStands}
use Rattle.ds_machine.specs.Machine.{Step}
use Rattle.ds_machine.specs.State.{State}
use Rattle.ds_machine.specs.declared.command.Command.{Command}
use Rattle.ds_machine.specs.declared.command.Command.TheVariants.{Sweep}
use Rattle.ds_machine.specs.declared.reply.Reply.{Reply}
use Rattle.ds_store.specs.Last.{IsLast}
use Rattle.script_commands.specs.Command.{store_command}
use Rattle.script_commands.specs.declared.command.ScriptCommand.{ScriptCommand}
use Rattle.trace_walk.specs.declared.asked.Asked.{Asked}
use Rattle.trace_walk.specs.declared.header.Format.{Format}
use Rattle.trace_walk.specs.declared.header.Format.TheVariants.{One}
use Rattle.trace_walk.specs.Legal.{StepOf}
use Rattle.trace_walk.specs.OneReply.{IsTraced}
use Rattle.trace_walk.specs.Sweep.{older_sweep}
use Rattle.trace_walk.specs.Text.{TraceEntry, command_asked}

-- Whether the reply reports lack of memory only where the command takes memory, after every cause that applies. A sweep of
-- format 1 never reports it.
abbrev pub IsLastOf : Format → State → Command → Reply → Type 0
IsLastOf One s (Sweep caller owner generation) reply = reply ≡ (older_sweep s caller owner generation).0
IsLastOf _ s command reply = IsLast s command reply

-- Whether the entry is the answer of a store in the first state, which leads to the second.
abbrev pub EntryAnswered : Format → State → TraceEntry → State → Type 0
EntryAnswered format old e new =
    (command : Command) × (command_asked e.asked ≡ Some command)
    × StepOf format old command e.reply new × IsLastOf format old command e.reply

-- Whether each entry is the answer of one store, from the state after the one before it.
abbrev pub AllAnswered : Format → State → List TraceEntry → State → Type 0
AllAnswered format old [] new = new ≡ old
AllAnswered format old (e ∷ entries) new = (mid : State) × EntryAnswered format old e mid × AllAnswered format mid entries new

-- Whether the store answers the entry's command with this reply, as a trace's store does, from each state that it may
-- be in and that a trace of the format leads to.
abbrev pub StepsBy : ContentRecord → Format → Asked → Reply → ContentRecord → Type 0
StepsBy old format asked reply new =
    (s : State) → ContentStands old s → IsTraced format s →
    (command : Command) × (t : State) × (command_asked asked ≡ Some command)
    × StepOf format s command reply t × IsLastOf format s command reply × ContentStands new t

-- Whether the store takes the step of the line's command.
abbrev pub StepsAsSaid : ContentRecord → ScriptCommand → Reply → ContentRecord → Type 0
StepsAsSaid old said reply new =
    (s : State) → ContentStands old s →
    (command : Command) × (t : State) × (store_command said ≡ Some command)
    × Step s command reply t × IsLast s command reply × ContentStands new t
