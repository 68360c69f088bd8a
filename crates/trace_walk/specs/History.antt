-- A legal trace as a history of the machine. In format 1 the steps are the machine's except for sweeps, as `StepOf`
-- says.
use Rattle.std.specs.Prelude.{◌≡◌, ℕ, List, [], ◌∷◌, map, Some}
use Rattle.std.specs.List.{All}
use Rattle.ds_machine.specs.Machine.{Run}
use Rattle.ds_machine.specs.State.{State}
use Rattle.ds_machine.specs.declared.command.Command.{Command}
use Rattle.ds_machine.specs.declared.reply.Reply.{Reply}
use Rattle.trace_walk.specs.declared.header.Format.TheVariants.{Two}
use Rattle.trace_walk.specs.declared.header.Header.{Header}
use Rattle.trace_walk.specs.Legal.{IsTrace, opened_by}
use Rattle.trace_walk.specs.Text.{TraceEntry, IsEntry, IsHeader, command_asked, trace_text}

-- Whether the entries have these commands, one each.
abbrev pub AskEach : List TraceEntry → List Command → Type 0
AskEach [] [] = Unit {0}
AskEach (e ∷ entries) (command ∷ commands) = (command_asked e.asked ≡ Some command) × AskEach entries commands
AskEach [] (command ∷ commands) = ⊥
AskEach (e ∷ entries) [] = ⊥

-- The replies of the entries.
abbrev pub replies_in : List TraceEntry → List Reply
replies_in entries = map (λ (e : TraceEntry). e.reply) entries

-- A written run is a legal trace, if its machine begins in the state that the header opens.
abbrev pub RunIsLegal : Type 0
RunIsLegal =
    (h : Header) (entries : List TraceEntry) (commands : List Command) (last : State) →
    h.format ≡ Two → IsHeader h → All (IsEntry Two) entries →
    AskEach entries commands → Run (opened_by h) commands (replies_in entries) last → IsTrace (trace_text h entries) h entries last

-- A legal trace is a history: its commands, with its replies, are a run of the machine from the state that its header
-- opens.
abbrev pub LegalIsHistory : Type 0
LegalIsHistory =
    (text : List ℕ) (h : Header) (entries : List TraceEntry) (last : State) → h.format ≡ Two → IsTrace text h entries last →
    (commands : List Command) × AskEach entries commands × Run (opened_by h) commands (replies_in entries) last
