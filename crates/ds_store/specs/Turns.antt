-- A store as a machine whose states are its contents. A turn is one command that is answered.
use Rattle.std.specs.Prelude.{◌≡◌, List, [], ◌∷◌, ◌++◌, map}
use Rattle.history.specs.declared.entry.Entry.{Entry}
use Rattle.history.specs.History.{Run}
use Rattle.ds_machine.specs.State.{State}
use Rattle.ds_machine.specs.Machine as machine
use Rattle.ds_machine.specs.Machine.{Step}
use Rattle.ds_machine.specs.Reached.{IsReached}
use Rattle.ds_machine.specs.declared.command.Command.{Command}
use Rattle.ds_machine.specs.declared.reply.Reply.{Reply}
use Rattle.ds_store.specs.Last.{IsLast}
use Rattle.ds_content.specs.Content.{ContentRecord}
use Rattle.ds_content.specs.Stands.{ContentStands, InEachState}
use Rattle.ds_store.specs.Steps.{ContentSteps}

-- A step of the store's machine in which lack of memory is reported only where memory is taken, after every cause that
-- applies.
pub record Answered (s : State) (command : Command) (reply : Reply) (t : State) : Type 0 where
  pub step : Step s command reply t
  pub last : IsLast s command reply

-- A turn: the old content stands for some state, and from each such state the machine steps to one that the new content
-- stands for. Lack of memory comes last.
pub record Turn (old : ContentRecord) (command : Command) (reply : Reply) (new : ContentRecord) : Type 0 where
  pub stood : (s : State) × ContentStands old s
  pub steps : ContentSteps old (λ s t. Step s command reply t) new
  pub last : InEachState old (λ s. IsLast s command reply)

-- A law: a history of turns is one of the machine. It leads from each state that the first content stands for to one
-- that the last content stands for.
abbrev pub TurnsRun : Type 0
TurnsRun = (es : List (Entry Command Reply)) (old new : ContentRecord)
    → Run Turn old es new → ContentSteps old (λ s t. Run Answered s es t) new

-- The machine gave the reply to the command in some reached state. `RepliesFit` then says which variants the reply may
-- be.
pub record WasAnswered (command : Command) (reply : Reply) : Type 0 where
  pub before : State
  pub after : State
  pub reached : IsReached before
  pub answered : Answered before command reply after

-- A law: the last turn of a history was answered so.
abbrev pub TurnsAreAnswered : Type 0
TurnsAreAnswered = (es : List (Entry Command Reply)) (e : Entry Command Reply) (old new : ContentRecord)
    → Run Turn old (es ++ e ∷ []) new → WasAnswered e.command e.reply

-- The commands of a history, and its replies, in order.
abbrev pub commands_of : List (Entry Command Reply) → List Command
commands_of es = map (λ (e : Entry Command Reply). e.command) es

abbrev pub replies_of : List (Entry Command Reply) → List Reply
replies_of es = map (λ (e : Entry Command Reply). e.reply) es

-- A law: a history of the machine is its run over the lists of commands and replies.
abbrev pub HistoriesRun : Type 0
HistoriesRun = (es : List (Entry Command Reply)) (s t : State) → Run Answered s es t → machine.Run s (commands_of es) (replies_of es) t

-- A law: a command and its reply determine the state after them. Two steps from one state with the same answer lead to
-- one state.
abbrev pub RepliesSettle : Type 0
RepliesSettle = (s t u : State) (command : Command) (reply : Reply) → Step s command reply t → Step s command reply u → t ≡ u

-- A law: so a history determines the state that it leads to.
abbrev pub HistoriesSettle : Type 0
HistoriesSettle = (es : List (Entry Command Reply)) (s t u : State) → Run Answered s es t → Run Answered s es u → t ≡ u
