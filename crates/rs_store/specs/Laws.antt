-- Laws of histories of RS and its store.
use Rattle.std.specs.Prelude.{◌≡◌, ℕ, List, [], ◌∷◌, ◌++◌, Option, Some, None, filter}
use Rattle.std.specs.List.{flat_map}
use Rattle.history.specs.declared.entry.Entry.{Entry}
use Rattle.history.specs.History.{Run, entry}
use Rattle.ds_content.specs.Content.{ContentRecord}
use Rattle.ds_content.specs.Stands.{ContentStands}
use Rattle.ds_machine.specs.State.{State}
use Rattle.ds_machine.specs.declared.command.Command.{Command}
use Rattle.ds_machine.specs.declared.reply.Reply.{Reply}
use Rattle.rs_to_store.specs.Asked.{command_of, commands}
use Rattle.ds_store.specs.Turns.{Turn, commands_of}
use Rattle.ds_entry.specs.SingleNumbered.{IsSingleNumbered}
use Rattle.rs_core.specs.declared.action.Action.{Action}
use Rattle.rs_core.specs.Reading.{given_up}
use Rattle.rs_core.specs.Run.{RsRun, offers}
use Rattle.rs_core.specs.State.{RsRecord}
use Rattle.rs_core.specs.Step.{RsStep}
use Rattle.rs_store.specs.ByRs.{is_by_rs}
use Rattle.rs_store.specs.declared.call.RsCommand.{RsCommand}
use Rattle.rs_store.specs.declared.call.RsCommand.TheVariants.{Ask, Tell}
use Rattle.rs_store.specs.declared.call.RsReply.{RsReply}
use Rattle.rs_store.specs.declared.call.RsReply.TheVariants.{Replied, Acted, Refused}
use Rattle.rs_store.specs.Pair.{PairRecord}
use Rattle.rs_store.specs.Serving.{RsRefuses}
use Rattle.rs_store.specs.Turns.{RsTurn}

-- ---- the store's part

-- The entry of a command and its reply, if there are both, in this pass.
abbrev pub entry_if : ℕ → Option Command → Option Reply → List (Entry Command Reply)
entry_if n (Some command) (Some reply) = entry n command reply ∷ []
entry_if n _ _ = []

-- The entries of all actions.
abbrev pub entries_for : ℕ → List Action → List (Option Reply) → List (Entry Command Reply)
entries_for n (action ∷ actions) (reply ∷ replies) = entry_if n (command_of action) reply ++ entries_for n actions replies
entries_for n _ _ = []

-- The store's turns in one turn of both.
abbrev pub entries_by : ℕ → RsCommand → RsReply → List (Entry Command Reply)
entries_by n (Ask command) (Replied reply) = entry n command reply ∷ []
entries_by n (Tell event tick) (Acted actions replies given) = entries_for n actions replies
entries_by n _ _ = []

-- The store's turns in a history.
abbrev pub store_entries : List (Entry RsCommand RsReply) → List (Entry Command Reply)
store_entries es = flat_map (λ (e : Entry RsCommand RsReply). entries_by e.pass e.command e.reply) es

-- A law: they are a history of the store.
abbrev pub StoreTurnsRun : Type 0
StoreTurnsRun =
    (es : List (Entry RsCommand RsReply)) (old new : PairRecord) → Run RsTurn old es new → Run Turn old.store (store_entries es) new.store

-- ---- RS's part

-- The actions of one turn.
abbrev pub actions_in : RsReply → List (List Action)
actions_in (Acted actions replies given) = actions ∷ []
actions_in _ = []

-- The actions of a history, for each event that wasn't refused.
abbrev pub actions_by : List (Entry RsCommand RsReply) → List (List Action)
actions_by es = flat_map (λ (e : Entry RsCommand RsReply). actions_in e.reply) es

-- RS's turn in one turn of both: an event at its tick, with the reply.
abbrev pub events_in : ℕ → RsCommand → RsReply → List (Entry RsCommand RsReply)
events_in n (Tell event tick) reply = entry n (Tell event tick) reply ∷ []
events_in n _ reply = []

-- RS's turns in a history: every event, in order.
abbrev pub events_by : List (Entry RsCommand RsReply) → List (Entry RsCommand RsReply)
events_by es = flat_map (λ (e : Entry RsCommand RsReply). events_in e.pass e.command e.reply) es

-- The effect of an event on RS alone. The actions are those of RS's step at this event and tick, and the reply has the service that RS
-- gave up; or RS refuses the event for this fault, and is unchanged.
abbrev pub RsEventStep : RsRecord → RsCommand → RsReply → RsRecord → Type 0
RsEventStep rs (Tell event tick) (Acted actions replies given) new = RsStep rs event tick actions new × (given ≡ given_up rs event tick)
RsEventStep rs (Tell event tick) (Refused fault) new = RsRefuses rs event tick fault × (new ≡ rs)
RsEventStep rs _ _ new = ⊥

-- Whether RS's part of a history leads from one state of RS to another: its events, and its actions.
pub record RsRunsBy (es : List (Entry RsCommand RsReply)) (rs new : RsRecord) : Type 0 where
  pub events : Run RsEventStep rs (events_by es) new
  pub actions : RsRun rs (actions_by es) new

-- A law: once RS has begun, its part of a history is a run of RS over exactly the events of the history.
abbrev pub RsTurnsRun : Type 0
RsTurnsRun = (es : List (Entry RsCommand RsReply)) (old new : PairRecord) (rs : RsRecord) → old.services ≡ Some rs → Run RsTurn old es new →
    (t : RsRecord) × (new.services ≡ Some t) × RsRunsBy es rs t

-- A law: from before RS began, no two label changes that it offers contradict each other.
abbrev pub HistoriesKeepLabels : Type 0
HistoriesKeepLabels = (es : List (Entry RsCommand RsReply)) (old new : PairRecord) → old.services ≡ None → Run RsTurn old es new →
    IsSingleNumbered (flat_map offers (actions_by es))

-- A law: once RS has begun, the store's commands with RS as their caller are those of RS's actions, in order.
abbrev pub RsAloneIsRs : Type 0
RsAloneIsRs =
    (es : List (Entry RsCommand RsReply)) (old new : PairRecord) (rs : RsRecord) → old.services ≡ Some rs → Run RsTurn old es new →
    filter is_by_rs (commands_of (store_entries es)) ≡ flat_map commands (actions_by es)

-- ---- what replies settle

-- Whether some state is one that both `a` and `b` stand for, provided that `old` stands for any.
abbrev pub StandAlike : ContentRecord → ContentRecord → ContentRecord → Type 0
StandAlike old a b = (s : State) → ContentStands old s → (t : State) × ContentStands a t × ContentStands b t

-- A law: commands and their replies settle what RS knows after a history, and the state of the store.
abbrev pub PairsSettle : Type 0
PairsSettle = (es : List (Entry RsCommand RsReply)) (old a b : PairRecord) → Run RsTurn old es a → Run RsTurn old es b →
    (a.services ≡ b.services) × StandAlike old.store a.store b.store
