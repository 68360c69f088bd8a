-- The states of a store that others use too, before and after a command.
use Rattle.std.specs.Prelude.{ℕ, true, List}
use Rattle.ds_entry.specs.declared.item.Item.{Item}
use Rattle.ds_pattern.specs.declared.query.Query.{Query}
use Rattle.ds_machine.specs.State.{State}
use Rattle.ds_machine.specs.Effect.{GoesOn}
use Rattle.ds_machine.specs.Machine.{Run}
use Rattle.ds_machine.specs.Reached.{IsReached}
use Rattle.ds_machine.specs.declared.command.Command.{Command}
use Rattle.ds_machine.specs.declared.command.Command.TheVariants.{Subscribe, Check}
use Rattle.ds_machine.specs.declared.reply.Reply.{Reply}
use Rattle.ds_machine.specs.declared.reply.Reply.TheVariants.{Subscribed, Checked}
use Rattle.ds_content.specs.Content.{ContentRecord}
use Rattle.ds_store.specs.Steps.{ContentSteps}
use Rattle.ds_store.specs.Turns.{Answered}

-- Whether a run of the store's machine leads from `s` to `t`.
pub record Goes (s t : State) : Type 0 where
  pub commands : List Command
  pub replies : List Reply
  pub run : Run s commands replies t

-- Whether others may have brought the store from `s` to `t`.
pub record Went (s t : State) : Type 0 where
  pub reached : IsReached s
  pub goes : Goes s t

-- Whether the command got the reply and led to `t`, perhaps after others used the store in state `s`.
pub record Asked (s : State) (command : Command) (reply : Reply) (t : State) : Type 0 where
  pub mid : State
  pub went : Went s mid
  pub answered : Answered mid command reply t

-- Whether the store made one step for the command, and nothing else happened to it.
abbrev pub StepsOnce : ContentRecord → Command → ContentRecord → Type 0
StepsOnce old command new = (reply : Reply) × ContentSteps old (λ s t. Answered s command reply t) new

-- Whether others used the store, and then it made one step for the command.
abbrev pub StepsAmongOthers : ContentRecord → Command → ContentRecord → Type 0
StepsAmongOthers old command new = (mid : ContentRecord) × ContentSteps old Goes mid × StepsOnce mid command new

-- ---- the asker, before the call and after it; `stands` says which states the store may be in, as far as the asker
-- knows

-- Whether the command got the reply. From each state that the store may have been in, others may have used it first, and
-- the store may be in the resulting state now.
abbrev pub GetsReply : {A : Type 0} → (A → State → Type 0) → A → Command → Reply → A → Type 0
GetsReply stands old command reply new = (s : State) → stands old s → (t : State) × Asked s command reply t × stands new t

-- Whether only others may have used the store.
abbrev pub OthersAsked : {A : Type 0} → (A → State → Type 0) → A → A → Type 0
OthersAsked stands old new = (s : State) → stands old s → (t : State) × Went s t × stands new t

-- A Subscribe with INITIAL, over any earlier subscription of this number.
abbrev pub subscribe_anew : ℕ → Query → Command
subscribe_anew sub query = Subscribe sub query true true

-- Whether the Subscribe was answered with this stamp.
abbrev pub GetsStamp : {A : Type 0} → (A → State → Type 0) → A → ℕ → Query → ℕ → A → Type 0
GetsStamp stands old sub query stamp new = (owed : ℕ) × GetsReply stands old (subscribe_anew sub query) (Subscribed stamp owed) new

-- Whether a Check was answered with these items, and with the subscription's stamps before and after it.
abbrev pub GetsShown : {A : Type 0} → (A → State → Type 0) → A → ℕ → ℕ → List Item → ℕ → ℕ → A → Type 0
GetsShown stands old sub max items before after new = GetsReply stands old (Check sub max) (Checked items before after) new

-- Whether each state that the store may have been in has grown into one that it may be in now, and `says` holds for the
-- two.
abbrev pub ComesTo : {A : Type 0} → (A → State → Type 0) → A → A → (State → State → Type 0) → Type 0
ComesTo stands old new says = (s : State) → stands old s → (t : State) × GoesOn s t × stands new t × says s t
