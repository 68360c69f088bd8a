-- What one step, or a run of steps, can do to the machine's state.
use Rattle.std.specs.Prelude.{◌≡◌, ◌==◌, ℕ, ◌<◌, ◌≤◌, Bool, true, false, ◌⊎◌, nat_le, cond, List, [], ◌∷◌, ◌++◌, take, Contains}
use Rattle.ds_names.specs.Endpoint.{EndpointRecord}
use Rattle.ds_entry.specs.ItemCovers.{covers}
use Rattle.ds_entry.specs.declared.body.Body.TheVariants.{Put, Gone}
use Rattle.ds_entry.specs.declared.floor.Floor.{Floor}
use Rattle.ds_entry.specs.declared.item.Item.{Item}
use Rattle.ds_entry.specs.declared.item.Item.TheVariants.{Change as Changed, Floor as Floored}
use Rattle.ds_entry.specs.Floor.{floor_of}
use Rattle.ds_held.specs.Limits.{LimitsRecord, IsLimits}
use Rattle.ds_join.specs.ItemTop.{IsTop, IsPartOf, CoversAll, FitsOwners}
use Rattle.ds_pattern.specs.declared.query.Query.{Query}
use Rattle.ds_machine.specs.Parts.{floor_at}
use Rattle.ds_machine.specs.State.{State, held, takes_effect, subscribes, opening}
use Rattle.ds_machine.specs.Standing.{on_floor}
use Rattle.ds_machine.specs.Asking.{published, deleted, asked_in}
use Rattle.ds_machine.specs.Machine.{Step, Run}
use Rattle.ds_machine.specs.Reached.{IsReached}
use Rattle.ds_machine.specs.declared.command.Command.{Command}
use Rattle.ds_machine.specs.declared.command.Command.TheVariants.{Publish, Delete, Sweep, Subscribe, Check, Merge}
use Rattle.ds_machine.specs.declared.reply.Reply.{Reply}
use Rattle.ds_machine.specs.declared.reply.Reply.TheVariants.{Changed as Accepted, Known, Swept, Merged, MergeStopped}

-- The floor, if it raises its owner's: nothing if one as high is held.
abbrev pub raised_by : State → Floor → List Item
raised_by s f = cond (on_floor (floor_at (held s) f.owner) (nat_le f.generation)) [] (Floored f ∷ [])

-- The items that a command brings: the change asked for, the floor that a Sweep raises, a Merge's items.
abbrev pub brought_by : State → Command → List Item
brought_by s (Publish caller key version value overwrite) = Changed (asked_in s (published caller key version overwrite) (Put value)) ∷ []
brought_by s (Delete caller key version) = Changed (asked_in s (deleted caller key version) Gone) ∷ []
brought_by s (Sweep caller owner generation) = raised_by s (floor_of owner generation)
brought_by s (Merge items) = items
brought_by s _ = []

-- The items of a command that the store knows after this reply: none after a refusal, those done after a stopped Merge,
-- else all.
abbrev pub known_after : Reply → List Item → List Item
known_after (Accepted owed) items = items
known_after Known items = items
known_after (Swept count owed) items = items
known_after (Merged done taken stale owed) items = items
known_after (MergeStopped done fault owed) items = take done items
known_after _ items = []

abbrev pub learnt_by : State → Command → Reply → List Item
learnt_by s command reply = known_after reply (brought_by s command)

-- The item is news: no accepted item covers it, and a change has the owner of those of its key that aren't void.
pub record IsNews (accepted : List Item) (i : Item) : Type 0 where
  pub newer : (j : Item) → Contains accepted j → covers j i ≡ false
  pub fits : FitsOwners accepted i

-- Whether each of the items is news when its turn comes.
abbrev pub AreNews : List Item → List Item → Type 0
AreNews accepted [] = Unit {0}
AreNews accepted (i ∷ items) = IsNews accepted i × AreNews (accepted ++ i ∷ []) items

-- Whether some of the learnt items took effect, each news at its turn, and nothing else happened.
pub record Grows (old : State) (learnt : List Item) (new : State) : Type 0 where
  pub items : List Item
  pub news : AreNews old.feed.accepted items
  pub part : IsPartOf items learnt
  pub state_is : new ≡ takes_effect old items

-- Whether the command may change the subscription at the place.
abbrev pub uses : ℕ → Command → Bool
uses sub (Subscribe k query initial overwrite) = k == sub
uses sub (Check k max) = k == sub
uses sub _ = false

-- A subscription's place was written by a command for it, and nothing else happened.
pub record Serves (old : State) (command : Command) (new : State) : Type 0 where
  pub sub : ℕ
  pub query : Query
  pub shown : List Item
  pub place : sub < old.limits.subs
  pub used : uses sub command ≡ true
  pub part : IsPartOf shown old.feed.accepted
  pub state_is : new ≡ subscribes old sub query shown

abbrev pub Effect : State → Command → Reply → State → Type 0
Effect old command reply new = Grows old (learnt_by old command reply) new ⊎ Serves old command new

-- A law: the opening state is reached.
abbrev pub OpeningIsReached : Type 0
OpeningIsReached =
    (incarnation first ring : ℕ) (limits : LimitsRecord) → IsLimits limits → IsReached (opening incarnation first ring limits)

-- A law: steps and runs lead from reached states to reached states.
abbrev pub StepsStayReached : Type 0
StepsStayReached = (s t : State) (command : Command) (reply : Reply) → IsReached s → Step s command reply t → IsReached t

abbrev pub RunsStayReached : Type 0
RunsStayReached = (s t : State) (commands : List Command) (replies : List Reply) → IsReached s → Run s commands replies t → IsReached t

-- A law: every step makes learnt items take effect, or writes one subscription's place.
abbrev pub StepHasEffect : Type 0
StepHasEffect = (s t : State) (command : Command) (reply : Reply) → IsReached s → Step s command reply t → Effect s command reply t

-- A law: a Sweep makes known exactly what took effect. So one that raises nothing makes no floor known.
abbrev pub SweepLearnsEffect : Type 0
SweepLearnsEffect =
    (s t : State) (caller : EndpointRecord) (owner : List ℕ) (generation : ℕ) (reply : Reply) →
    IsReached s → Step s (Sweep caller owner generation) reply t → t ≡ takes_effect s (learnt_by s (Sweep caller owner generation) reply)

-- The state `new` is `old` or a later state of the same incarnation: its accepted list extends the old one.
pub record GoesOn (old new : State) : Type 0 where
  pub limits : new.limits ≡ old.limits
  pub incarnation : new.feed.incarnation ≡ old.feed.incarnation
  pub first : new.feed.first ≡ old.feed.first
  pub ring : new.feed.ring ≡ old.feed.ring
  pub grown : (since : List Item) × AreNews old.feed.accepted since × (new.feed.accepted ≡ old.feed.accepted ++ since)
  pub stamp : old.stamp ≤ new.stamp

-- A law: the relation is reflexive and transitive, and every step and run keeps it.
abbrev pub GoesOnSame : Type 0
GoesOnSame = (s : State) → GoesOn s s

abbrev pub GoesOnLater : Type 0
GoesOnLater = (s t u : State) → GoesOn s t → GoesOn t u → GoesOn s u

abbrev pub StepsGoOn : Type 0
StepsGoOn = (s t : State) (command : Command) (reply : Reply) → IsReached s → Step s command reply t → GoesOn s t

abbrev pub RunsGoOn : Type 0
RunsGoOn = (s t : State) (commands : List Command) (replies : List Reply) → IsReached s → Run s commands replies t → GoesOn s t

-- A law: what is held is the top of everything accepted.
abbrev pub HeldIsTop : Type 0
HeldIsTop = (s : State) → IsReached s → IsTop (held s) s.feed.accepted

-- A law: for everything learnt, the item or one that covers it is held.
abbrev pub LearntIsHeld : Type 0
LearntIsHeld =
    (s t : State) (command : Command) (reply : Reply) → IsReached s → Step s command reply t →
    CoversAll (held t) (learnt_by s command reply)

-- A law: so what is held stays the top of everything that the store knows.
abbrev pub KnownStaysHeld : Type 0
KnownStaysHeld =
    (s t : State) (command : Command) (reply : Reply) (known : List Item) → IsReached s → Step s command reply t → IsTop (held s) known →
    IsTop (held t) (known ++ learnt_by s command reply)
