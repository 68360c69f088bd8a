-- Which commands leave a subscription unchanged, and what a Subscribe and a Check leave.
use Rattle.std.specs.Prelude.{◌≡◌, ℕ, ◌<◌, ◌⊎◌, Bool, false, List, ◌++◌, take, Option, Some, None}
use Rattle.std.specs.List.{list_any}
use Rattle.ds_entry.specs.declared.item.Item.{Item}
use Rattle.ds_pattern.specs.declared.query.Query.{Query}
use Rattle.ds_machine.specs.Subscription.{Subscription}
use Rattle.ds_machine.specs.State.{State, held, unseen, subscription_at}
use Rattle.ds_machine.specs.Machine.{Step, Run}
use Rattle.ds_machine.specs.Watching.{shown_at_first}
use Rattle.ds_machine.specs.Reached.{IsReached}
use Rattle.ds_machine.specs.Effect.{uses}
use Rattle.ds_machine.specs.declared.command.Command.{Command}
use Rattle.ds_machine.specs.declared.command.Command.TheVariants.{Subscribe, Check}
use Rattle.ds_machine.specs.declared.reply.Reply.{Reply}
use Rattle.ds_machine.specs.declared.reply.Reply.TheVariants.{Subscribed, Checked}

-- A law: a step leaves every subscription unchanged except the one that its Subscribe or Check names.
abbrev pub StepKeepsSubscription : Type 0
StepKeepsSubscription =
    (s t : State) (command : Command) (reply : Reply) (sub : ℕ) → IsReached s → Step s command reply t → uses sub command ≡ false →
    subscription_at t sub ≡ subscription_at s sub

-- A law: a run leaves a subscription unchanged if no command names it.
abbrev pub RunKeepsSubscription : Type 0
RunKeepsSubscription =
    (s t : State) (commands : List Command) (replies : List Reply) (sub : ℕ) → IsReached s → Run s commands replies t →
    list_any (uses sub) commands ≡ false → subscription_at t sub ≡ subscription_at s sub

-- Whether there is a subscription, and its stamp is above every stamp taken up to this state.
abbrev pub HasNewStamp : State → Option Subscription → Type 0
HasNewStamp s None = ⊥
HasNewStamp s (Some seer) = s.stamp < seer.stamp

-- A law: a subscription that differs after a step has a new stamp.
abbrev pub StepStampsSubscription : Type 0
StepStampsSubscription =
    (s t : State) (command : Command) (reply : Reply) (sub : ℕ) → IsReached s → Step s command reply t →
    (subscription_at t sub ≡ subscription_at s sub) ⊎ HasNewStamp s (subscription_at t sub)

abbrev pub RunStampsSubscription : Type 0
RunStampsSubscription =
    (s t : State) (commands : List Command) (replies : List Reply) (sub : ℕ) → IsReached s → Run s commands replies t →
    (subscription_at t sub ≡ subscription_at s sub) ⊎ HasNewStamp s (subscription_at t sub)

-- A law: so a caller that finds the stamp it knows finds the subscription unchanged.
abbrev pub StampTells : Type 0
StampTells =
    (s t : State) (commands : List Command) (replies : List Reply) (sub : ℕ) (early late : Subscription) → IsReached s →
    Run s commands replies t →
    subscription_at s sub ≡ Some early → subscription_at t sub ≡ Some late → late.stamp ≡ early.stamp → late ≡ early

-- Whether the place has this subscription now, and nothing took effect.
pub record IsPlaced (s : State) (sub : ℕ) (seer : Subscription) (t : State) : Type 0 where
  pub here : subscription_at t sub ≡ Some seer
  pub feed_is : t.feed ≡ s.feed

-- A law: a Subscribe leaves a subscription with its query. With INITIAL nothing counts as shown, otherwise all that is
-- held.
abbrev pub SubscribedLeaves : Type 0
SubscribedLeaves =
    (s t : State) (sub : ℕ) (query : Query) (initial overwrite : Bool) (stamp owed : ℕ) → IsReached s →
    Step s (Subscribe sub query initial overwrite) (Subscribed stamp owed) t →
    IsPlaced s sub (record { query = query; stamp = stamp; shown = shown_at_first (held s) initial }) t

-- A Check returns the first unseen items, and leaves its subscription with those items shown.
pub record IsCheckedOn (s : State) (sub max : ℕ) (seer : Subscription) (items : List Item) (before after : ℕ) (t : State) : Type 0 where
  pub items_are : items ≡ take max (unseen s seer)
  pub before_is : before ≡ seer.stamp
  pub placed : IsPlaced s sub (record seer { stamp = after; shown = seer.shown ++ items }) t

abbrev pub CheckedLeaves : Type 0
CheckedLeaves =
    (s t : State) (sub max : ℕ) (seer : Subscription) (items : List Item) (before after : ℕ) → IsReached s →
    subscription_at s sub ≡ Some seer → Step s (Check sub max) (Checked items before after) t →
    IsCheckedOn s sub max seer items before after t
