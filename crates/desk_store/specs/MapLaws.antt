-- Laws of a map that follows a store by its subscriber's own Subscribe and Checks, whatever commands others send.
use Rattle.std.specs.Prelude.{◌≡◌, ◌≢◌, ◌⊎◌, ℕ, ◌<◌, true, false, List, [], ◌++◌, length, take, slice_get, Contains, Some}
use Rattle.history.specs.declared.entry.Entry.{Entry}
use Rattle.history.specs.History.{Run}
use Rattle.ds_entry.specs.Under.{under}
use Rattle.ds_entry.specs.declared.item.Item.{Item}
use Rattle.ds_join.specs.ItemTop.{IsTop}
use Rattle.ds_join.specs.declared.merge.JoinFault.{JoinFault}
use Rattle.ds_join.specs.declared.merge.JoinFault.TheVariants.{NoRoom}
use Rattle.ds_held.specs.Held.{Holding, held_items, IsSound}
use Rattle.ds_held.specs.Join.{IsItemRefused}
use Rattle.ds_held.specs.Limits.{larger}
use Rattle.ds_pattern.specs.declared.query.Query.{Query}
use Rattle.ds_pattern.specs.Under.{is_under}
use Rattle.ds_machine.specs.State.{State}
use Rattle.ds_machine.specs.Machine.{Step}
use Rattle.ds_machine.specs.Reached.{IsReached}
use Rattle.ds_machine.specs.Within.{IsWithin}
use Rattle.ds_machine.specs.Effect.{uses}
use Rattle.ds_machine.specs.declared.command.Command.{Command}
use Rattle.ds_machine.specs.declared.command.Command.TheVariants.{Subscribe, Check}
use Rattle.ds_machine.specs.declared.reply.Reply.{Reply}
use Rattle.ds_machine.specs.declared.reply.Reply.TheVariants.{Subscribed, Checked}
use Rattle.ds_store.specs.Turns.{Answered}
use Rattle.desk_store.specs.Following.{FollowsStore, IsTakenOver, IsCurrent}

-- ---- over others' calls

-- A law: after any calls, the map still follows, or the subscription was replaced.
abbrev pub FollowsOn : Type 0
FollowsOn =
    (es : List (Entry Command Reply)) (s t : State) (sub : ℕ) (query : Query) (stamp : ℕ) (map : List Item) → IsReached s →
    Run Answered s es t → FollowsStore s sub query stamp map → FollowsStore t sub query stamp map ⊎ IsTakenOver t sub stamp

-- Whether none of the calls was for the subscription.
abbrev pub AreForOthers : ℕ → List (Entry Command Reply) → Type 0
AreForOthers sub es = (e : Entry Command Reply) → Contains es e → uses sub e.command ≡ false

-- A law: after calls of which none was for the subscription, the map still follows.
abbrev pub FollowsAlone : Type 0
FollowsAlone =
    (es : List (Entry Command Reply)) (s t : State) (sub : ℕ) (query : Query) (stamp : ℕ) (map : List Item) → IsReached s →
    Run Answered s es t → AreForOthers sub es → FollowsStore s sub query stamp map → FollowsStore t sub query stamp map

-- ---- the subscriber's own calls

-- A law: after a Subscribe with INITIAL, the empty map follows.
abbrev pub FollowsFirst : Type 0
FollowsFirst =
    (s t : State) (sub : ℕ) (query : Query) (stamp owed : ℕ) → IsReached s →
    Step s (Subscribe sub query true true) (Subscribed stamp owed) t → FollowsStore t sub query stamp []

-- Whether the map follows after it took the items of a Check. If there were fewer than `max`, the map is current.
pub record IsRefreshed (t : State) (sub : ℕ) (query : Query) (max after : ℕ) (items map : List Item) : Type 0 where
  pub follows : FollowsStore t sub query after map
  pub current : length items < max → IsCurrent t query map

abbrev pub FollowsCheck : Type 0
FollowsCheck =
    (s t : State) (sub : ℕ) (query : Query) (stamp max before after : ℕ) (items old new : List Item) → IsReached s →
    FollowsStore s sub query stamp old → Step s (Check sub max) (Checked items before after) t →
    IsTop new (old ++ under (is_under query) items) → IsRefreshed t sub query max after items new

-- ---- the stamp that a Check returns, if the map followed some calls before it

-- A law: if a Check returns another stamp than the subscriber's last one, some call between was for the subscription.
abbrev pub TellsOthers : Type 0
TellsOthers =
    (es : List (Entry Command Reply)) (s m t : State) (sub : ℕ) (query : Query) (stamp max before after : ℕ) (items map : List Item) →
    IsReached s → FollowsStore s sub query stamp map → Run Answered s es m → Step m (Check sub max) (Checked items before after) t →
    before ≢ stamp → (e : Entry Command Reply) × Contains es e × (uses sub e.command ≡ true)

-- A law: if a Check returns the subscriber's last stamp, the map still followed before the Check.
abbrev pub TellsOwn : Type 0
TellsOwn =
    (es : List (Entry Command Reply)) (s m t : State) (sub : ℕ) (query : Query) (stamp max before after : ℕ) (items map : List Item) →
    IsReached s → FollowsStore s sub query stamp map → Run Answered s es m → Step m (Check sub max) (Checked items before after) t →
    before ≡ stamp → FollowsStore m sub query stamp map

-- ---- refusals of the map

-- Whether `new` is the holding of a map that took the first `n` items of a Check.
pub record TookFirst (query : Query) (old new : Holding) (items : List Item) (n : ℕ) : Type 0 where
  pub sound : IsSound new
  pub limits : new.limits ≡ larger
  pub top : IsTop (held_items new) (held_items old ++ under (is_under query) (take n items))

-- A law: a map that took the first items of a Check refuses the next one only if memory runs out.
abbrev pub ChecksFit : Type 0
ChecksFit =
    (s t : State) (sub : ℕ) (query : Query) (stamp max before after : ℕ) (items : List Item) (old new : Holding) (n : ℕ) (next : Item)
    (fault : JoinFault) → IsReached s → IsWithin s → FollowsStore s sub query stamp (held_items old) →
    Step s (Check sub max) (Checked items before after) t → TookFirst query old new items n → slice_get items n ≡ Some next →
    IsItemRefused new next fault → fault ≡ NoRoom
