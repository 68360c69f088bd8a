-- Followers that keep up with a pass.
use Rattle.std.specs.Prelude.{ℕ, List, Option, Some, None}
use mathlib.Core.List.{IsPrefix}
use Rattle.history.specs.declared.entry.Entry.{Entry}
use Rattle.ds_entry.specs.declared.item.Item.{Item}
use Rattle.ds_pattern.specs.declared.query.Query.{Query}
use Rattle.ds_machine.specs.declared.command.Command.{Command}
use Rattle.ds_machine.specs.declared.reply.Reply.{Reply}
use Rattle.desk_store.specs.Following.{FollowsStore}
use Rattle.desk_store.specs.Record.{AfterEach, PassRecord}
use Rattle.desk_store.specs.Follower.{FollowerRecord, mapped}

-- Whether the map follows the store in its state after some prefix of the history that the pass has seen.
pub record StandsForFront (p : PassRecord) (sub : ℕ) (query : Query) (stamp : ℕ) (map : List Item) : Type 0 where
  pub front : List (Entry Command Reply)
  pub begins : IsPrefix front p.history
  pub follows : AfterEach p front (λ t. FollowsStore t sub query stamp map)

-- Whether a follower with a last stamp keeps up. One that is new or lost always does.
abbrev pub StandsIfStamped : PassRecord → ℕ → Query → Option ℕ → List Item → Type 0
StandsIfStamped p sub query None map = Unit {0}
StandsIfStamped p sub query (Some stamp) map = StandsForFront p sub query stamp map

abbrev pub KeepsUpWith : PassRecord → FollowerRecord → Type 0
KeepsUpWith p f = StandsIfStamped p f.sub f.map.query f.stamp (mapped f)
