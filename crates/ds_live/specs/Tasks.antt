-- What a worker's task has: a pass of the second desk, or a follower.
use Rattle.std.specs.Prelude.{◌≡◌, ℕ, ◌+◌, ◌-◌, ◌*◌, ◌<◌, ◌≤◌, List, [], ◌∷◌}
use Rattle.desk_rule.specs.declared.view.View.{View}
use Rattle.desk.specs.declared.pass.Sight.{Ghosts}
use Rattle.ds_machine.specs.declared.command.Command.{Command}
use Rattle.ds_machine.specs.declared.reply.Reply.{Reply}
use Rattle.desk_store.specs.Record.{Boxed}
use Rattle.desk_store.specs.Follower.{FollowerRecord}
use Rattle.ds_live.specs.declared.task.Task.{Task}
use Rattle.ds_live.specs.declared.task.Task.TheVariants.{Exchange, Follow, Publish}
use Rattle.ds_live.specs.Commands.{every_key}
use Rattle.ds_live.specs.Homes.{Home}
use Rattle.ds_live.specs.Workers.{IsAtHome, StorePass}
use Rattle.ds_live.specs.declared.sizes.Sizes.{Sizes}

-- The follower of a task, if it has one.
abbrev pub followers_in : {P : Type 0} → Task P → List FollowerRecord
followers_in (Follow follower) = follower ∷ []
followers_in _ = []

-- The pass of the second desk that a task has, if any.
abbrev pub passes_in : {P : Type 0} → Task P → List P
passes_in (Exchange other cursor) = other ∷ []
passes_in _ = []

module _ {Z : Type 0} {G : Ghosts (View (Boxed Z) Command Reply)} where
  -- Whether the task's pass, if it has one, is of the desk.
  abbrev pub IsOther : Home → Task (StorePass Z G) → Type 0
  IsOther second Publish = Unit {0}
  IsOther second (Follow follower) = Unit {0}
  IsOther second (Exchange other cursor) = IsAtHome second other

-- Whether subscriber s, worker `publishers` + s, follows all keys by subscription 8 s.
pub record IsSubscriber (sizes : Sizes) (index : ℕ) (f : FollowerRecord) : Type 0 where
  pub from : sizes.publishers ≤ index
  pub below : index < sizes.publishers + sizes.subscribers
  pub sub : f.sub ≡ 8 * (index - sizes.publishers)
  pub query : f.map.query ≡ every_key

-- Whether the task is that of a worker before the last: publishers come first, then subscribers.
abbrev pub IsHired : {P : Type 0} → Sizes → ℕ → Task P → Type 0
IsHired sizes index Publish = index < sizes.publishers
IsHired sizes index (Follow f) = IsSubscriber sizes index f
IsHired sizes index (Exchange other cursor) = ⊥
