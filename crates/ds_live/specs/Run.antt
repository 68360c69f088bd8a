-- A run of threads: what its workers did, and the stores that they left.
use Rattle.std.specs.Prelude.{All, ◌≡◌, ℕ, zero, suc, ◌+◌, ◌<◌, ◌≤◌, Bool, List, [], ◌∷◌, ◌++◌, length, map, None, Some}
use Rattle.std.specs.List.{AllByRecursion, flat_map}
use mathlib.Core.List.{IsPrefix}
use Rattle.history.specs.declared.entry.Entry.{Entry}
use Rattle.history.specs.History.{calls_by, Run}
use Rattle.desk_rule.specs.History.{total_of}
use Rattle.ds_content.specs.Content.{ContentRecord}
use Rattle.ds_content.specs.Stands.{ContentStands}
use Rattle.ds_held.specs.Limits.{larger}
use Rattle.ds_machine.specs.State.{opening}
use Rattle.ds_machine.specs.declared.command.Command.{Command}
use Rattle.ds_machine.specs.declared.reply.Reply.{Reply}
use Rattle.desk_store.specs.Record.{PassRecord}
use Rattle.desk_store.specs.Follower.{FollowerRecord}
use Rattle.desk_store.specs.Refresh.{AreOfFollower}
use Rattle.ds_store.specs.Turns.{Turn}
use Rattle.ds_live.specs.Commands.{each_below, every_key, publisher_label, publisher_number}
use Rattle.ds_live.specs.Turns.{AreAccepted, HasExchangedOften}
use Rattle.ds_live.specs.Workers.{IsAtEnd, LetsThrough}
use Rattle.ds_live.specs.declared.task.Task.{Task}
use Rattle.ds_live.specs.declared.task.Task.TheVariants.{Exchange, Follow, Publish}
use Rattle.ds_live.specs.declared.worker.Worker.{Worker}
use Rattle.ds_live.specs.Tasks.{IsSubscriber, followers_in, passes_in}
use Rattle.ds_live.specs.declared.sizes.Sizes.{Sizes}

-- The numbers below n, from 0 up, and from n - 1 down.
abbrev pub upward : ℕ → List ℕ
upward zero = []
upward (suc n) = upward n ++ n ∷ []

abbrev pub downward : ℕ → List ℕ
downward zero = []
downward (suc n) = n ∷ downward n

module _ (sizes : Sizes) where
  -- The number of workers. The last one exchanges.
  abbrev pub worker_count : ℕ
  worker_count = sizes.publishers + sizes.subscribers + 1

  -- ---- before the turns

  -- Whether the worker has called nothing.
  abbrev pub IsReadyTask : ℕ → PassRecord → Task PassRecord → Type 0
  IsReadyTask index p Publish = (index < sizes.publishers) × (p.calls ≡ [])
  IsReadyTask index p (Follow f) = IsSubscriber sizes index f × (p.calls ≡ [])
  IsReadyTask index p (Exchange r from) =
      (index ≡ sizes.publishers + sizes.subscribers) × (p.calls ≡ []) × (r.calls ≡ []) × (from ≡ None)

  pub record IsReady (w : Worker PassRecord) : Type 0 where
    pub turns : w.turns ≡ sizes.changes
    pub task : IsReadyTask w.index w.pass w.task
    pub idle : w.fault ≡ None

  -- ---- after the turns

  -- Whether the worker took `changes` turns. A publisher's calls are its label, as RS, and then its numbers 0, 1 and so on, and the store
  -- took each. A subscriber's are its follower's. The last worker made exchanges from no cursor on.
  abbrev pub HasTakenTask : ℕ → PassRecord → Task PassRecord → Type 0
  HasTakenTask index p Publish =
      (index < sizes.publishers) × AreAccepted (publisher_label index ∷ each_below (publisher_number index) sizes.changes) p.calls
  HasTakenTask index p (Follow g) =
      IsSubscriber sizes index g × (sizes.changes ≤ length p.calls) × AreOfFollower g.sub every_key p.calls
  HasTakenTask index p (Exchange r next) =
      (index ≡ sizes.publishers + sizes.subscribers)
      × ((q s : PassRecord) × (count : ℕ) × (q.calls ≡ []) × (s.calls ≡ []) × (sizes.changes ≤ count)
      × HasExchangedOften count q p s r None next)

  abbrev pub HasTaken : Worker PassRecord → Type 0
  HasTaken w = HasTakenTask w.index w.pass w.task

  -- Whether the worker took its turns, each after the gate let it through, and then finished.
  pub record HasWorked (answers : ℕ → ℕ → Bool → Type 0) (w : Worker PassRecord) : Type 0 where
    pub taken : HasTaken w
    pub through : LetsThrough answers w.index (suc sizes.changes)
    pub done : IsAtEnd w

-- ---- the stores

-- Whether the content is that of a store after a legal history, from a new store of this incarnation on, with which the desk of these
-- passes was opened at place 0. The history extends what each pass has seen, and its entries are exactly the passes' calls.
pub record ClosesAfter (incarnation : ℕ) (passes : List PassRecord) (closed : ContentRecord) : Type 0 where
  pub opened : ContentRecord
  pub new : ContentStands opened (opening incarnation 0 256 larger)
  pub same_opening : AllByRecursion (λ (p : PassRecord). p.opened ≡ Some opened) passes
  pub same_first : AllByRecursion (λ (p : PassRecord). p.origin.first ≡ 0) passes
  pub history : List (Entry Command Reply)
  pub run : Run Turn opened history closed
  pub begins : AllByRecursion (λ (p : PassRecord). IsPrefix p.history history) passes
  pub own : AllByRecursion (λ (p : PassRecord). calls_by p.origin.number history ≡ p.calls) passes
  pub no_others : (weigh : Entry Command Reply → ℕ) → total_of weigh history ≡ total_of (λ (p : PassRecord). total_of weigh p.calls) passes

-- Whether a run of these sizes left these two stores and these followers: there is one worker of each number, each has worked, and the
-- passes of all are those of the two closed desks.
pub record RunLeaves (answers : ℕ → ℕ → Bool → Type 0) (sizes : Sizes) (here there : ContentRecord)
    (followers : List FollowerRecord) : Type 0 where
  pub workers : List (Worker PassRecord)
  pub numbered : map (λ (w : Worker PassRecord). w.index) workers ≡ upward (worker_count sizes)
  pub worked : All (HasWorked sizes answers) workers
  pub first : ClosesAfter 1 (map (λ (w : Worker PassRecord). w.pass) workers) here
  pub second : ClosesAfter 2 (flat_map (λ (w : Worker PassRecord). passes_in w.task) workers) there
  pub followers_are : followers ≡ flat_map (λ (w : Worker PassRecord). followers_in w.task) workers
