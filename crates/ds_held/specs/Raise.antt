-- The answer to a raised floor, and the holding after it.
use Rattle.std.specs.Prelude.{◌≡◌, ℕ, ◌<◌, Bool, true, not, Option, Some, None, Result, Ok, Err}
use Rattle.std.specs.FinMap.{FinMap, get, insert, retain_keys}
use Rattle.ds_names.specs.Key.{key_cmp}
use Rattle.ds_entry.specs.Change.{ChangeRecord}
use Rattle.ds_entry.specs.Void.{voids}
use Rattle.ds_entry.specs.declared.floor.Floor.{Floor}
use Rattle.ds_join.specs.declared.merge.Merge.{Merge}
use Rattle.ds_join.specs.declared.merge.Merge.TheVariants.{Taken, Known, Stale}
use Rattle.ds_join.specs.declared.merge.JoinFault.{JoinFault}
use Rattle.ds_held.specs.Held.{Holding, floor_for, floor_count}
use Rattle.ds_held.specs.Merge.{AnswersNew}

-- The answer to a floor at `generation`, where its owner has one at `held`: never a refusal.
abbrev pub AnswersHigher : ℕ → ℕ → Result Merge JoinFault → Type 0
AnswersHigher held generation (Ok Taken) = held < generation
AnswersHigher held generation (Ok Known) = held ≡ generation
AnswersHigher held generation (Ok Stale) = generation < held
AnswersHigher held generation (Err fault) = ⊥

-- The answer by the owner's floor, if any, and the number of all floors, at most 64.
abbrev pub AnswersFloor : Option ℕ → ℕ → ℕ → Result Merge JoinFault → Type 0
AnswersFloor None count generation answer = AnswersNew count 64 answer
AnswersFloor (Some held) count generation answer = AnswersHigher held generation answer

-- The answer to a raised floor.
abbrev pub RaiseAnswer : Holding → Floor → Result Merge JoinFault → Type 0
RaiseAnswer old f answer = AnswersFloor (floor_for old f.owner) (floor_count old) f.generation answer

-- Whether the floor leaves the change, if there is one.
abbrev pub stays : Floor → Option ChangeRecord → Bool
stays f None = true
stays f (Some c) = not (voids f c)

-- The map without the keys of changes that the floor voids.
abbrev pub at_kept_keys : {X : Type 0} → Floor → FinMap key_cmp ChangeRecord → FinMap key_cmp X → FinMap key_cmp X
at_kept_keys f changes m = retain_keys m (λ key. stays f (get changes key))

-- The holding after the answer: a floor that is taken drops the changes that it voids, tombstones included; otherwise
-- nothing changes.
abbrev pub after_raise : Holding → Floor → Result Merge JoinFault → Holding
after_raise old f (Ok Taken) = record {
  floors = insert old.floors f.owner f.generation;
  changes = at_kept_keys f old.changes old.changes;
  limits = old.limits;
}
after_raise old f (Ok Known) = old
after_raise old f (Ok Stale) = old
after_raise old f (Err fault) = old
