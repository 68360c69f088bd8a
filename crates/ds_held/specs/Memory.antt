-- What allocates nothing: a command for a key, or an owner, of which something is held.
use Rattle.std.specs.Prelude.{◌≡◌, ℕ, Some, Err}
use Rattle.ds_entry.specs.Change.{ChangeRecord, BodyCopyTakesMemory}
use Rattle.ds_entry.specs.declared.floor.Floor.{Floor}
use Rattle.ds_join.specs.declared.merge.JoinFault.{JoinFault}
use Rattle.ds_join.specs.declared.merge.JoinFault.TheVariants.{NoRoom}
use Rattle.ds_held.specs.Held.{Holding, held_for, floor_for}
use Rattle.ds_held.specs.Merge.{MergeAnswer, IsMergeRefused}
use Rattle.ds_held.specs.Raise.{RaiseAnswer}

-- A law: the merge of a change into a held key is never refused as NoRoom.
abbrev pub HeldKeyNeedsNoRoom : Type 0
HeldKeyNeedsNoRoom = (old : Holding) (h c : ChangeRecord) → held_for old c.key ≡ Some h → ¬ MergeAnswer old c (Err NoRoom)

-- A law: nor is the merge of a borrowed change whose copy takes no memory.
abbrev pub CopyInPlaceNeedsNoRoom : Type 0
CopyInPlaceNeedsNoRoom =
    (old : Holding) (h c : ChangeRecord) → held_for old c.key ≡ Some h → ¬ BodyCopyTakesMemory c.body → ¬ IsMergeRefused old c NoRoom

-- A law: the floor of an owner who has one is never refused.
abbrev pub HeldOwnerIsNotRefused : Type 0
HeldOwnerIsNotRefused =
    (old : Holding) (g : ℕ) (f : Floor) (fault : JoinFault) → floor_for old f.owner ≡ Some g → ¬ RaiseAnswer old f (Err fault)
