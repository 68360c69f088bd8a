-- A command for a held key or a held owner is never refused as NoRoom.
use Rattle.std.proofs.Common.{Bool, true, false, Err, sym, ◌∙◌, subst, inl, inr}
use Rattle.ds_entry.specs.Change.{ChangeRecord}
use Rattle.ds_join.specs.declared.merge.JoinFault.TheVariants.{NoRoom}
use Rattle.ds_held.specs.Held.{held_count, floor_count, is_void_at}
use Rattle.ds_held.specs.Merge.{AnswersHeld, AnswersFor, ChangeTakesMemory}
use Rattle.ds_held.specs.Raise.{AnswersFloor}
use Rattle.ds_held.specs.Memory.{HeldKeyNeedsNoRoom, CopyInPlaceNeedsNoRoom, HeldOwnerIsNotRefused}
use Rattle.ds_held.proofs.MergeLemmas.{no_some}

never_room : (h : ChangeRecord) (void : Bool) (c : ChangeRecord) → AnswersHeld h void c (Err NoRoom) → ⊥
never_room h void c (inl a) = absurd (cc)
never_room h true c (inr a) = absurd (cc)
never_room h false c (inr a) = a.1

pub held_key_needs_none : HeldKeyNeedsNoRoom
held_key_needs_none old h c e a = never_room h (is_void_at old c) c
    (subst (λ o. AnswersFor o (is_void_at old c) (held_count old) old.limits.keys c (Err NoRoom)) e a)

pub copy_in_place_needs_none : CopyInPlaceNeedsNoRoom
copy_in_place_needs_none old h c e b a = by_cause a.1
  where
    by_cause : ChangeTakesMemory old c → ⊥
    by_cause (inl none) = no_some h (sym none ∙ e)
    by_cause (inr takes) = b takes

pub held_owner_needs_none : HeldOwnerIsNotRefused
held_owner_needs_none old g f fault e a = subst (λ o. AnswersFloor o (floor_count old) f.generation (Err fault)) e a
