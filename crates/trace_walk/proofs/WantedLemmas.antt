-- The sort of line that must be where a walk ends.
use Rattle.std.proofs.Common.{◌≡◌, ℕ, List, sym, subst}
use Rattle.trace_walk.specs.declared.entry.EntryFault.{EntryFault}
use Rattle.trace_walk.specs.declared.entry.EntryFault.TheVariants as entries
use Rattle.trace_walk.specs.declared.fault.WalkFault.{WalkFault}
use Rattle.trace_walk.specs.declared.fault.WalkFault.TheVariants.{IllegalAt, BadLineAt, ReadFault, NoRoom}
use Rattle.trace_walk.specs.declared.wrong_line.Wanted.{Wanted}
use Rattle.trace_walk.specs.Wanting.{IsOfReply, IsWanted}
use Rattle.trace_walk.specs.Walking.{of_reply}

-- in a reply no line is a bad one
pub wanted_in_reply : (bytes : List ℕ) (wanted : Wanted) (fault : WalkFault) → IsOfReply fault → IsWanted bytes wanted fault
wanted_in_reply bytes wanted (BadLineAt number) is = absurd is
wanted_in_reply bytes wanted (IllegalAt number) is = tt
wanted_in_reply bytes wanted ReadFault is = tt
wanted_in_reply bytes wanted NoRoom is = tt

pub of_reply_is : (fault : EntryFault) → IsOfReply (of_reply fault)
of_reply_is (entries.BadLine number) = tt
of_reply_is entries.ReadFault = tt
of_reply_is entries.NoRoom = tt

pub room_is_of_reply : (fault : WalkFault) → fault ≡ NoRoom → IsOfReply fault
room_is_of_reply fault e = subst IsOfReply (sym e) tt
