-- The limits within which every state stays.
use Rattle.std.specs.Prelude.{ℕ, ◌≤◌, List, length}
use Rattle.ds_held.specs.Limits.{LimitsRecord}
use Rattle.ds_machine.specs.Parts.{changes_in, floors_in}
use Rattle.ds_machine.specs.State.{State, held, next_position, opening}
use Rattle.ds_machine.specs.Machine.{Step, Run}
use Rattle.ds_machine.specs.declared.command.Command.{Command}
use Rattle.ds_machine.specs.declared.reply.Reply.{Reply}
use Rattle.ds_names.specs.Limits.{most_floors, last_place}

-- Whether at most the allowed keys and floors are held, and no position or stamp is above the last one.
pub record IsWithin (s : State) : Type 0 where
  pub keys : length (changes_in (held s)) ≤ s.limits.keys
  pub floors : length (floors_in (held s)) ≤ most_floors
  pub position : next_position s ≤ last_place
  pub stamp : s.stamp ≤ last_place

abbrev pub OpeningIsWithin : Type 0
OpeningIsWithin =
    (incarnation first ring : ℕ) (limits : LimitsRecord) → first ≤ last_place → IsWithin (opening incarnation first ring limits)

abbrev pub StepsStayWithin : Type 0
StepsStayWithin = (s t : State) (command : Command) (reply : Reply) → IsWithin s → Step s command reply t → IsWithin t

abbrev pub RunsStayWithin : Type 0
RunsStayWithin = (s t : State) (commands : List Command) (replies : List Reply) → IsWithin s → Run s commands replies t → IsWithin t
