-- What a reply shows was accepted.
use Rattle.std.specs.Prelude.{ℕ, ◌≤◌, List, [], length}
use Rattle.ds_entry.specs.declared.item.Item.{Item}
use Rattle.ds_join.specs.ItemTop.{IsPartOf}
use Rattle.ds_names.specs.Limits.{most_items}
use Rattle.ds_machine.specs.State.{State}
use Rattle.ds_machine.specs.Machine.{Step}
use Rattle.ds_machine.specs.Reached.{IsReached}
use Rattle.ds_machine.specs.declared.command.Command.{Command}
use Rattle.ds_machine.specs.declared.command.Command.TheVariants.{Merge}
use Rattle.ds_machine.specs.declared.reply.Reply.{Reply}
use Rattle.ds_machine.specs.declared.reply.Reply.TheVariants.{Checked, Journaled, Snapped, Paged, MergeStopped}

-- The items that a reply shows, floors and tombstones included.
abbrev pub shown_by : Reply → List Item
shown_by (Checked items before after) = items
shown_by (Journaled since) = since.items
shown_by (Snapped snapshot) = snapshot.items
shown_by (Paged page) = page.items
shown_by _ = []

-- A law: each of them was accepted.
abbrev pub GivenWasAccepted : Type 0
GivenWasAccepted =
    (s t : State) (command : Command) (reply : Reply) → IsReached s → Step s command reply t → IsPartOf (shown_by reply) s.feed.accepted

-- How many items a stopped merge has done.
abbrev pub done_by : Reply → ℕ
done_by (MergeStopped done fault owed) = done
done_by _ = 0

-- A merge has at most 256 items.
abbrev pub IsSmall : Command → Type 0
IsSmall (Merge items) = length items ≤ most_items
IsSmall _ = Unit {0}

-- A law: so a stopped merge has done at most 256.
abbrev pub FewAreDone : Type 0
FewAreDone =
    (s t : State) (command : Command) (reply : Reply) → IsReached s → IsSmall command → Step s command reply t → done_by reply ≤ most_items
