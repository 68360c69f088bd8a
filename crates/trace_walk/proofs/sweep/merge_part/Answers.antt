use Rattle.std.proofs.Common.{subst, List}
use Rattle.ds_entry.specs.declared.item.Item.{Item}
use Rattle.ds_content.specs.Stands.{ContentStands}
use Rattle.ds_machine.specs.Machine.{Step}
use Rattle.ds_machine.specs.State.{State}
use Rattle.ds_machine.specs.declared.command.Command.TheVariants as commands
use Rattle.ds_machine.specs.declared.reply.Reply.{Reply}
use Rattle.ds_machine.specs.declared.reply.Reply.TheVariants as replies
use Rattle.ds_machine.proofs.BatchLemmas.{free_are_answered}
use Rattle.trace_walk.proofs.sweep.merge_part.Goals as goal

pub returns : goal.returns
returns c s stands free =
    let step = c.apply-reply.ensures.step s stands in
    let same = c.in_ok-items.ensures.same in
    let is = c.in-Merged.is in
    let x : Step s (commands.Merge c.args.part.now) (replies.Merged c.in-Merged.done c.in-Merged.taken c.in-Merged.stale c.in-Merged.owed)
    step.0 =
    subst (λ (r : Reply). Step s (commands.Merge c.args.part.now) r step.0) is
    (subst (λ (l : List Item). Step s (commands.Merge l) c.apply-reply.result step.0) same step.1) in
    let a = free_are_answered s step.0 c.args.part.now c.in-Merged.done c.in-Merged.taken c.in-Merged.stale c.in-Merged.owed free
    c.requires.few x in
    (a.1, subst (λ (t : State). ContentStands c.apply-reply.new.self t) a.0 step.2)
