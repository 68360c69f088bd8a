use Rattle.std.proofs.Common.{◌≡◌, ◌≢◌, ◌≤◌, ◌∙◌, List, None, length, take, is_some, false, refl, sym, ap, subst, arith, length-take}
use Rattle.std.proofs.lemmas.Result.{IfOk-weaker, IfErr-weaker}
use Rattle.ds_entry.specs.declared.item.Item.{Item}
use Rattle.ds_machine.specs.Machine.{Step, StopsForRoom}
use Rattle.ds_machine.specs.Merging.{course}
use Rattle.ds_names.specs.Limits.{most_items}
use Rattle.ds_machine.specs.declared.command.Command.TheVariants.{Merge}
use Rattle.ds_machine.specs.declared.reply.Reply.{Reply}
use Rattle.ds_machine.specs.OneStep.{room_wanted}
use Rattle.trace_walk.specs.declared.fault.WalkFault.{WalkFault}
use Rattle.trace_walk.specs.Walking.{IsStopFault}
use Rattle.trace_walk.proofs.MergedLemmas.{merged_stop, other_stop}
use Rattle.trace_walk.proofs.stopping.stopped.Goals as goal

pub returns-clause-stops : goal.returns-clause-stops
returns-clause-stops c =
    let items = c.args.items.now in
    let first = c.in_ok-first.first in
    let is : first ≡ take c.args.done items = c.in_ok-first.ensures.same ∙ ap (λ (l : List Item). take c.args.done l) c.as_slice.ensures in
    IfOk-weaker c.stopped_after.result _ _
    (λ reply e s stands few.
    let step = c.apply-reply.ensures.step s stands in
    let short : length first ≤ most_items = omega (arith, ap length is, length-take c.args.done items, c.requires, few) in
    let room = ap (λ (r : Reply). is_some (room_wanted r)) (sym e.4) ∙ sym c.wants_room.ensures ∙ c.if-wants_room.false in
    let stop = merged_stop s step.0 items first c.args.done e.0 e.1 e.2 e.3 few c.requires is short room
    (subst (λ (r : Reply). Step s (Merge first) r step.0) e.4 step.1) in
    (step.0, subst (λ (r : Reply). StopsForRoom s items r step.0 c.args.done) (sym e.5) stop, step.2))
    c.stopped_after.ensures.stops

pub returns-clause-fails : goal.returns-clause-fails
returns-clause-fails c =
    let items = c.args.items.now in
    let first = c.in_ok-first.first in
    let is : first ≡ take c.args.done items = c.in_ok-first.ensures.same ∙ ap (λ (l : List Item). take c.args.done l) c.as_slice.ensures in
    IfErr-weaker c.stopped_after.result _ _
    (λ fault f s stands few.
    let step = c.apply-reply.ensures.step s stands in
    let short : length first ≤ most_items = omega (arith, ap length is, length-take c.args.done items, c.requires, few) in
    let room : is_some (room_wanted c.apply-reply.result) ≡ false = sym c.wants_room.ensures ∙ c.if-wants_room.false in
    let other = other_stop s step.0 first c.apply-reply.result short room step.1 f.1 in
    subst (λ (w : WalkFault). IsStopFault s items c.args.done c.args.number w) (sym f.0)
    (refl, subst (λ (l : List Item). (course s l).stop ≢ None) is other))
    c.stopped_after.ensures.fails
