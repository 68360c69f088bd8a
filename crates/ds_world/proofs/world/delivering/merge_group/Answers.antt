use Rattle.std.proofs.Common.{length, sym, subst}
use Rattle.ds_machine.specs.declared.reply.Reply.TheVariants.{Merged, MergeStopped}
use Rattle.ds_replica.specs.Delivery.{Tally}
use Rattle.ds_world.specs.Tally.{CountsOf}
use Rattle.ds_world.specs.Steps.{ItemsAreTaken}
use Rattle.ds_world.proofs.MergeLemmas.{counts_one, group_counted, one_taken}
use Rattle.ds_world.proofs.world.delivering.merge_group.Goals as goal

pub returns-in-Merged-clause-takes : goal.returns-in-Merged-clause-takes
returns-in-Merged-clause-takes c =
    let m = c.in-Merged in
    let reply = Merged m.done m.taken m.stale m.owed in
    let told = group_counted c.args.store.now c.fast_merge.new.self c.args.group.now reply c.cursor-stood.ensures.stood m.ensures.step
    m.ensures.fits in
    one_taken c.args.store.now c.fast_merge.new.self c.args.group.now reply c.requires told m.ensures.step m.ensures.last

pub returns-in-Merged-clause-counted : goal.returns-in-Merged-clause-counted
returns-in-Merged-clause-counted c =
    let m = c.in-Merged in
    let reply = Merged m.done m.taken m.stale m.owed in
    counts_one (length c.args.group.now) reply
    (group_counted c.args.store.now c.fast_merge.new.self c.args.group.now reply c.cursor-stood.ensures.stood m.ensures.step m.ensures.fits)

pub returns-in-MergeStopped-clause-takes : goal.returns-in-MergeStopped-clause-takes
returns-in-MergeStopped-clause-takes c =
    let m = c.in-MergeStopped in
    let reply = MergeStopped m.done m.fault m.owed in
    let told = group_counted c.args.store.now c.fast_merge.new.self c.args.group.now reply c.cursor-stood.ensures.stood m.ensures.step
    m.ensures.fits in
    subst (λ (t : Tally). ItemsAreTaken c.args.store.now c.args.group.now t c.fast_merge.new.self) (sym c.ended.ensures)
    (one_taken c.args.store.now c.fast_merge.new.self c.args.group.now reply c.requires told m.ensures.step m.ensures.last)

pub returns-in-MergeStopped-clause-counted : goal.returns-in-MergeStopped-clause-counted
returns-in-MergeStopped-clause-counted c =
    let m = c.in-MergeStopped in
    let reply = MergeStopped m.done m.fault m.owed in
    subst (λ (t : Tally). CountsOf (length c.args.group.now) t) (sym c.ended.ensures)
    (counts_one (length c.args.group.now) reply
    (group_counted c.args.store.now c.fast_merge.new.self c.args.group.now reply c.cursor-stood.ensures.stood m.ensures.step
    m.ensures.fits))
