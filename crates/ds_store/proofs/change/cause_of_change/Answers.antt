use Rattle.ds_store.specs.Standing.{machine_standing}
use Rattle.ds_store.proofs.HeldLemmas.{change_stands, change_left}
use Rattle.ds_store.proofs.FreeLemmas.{free_change}
use Rattle.ds_store.proofs.change.cause_of_change.Goals as goal

pub returns-in-Some-clause-first : goal.returns-in-Some-clause-first
returns-in-Some-clause-first c =
    change_stands (machine_standing c.args.standing.now) c.args.change.now c.owner.result.now c.version-version.result c.body.result.now
    c.owner.ensures.value c.version-version.ensures.value c.body.ensures.value
    c.cause_by_version.result c.in-Some.cause (c.cause_by_version.ensures c.args.change.now.key) c.in-Some.is

pub returns-clause-first : goal.returns-clause-first
returns-clause-first c =
    change_left (machine_standing c.args.standing.now) c.args.change.now c.owner.result.now c.version-version.result c.body.result.now
    c.owner.ensures.value c.version-version.ensures.value c.body.ensures.value
    c.cause_by_version.result c.cause_by_room.result (c.cause_by_version.ensures c.args.change.now.key) c.in_default.is
    c.cause_by_room.ensures

pub returns-clause-free : goal.returns-clause-free
returns-clause-free c = free_change c.cause_by_room.result (machine_standing c.args.standing.now) c.args.change.now (returns-clause-first c)
