use Rattle.std.proofs.Common.{ap, ◌∙◌}
use Rattle.ds_store.specs.Asked.{cause_by_need}
use Rattle.ds_store.specs.Standing.{machine_standing}
use Rattle.ds_store.proofs.HeldLemmas.{asked_stands, asked_needs, asked_left}
use Rattle.ds_store.proofs.asked.cause_by_held.Goals as goal

pub returns-in-Some : goal.returns-in-Some
returns-in-Some c =
    asked_stands (machine_standing c.args.standing.now) c.args.owner.now c.args.asked.now c.args.body.now c.cause_by_version.result
    c.in-Some.cause (c.cause_by_version.ensures c.args.asked.now.key) c.in-Some.is

pub returns-in-Some-cause_by_need : goal.returns-in-Some-cause_by_need
returns-in-Some-cause_by_need c =
    asked_needs (machine_standing c.args.standing.now) c.args.owner.now c.args.asked.now c.args.body.now c.cause_by_version.result
    (c.cause_by_version.ensures c.args.asked.now.key) c.in_default.is
    c.cause_by_need.result (c.cause_by_need.ensures ∙ ap (cause_by_need c.args.asked.now.need) c.is_live.ensures)
    c.in-Some-cause_by_need.cause c.in-Some-cause_by_need.is

pub returns : goal.returns
returns c =
    asked_left (machine_standing c.args.standing.now) c.args.owner.now c.args.asked.now c.args.body.now c.cause_by_version.result
    (c.cause_by_version.ensures c.args.asked.now.key) c.in_default.is
    c.cause_by_need.result (c.cause_by_need.ensures ∙ ap (cause_by_need c.args.asked.now.need) c.is_live.ensures)
    c.in_default-cause_by_need.is c.cause_by_room.result c.cause_by_room.ensures
