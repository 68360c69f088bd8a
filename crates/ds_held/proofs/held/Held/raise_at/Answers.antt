use Rattle.std.proofs.Common.{length, sym, ap, ◌∙◌}
use Rattle.ds_held.specs.Kept.{marks_left, puts_void_by}
use Rattle.ds_held.proofs.BesideLemmas.{list_is, floor_within, no_floor, raised_in}
use Rattle.ds_held.proofs.held.Held.raise_at.Goals as goal

pub put-requires : goal.put-requires
put-requires g c =
    floor_within c.self.inside.floors.items c.self.inside.changes c.self.inside.limits c.self.invariant c.args.self.now c.self.view_is
    c.args.floor.owner c.args.place c.requires.place

pub drop_beside-requires : goal.drop_beside-requires
drop_beside-requires g c =
    c.requires.beside ∙ ap length (list_is c.self.inside.floors.items c.self.inside.changes c.self.inside.limits c.self.invariant
    c.args.self.now c.self.view_is)

pub invariant_of-self : goal.invariant_of-self
invariant_of-self g c =
    (raised_in c.self.inside.floors.items c.self.inside.changes c.self.inside.limits c.self.invariant c.args.self.now c.self.view_is
    c.args.floor c.args.place c.requires.place c.requires.taken
    c.put.new.list.items c.drop_beside.new.changes c.in-Ok.ensures.put c.drop_beside.ensures.changes).still

pub returns-in-Ok-clause-after : goal.returns-in-Ok-clause-after
returns-in-Ok-clause-after g c =
    (raised_in c.self.inside.floors.items c.self.inside.changes c.self.inside.limits c.self.invariant c.args.self.now c.self.view_is
    c.args.floor c.args.place c.requires.place c.requires.taken
    c.put.new.list.items c.drop_beside.new.changes c.in-Ok.ensures.put c.drop_beside.ensures.changes).after

pub returns-in-Ok-clause-list : goal.returns-in-Ok-clause-list
returns-in-Ok-clause-list g c =
    (raised_in c.self.inside.floors.items c.self.inside.changes c.self.inside.limits c.self.invariant c.args.self.now c.self.view_is
    c.args.floor c.args.place c.requires.place c.requires.taken
    c.put.new.list.items c.drop_beside.new.changes c.in-Ok.ensures.put c.drop_beside.ensures.changes).list

pub returns-in-Ok-clause-marks : goal.returns-in-Ok-clause-marks
returns-in-Ok-clause-marks g c =
    c.drop_beside.ensures.marks ∙ ap (λ l. marks_left c.args.floor l c.args.marks.now)
    (sym (list_is c.self.inside.floors.items c.self.inside.changes c.self.inside.limits c.self.invariant c.args.self.now c.self.view_is))

pub returns-in-Ok-clause-count : goal.returns-in-Ok-clause-count
returns-in-Ok-clause-count g c =
    c.drop_beside.ensures.count ∙ ap (λ l. length (puts_void_by c.args.floor l))
    (sym (list_is c.self.inside.floors.items c.self.inside.changes c.self.inside.limits c.self.invariant c.args.self.now c.self.view_is))

pub returns-in-Ok-clause-sound : goal.returns-in-Ok-clause-sound
returns-in-Ok-clause-sound g c =
    (raised_in c.self.inside.floors.items c.self.inside.changes c.self.inside.limits c.self.invariant c.args.self.now c.self.view_is
    c.args.floor c.args.place c.requires.place c.requires.taken
    c.put.new.list.items c.drop_beside.new.changes c.in-Ok.ensures.put c.drop_beside.ensures.changes).still.sound

pub returns-in-Err-clause-new : goal.returns-in-Err-clause-new
returns-in-Err-clause-new g c =
    no_floor c.self.inside.floors.items c.self.inside.changes c.self.inside.limits c.self.invariant c.args.self.now c.self.view_is
    c.args.floor.owner c.args.place c.requires.place c.in-Err.ensures.gap
