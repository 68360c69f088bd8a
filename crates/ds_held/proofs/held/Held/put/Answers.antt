use Rattle.ds_held.proofs.BesideLemmas.{change_within, put_in}
use Rattle.ds_held.proofs.held.Held.put.Goals as goal

pub put_row-answer-requires-clause-place : goal.put_row-answer-requires-clause-place
put_row-answer-requires-clause-place c =
    change_within c.self.inside.floors.items c.self.inside.changes c.self.inside.limits c.self.invariant c.args.self.now c.self.view_is
    c.args.change c.args.place c.requires.place

pub invariant_of-self : goal.invariant_of-self
invariant_of-self c =
    (put_in c.self.inside.floors.items c.self.inside.changes c.self.inside.limits c.self.invariant c.args.self.now c.self.view_is
    c.args.change c.key-key.ensures.change c.args.place c.requires.place
    c.requires.taken c.put_row-answer.result c.put_row-answer.new.rows c.put_row-answer.ensures.put c.put_row-answer.ensures.same
    c.put_row-answer.ensures.gap).still

pub returns-clause-after : goal.returns-clause-after
returns-clause-after c =
    (put_in c.self.inside.floors.items c.self.inside.changes c.self.inside.limits c.self.invariant c.args.self.now c.self.view_is
    c.args.change c.key-key.ensures.change c.args.place c.requires.place
    c.requires.taken c.put_row-answer.result c.put_row-answer.new.rows c.put_row-answer.ensures.put c.put_row-answer.ensures.same
    c.put_row-answer.ensures.gap).after

pub returns-clause-list : goal.returns-clause-list
returns-clause-list c =
    (put_in c.self.inside.floors.items c.self.inside.changes c.self.inside.limits c.self.invariant c.args.self.now c.self.view_is
    c.args.change c.key-key.ensures.change c.args.place c.requires.place
    c.requires.taken c.put_row-answer.result c.put_row-answer.new.rows c.put_row-answer.ensures.put c.put_row-answer.ensures.same
    c.put_row-answer.ensures.gap).list

pub returns-clause-new : goal.returns-clause-new
returns-clause-new c =
    (put_in c.self.inside.floors.items c.self.inside.changes c.self.inside.limits c.self.invariant c.args.self.now c.self.view_is
    c.args.change c.key-key.ensures.change c.args.place c.requires.place
    c.requires.taken c.put_row-answer.result c.put_row-answer.new.rows c.put_row-answer.ensures.put c.put_row-answer.ensures.same
    c.put_row-answer.ensures.gap).new

pub returns-clause-sound : goal.returns-clause-sound
returns-clause-sound c =
    (put_in c.self.inside.floors.items c.self.inside.changes c.self.inside.limits c.self.invariant c.args.self.now c.self.view_is
    c.args.change c.key-key.ensures.change c.args.place c.requires.place
    c.requires.taken c.put_row-answer.result c.put_row-answer.new.rows c.put_row-answer.ensures.put c.put_row-answer.ensures.same
    c.put_row-answer.ensures.gap).still.sound
