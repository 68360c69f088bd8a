use Rattle.std.proofs.Common.{◌∙◌, Ok, ap, subst}
use Rattle.ds_names.proofs.OrderLemmas.{exact_keys}
use Rattle.ds_entry.specs.Change.{ChangeRecord}
use Rattle.ds_held.specs.Held.{held_changes}
use Rattle.ds_held.specs.Kept.{IsPlace}
use Rattle.ds_held.specs.Merge.{AnswersHeld, AnswersNew, UnlessVoid}
use Rattle.ds_held.proofs.BesideLemmas.{change_place, answer_in_place, answer_in_gap}
use Rattle.ds_held.proofs.held.Held.outlook.Goals as goal

pub at-requires : goal.at-requires
at-requires c =
    let here : IsPlace c.self.inside.changes c.args.change.now.key (Ok c.in-Ok.i) =
    change_place c.self.inside.floors.items c.self.inside.changes c.self.inside.limits
    c.self.invariant c.args.self.now c.self.view_is c.args.change.now (Ok c.in-Ok.i)
    (subst (IsPlace (held_changes c.args.self.now) c.args.change.now.key) c.in-Ok.is c.requires) in
    here.0

pub judge-requires : goal.judge-requires
judge-requires c =
    let here : IsPlace c.self.inside.changes c.args.change.now.key (Ok c.in-Ok.i) =
    change_place c.self.inside.floors.items c.self.inside.changes c.self.inside.limits
    c.self.invariant c.args.self.now c.self.view_is c.args.change.now (Ok c.in-Ok.i)
    (subst (IsPlace (held_changes c.args.self.now) c.args.change.now.key) c.in-Ok.is c.requires) in
    ap (λ (x : ChangeRecord). x.key) c.at.ensures ∙ exact_keys _ _ (here.1 c.at.result.now)

pub returns-in-Ok-clause-answer : goal.returns-in-Ok-clause-answer
returns-in-Ok-clause-answer c =
    answer_in_place c.self.inside.floors.items c.self.inside.changes c.self.inside.limits c.self.invariant c.args.self.now c.self.view_is
    c.args.change.now c.in-Ok.i c.at.result.now c.is_void-is_void.result c.judge.result
    (subst (IsPlace (held_changes c.args.self.now) c.args.change.now.key) c.in-Ok.is c.requires) c.is_void-is_void.ensures
    (subst (λ (h : ChangeRecord). AnswersHeld h c.is_void-is_void.result c.args.change.now c.judge.result) c.at.ensures c.judge.ensures)

pub returns-in-Err-clause-answer : goal.returns-in-Err-clause-answer
returns-in-Err-clause-answer c =
    answer_in_gap c.self.inside.floors.items c.self.inside.changes c.self.inside.limits c.self.invariant c.args.self.now c.self.view_is
    c.args.change.now c.in-Err.field-0 c.len.result c.is_void-is_void.result c.judge_new.result
    (subst (IsPlace (held_changes c.args.self.now) c.args.change.now.key) c.in-Err.is c.requires) (c.len.ensures) c.is_void-is_void.ensures
    (subst (λ m. UnlessVoid c.is_void-is_void.result (AnswersNew c.len.result m c.judge_new.result) c.judge_new.result)
    c.keys.ensures.count c.judge_new.ensures)
