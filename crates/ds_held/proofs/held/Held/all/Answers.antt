use Rattle.std.proofs.Common.{◌≡◌, ◌≢◌, [], ◌++◌, map, sym, ap, ◌∙◌, subst}
use Rattle.std.specs.List.{All}
use Rattle.std.specs.Result.{IfOk, OnErr}
use Rattle.ds_entry.specs.Change.{IsChange}
use Rattle.ds_held.specs.Held.{Holding, held_changes, held_items, change_item}
use Rattle.ds_held.specs.Kept.{floored}
use Rattle.ds_held.proofs.KeptLemmas.{items_are, valid_changes}
use Rattle.ds_held.proofs.held.Held.all.Goals as goal
use Rattle.ds_held.proofs.held.Held.all.Goals.{After-copy_all}

-- the items of the floors and changes are those that are held
all_items : (c : After-copy_all) → map floored c.deref.result.now ++ map change_item c.self.inside.changes ≡ held_items c.args.self.now
all_items c =
    ap (λ fs. map floored fs ++ map change_item c.self.inside.changes) c.deref.ensures.value
    ∙ sym (items_are c.self.inside.floors.items c.self.inside.changes c.self.inside.limits c.self.invariant.owners c.self.invariant.keys) ∙
    ap held_items c.self.view_is

pub returns-clause-value : goal.returns-clause-value
returns-clause-value c = subst (λ l. IfOk c.copy_all.result (λ items. items ≡ l)) (all_items c) c.copy_all.ensures.same

pub returns-clause-room : goal.returns-clause-room
returns-clause-room c = subst (λ l. OnErr c.copy_all.result (l ≢ [])) (all_items c) c.copy_all.ensures.room

pub returns-clause-changes : goal.returns-clause-changes
returns-clause-changes c = subst (λ (h : Holding). All IsChange (held_changes h)) c.self.view_is
    (valid_changes c.self.inside.floors.items c.self.inside.changes c.self.inside.limits c.self.invariant)
