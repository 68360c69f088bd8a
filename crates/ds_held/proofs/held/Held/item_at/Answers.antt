use Rattle.std.proofs.Common.{◌++◌, map, sym, ap, ◌∙◌}
use Rattle.std.specs.List.{slice_get}
use Rattle.ds_held.specs.Held.{Holding, held_items, change_item}
use Rattle.ds_held.specs.Kept.{floored}
use Rattle.ds_held.proofs.KeptLemmas.{items_are}
use Rattle.ds_held.proofs.held.Held.item_at.Goals as goal

pub returns : goal.returns
returns c =
    c.item_at.ensures ∙ ap (λ l. slice_get (map floored l ++ map change_item c.self.inside.changes) c.args.index) c.deref.ensures.value
    ∙ ap (λ l. slice_get l c.args.index)
    (sym (items_are c.self.inside.floors.items c.self.inside.changes c.self.inside.limits c.self.invariant.owners c.self.invariant.keys))
    ∙ ap (λ (h : Holding). slice_get (held_items h) c.args.index) c.self.view_is
