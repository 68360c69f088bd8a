use Rattle.std.proofs.Common.{sym, ap, ◌∙◌, subst}
use Rattle.std.specs.List.{slice_get}
use Rattle.std.specs.Option.{IfSome}
use Rattle.ds_entry.specs.Change.{IsChange}
use Rattle.ds_held.specs.Held.{Holding, held_changes}
use Rattle.ds_held.proofs.KeptLemmas.{changes_are, valid_at}
use Rattle.ds_held.proofs.held.Held.at.Goals as goal

pub returns-clause-value : goal.returns-clause-value
returns-clause-value c =
    c.get.ensures ∙ ap (λ l. slice_get l c.args.index)
    (sym (changes_are c.self.inside.floors.items c.self.inside.changes c.self.inside.limits c.self.invariant.keys))
    ∙ ap (λ (h : Holding). slice_get (held_changes h) c.args.index) c.self.view_is

pub returns-clause-change : goal.returns-clause-change
returns-clause-change c =
    subst (λ o. IfSome o IsChange) (sym c.get.ensures)
    (valid_at c.self.inside.changes c.args.index c.self.invariant.valid)
