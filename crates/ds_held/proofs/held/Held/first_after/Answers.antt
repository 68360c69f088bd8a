use Rattle.std.proofs.Common.{sym, ap, ◌∙◌}
use Rattle.std.specs.List.{find}
use Rattle.std.specs.Option.{option_copied}
use Rattle.ds_join.specs.Reading.{comes_after}
use Rattle.ds_held.specs.Held.{Holding, held_changes}
use Rattle.ds_held.proofs.KeptLemmas.{changes_are}
use Rattle.ds_held.proofs.held.Held.first_after.Goals as goal

pub returns-clause-value : goal.returns-clause-value
returns-clause-value c =
    c.first_of.ensures.value ∙ ap (find (comes_after (option_copied c.args.after)))
    (sym (changes_are c.self.inside.floors.items c.self.inside.changes c.self.inside.limits c.self.invariant.keys))
    ∙ ap (λ (h : Holding). find (comes_after (option_copied c.args.after)) (held_changes h)) c.self.view_is
