use Rattle.std.proofs.Common.{ap, sym, ◌∙◌, subst}
use Rattle.std.specs.List.{All}
use Rattle.ds_entry.specs.Change.{IsChange}
use Rattle.ds_held.specs.Held.{Holding, held_changes, held_count}
use Rattle.ds_held.proofs.KeptLemmas.{count_changes, valid_changes}
use Rattle.ds_held.proofs.held.Held.len.Goals as goal

pub returns-clause-count : goal.returns-clause-count
returns-clause-count c = c.len.ensures ∙ sym (count_changes c.self.inside.changes c.self.invariant.keys) ∙ ap held_count c.self.view_is

pub returns-clause-changes : goal.returns-clause-changes
returns-clause-changes c = subst (λ (h : Holding). All IsChange (held_changes h)) c.self.view_is
    (valid_changes c.self.inside.floors.items c.self.inside.changes c.self.inside.limits c.self.invariant)
