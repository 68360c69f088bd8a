use Rattle.std.proofs.Common.{ap, sym, ◌∙◌}
use Rattle.ds_held.specs.Held.{Holding, floor_count}
use Rattle.ds_held.proofs.KeptLemmas.{count_floors}
use Rattle.ds_held.proofs.held.Held.floor_count.Goals as goal

pub returns-clause-count : goal.returns-clause-count
returns-clause-count c = c.len.ensures ∙ c.self.inside.floors.ok.0 ∙
    sym (count_floors c.self.inside.floors.items c.self.invariant.owners) ∙ ap (λ (h : Holding). floor_count h) c.self.view_is
