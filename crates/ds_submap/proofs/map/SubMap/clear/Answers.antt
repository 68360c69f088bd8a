use Rattle.std.proofs.Common.{sym, ap, ◌∙◌, subst}
use Rattle.ds_held.specs.Held.{Holding, nothing_held}
use Rattle.ds_submap.specs.Map.{IsMap, map_of}
use Rattle.ds_submap.proofs.MapLemmas.{empty_is_map}
use Rattle.ds_submap.proofs.map.SubMap.clear.Goals as goal

pub invariant_of-self : goal.invariant_of-self
invariant_of-self c = subst (λ (h : Holding). IsMap (map_of c.self.inside.filter h))
    (sym (c.clear.ensures.value ∙ ap nothing_held c.self.invariant.limits)) (empty_is_map c.self.inside.filter)
