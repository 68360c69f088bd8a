use Rattle.std.proofs.Common.{sym, subst}
use Rattle.ds_held.specs.Held.{Holding}
use Rattle.ds_submap.specs.Map.{IsMap, map_of}
use Rattle.ds_submap.proofs.MapLemmas.{empty_is_map}
use Rattle.ds_submap.proofs.map.SubMap.new.Goals as goal

pub invariant_of-result : goal.invariant_of-result
invariant_of-result c = subst (λ (h : Holding). IsMap (map_of c.in_ok-read.field-0 h)) (sym c.new.ensures)
    (empty_is_map c.in_ok-read.field-0)
