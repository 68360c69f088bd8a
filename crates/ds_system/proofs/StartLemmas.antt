-- A new system exists.
use Rattle.std.proofs.Common.{◌≡◌, ◌∙◌, nat_le, Bool, false, not, cond, List, [], ◌∷◌, length, replicate, Some, None, refl, ap}
use Rattle.std.specs.List.{filter_map}
use Rattle.ds_held.specs.Limits.{larger}
use Rattle.ds_pattern.proofs.StarLemmas.{dot_star_accepted}
use Rattle.rs_core.specs.declared.state.State.TheVariants.{Down}
use Rattle.rs_core.specs.Numbering.{numberer}
use Rattle.rs_core.specs.Slots.{new_slots}
use Rattle.rs_core.specs.State.{rs_of}
use Rattle.ds_replica.specs.declared.event.Event.TheVariants.{NewMap}
use Rattle.ds_replica.specs.declared.outcome.EventFault.TheVariants.{MapsFull, BadPattern}
use Rattle.ds_replica.specs.Happens.{most_maps, pattern_fault, event_fault, new_map}
use Rattle.ds_replica.specs.World.{MapState, World, new_world}
use Rattle.ds_system.specs.Start.{labels_query, file_unit, net_unit, assigned_all, NewSystemsExist}

-- nothing is against a map of labels while maps are few
pub no_fault : (w : World) (maps : List MapState) → nat_le most_maps (length maps) ≡ false →
    event_fault (record w { maps = maps }) (NewMap labels_query) ≡ None
no_fault w maps few = ap (λ (b : Bool). cond b (Some MapsFull) (pattern_fault labels_query)) few ∙
    ap (λ (b : Bool). cond (not b) (Some BadPattern) None) dot_star_accepted

pub new_systems_exist : NewSystemsExist
new_systems_exist settings a b next checked some =
    let w = new_world a b larger in
    let one : World = record w { maps = new_map labels_query ∷ [] } in
    let two : World = record w { maps = new_map labels_query ∷ new_map labels_query ∷ [] } in (
      record {
        rs = rs_of settings (replicate (length settings.services) Down) 0 next (new_slots 16);
        numberers = replicate (length settings.services) (numberer 0 0);
        world = two;
        file = assigned_all (filter_map file_unit settings.services);
        net = assigned_all (filter_map net_unit settings.services);
        made = [];
      },
      record {
        checked = checked;
        some = some;
        rs = refl;
        numberers = refl;
        world = (
          one,
          (no_fault w [] refl, record { outcome_is = refl; world_is = refl }),
          (two, (no_fault w (new_map labels_query ∷ []) refl, record { outcome_is = refl; world_is = refl }), refl),
        );
        file = refl;
        net = refl;
        made = refl;
      },
    )
