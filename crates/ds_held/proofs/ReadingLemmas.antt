-- Reading an index of a list.
use Rattle.std.proofs.Common.{◌≡◌, ℕ, ◌-◌, ◌<◌, ◌≤◌, List, ◌++◌, length, get_or, map, Option, Some, refl, sym, ap, ◌∙◌, arith}
use Rattle.std.proofs.lemmas.Option.{slice_get_read, slice_get-map}
use Rattle.std.proofs.lemmas.List.{length-map}
use Rattle.std.specs.List.{slice_get}
use Rattle.std.specs.Option.{option_map}
use Rattle.ds_entry.specs.Change.{ChangeRecord}
use Rattle.ds_entry.specs.declared.floor.Floor.{Floor}
use Rattle.ds_held.specs.Held.{change_item}
use Rattle.ds_held.specs.Kept.{floored}
use Rattle.ds_held.proofs.JoinLemmas.{get_front, get_back}

module _ (fs : List Floor) (cs : List ChangeRecord) where
  -- The element at an index of floors and then changes, as items.
  pub floor_item_at : (i : ℕ) (f : Floor) → i < length fs → f ≡ get_or fs i f →
      Some (floored f) ≡ slice_get (map floored fs ++ map change_item cs) i
  floor_item_at i f within is =
      sym (get_front i (map floored fs) (map change_item cs) (omega (arith, within, length-map fs floored)) ∙ slice_get-map floored fs i ∙
      ap (option_map floored) (slice_get_read fs (length fs) i f refl within is))

  pub change_item_at : (i : ℕ) (o : Option ChangeRecord) → length fs ≤ i → o ≡ slice_get cs (i - length fs) →
      option_map change_item o ≡ slice_get (map floored fs ++ map change_item cs) i
  change_item_at i o past is =
      ap (option_map change_item) is ∙ sym (slice_get-map change_item cs (i - length fs)) ∙
      sym (get_back (i - length fs) (map floored fs) (map change_item cs))
      ∙ ap (slice_get (map floored fs ++ map change_item cs)) (omega (arith, past, length-map fs floored))
