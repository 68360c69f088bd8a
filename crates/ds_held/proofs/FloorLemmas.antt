-- The held floors as a list.
use Rattle.std.proofs.Common.{◌≡◌, ℕ, List, [], ◌∷◌, map, refl, ap, ◌∙◌}
use Rattle.std.proofs.lemmas.Cmp.{nat_list_cmp_total}
use Rattle.std.proofs.lemmas.Map.Lookups.{exact_bytes}
use Rattle.ds_names.specs.Key.{name_cmp}
use Rattle.ds_entry.specs.Change.{ChangeRecord}
use Rattle.ds_entry.specs.Floor.{floor_of}
use Rattle.ds_entry.specs.declared.floor.Floor.{Floor}
use Rattle.ds_held.specs.Limits.{LimitsRecord}
use Rattle.ds_held.specs.Held.{held_floors}
use Rattle.ds_held.specs.Kept.{owned, by_owner, holding_of, AreOwnersRising}
use Rattle.ds_held.proofs.PlaceLemmas.{entries_are}

abbrev pub floor_from : List ℕ × ℕ → Floor
floor_from e = floor_of e.0 e.1

pub owned_back : (es : List (List ℕ × ℕ)) → by_owner (map floor_from es) ≡ es
owned_back [] = refl
owned_back (e ∷ es) = ap (λ l. e ∷ l) (owned_back es)

pub floors_back : (fs : List Floor) → map floor_from (by_owner fs) ≡ fs
floors_back [] = refl
floors_back (f ∷ fs) = ap (λ l. f ∷ l) (floors_back fs)

pub floors_are : (fs : List Floor) (xs : List ChangeRecord) (lim : LimitsRecord) → AreOwnersRising fs →
    held_floors (holding_of fs xs lim) ≡ fs
floors_are fs xs lim s = ap (λ es. map floor_from es) (entries_are name_cmp nat_list_cmp_total exact_bytes owned fs s) ∙ floors_back fs
