-- What a floor leaves of changes in the order of their keys.
use Rattle.std.proofs.Common.{◌≡◌, ◌≤◌, List, [], ◌∷◌, length, not, true, false, cond, Bool, Option, Some, None, refl, sym, ap, ◌∙◌, arith}
use Rattle.std.specs.List.{AllByRecursion}
use Rattle.std.specs.List.Sorted.{IsStrictlySortedBy}
use Rattle.std.specs.declared.cmp.Ordering.TheVariants.{Less}
use Rattle.std.specs.Ordering.{eq_by_cmp, is_eq}
use Rattle.std.specs.FinMap.{find, get, get-from_entries, get-retain_keys, same_map}
use Rattle.ds_names.specs.declared.key.Key.{Key}
use Rattle.ds_names.specs.Key.{key_cmp}
use Rattle.ds_names.proofs.OrderLemmas.{keys_total, exact_keys}
use Rattle.ds_entry.specs.Change.{ChangeRecord}
use Rattle.ds_entry.specs.Covers.{change_cmp}
use Rattle.ds_entry.specs.Void.{voids}
use Rattle.ds_entry.specs.declared.floor.Floor.{Floor}
use Rattle.ds_entry.proofs.CoversLemmas.{same_key}
use Rattle.ds_held.specs.Raise.{stays, at_kept_keys}
use Rattle.ds_held.specs.Kept.{keyed, by_key, changes_map, AreKeysRising, left_by_floor}
use Rattle.ds_held.proofs.SearchLemmas.{rising_order}

pub cond_none : {X : Type 0} (b : Bool) (o : Option X) → o ≡ None → cond b o None ≡ None
cond_none true o e = e
cond_none false o e = refl

module _ (f : Floor) where
  -- a key below all of a list isn't found there
  not_found : (q k : Key) (cs : List ChangeRecord) → AllByRecursion (λ (d : ChangeRecord). key_cmp k d.key ≡ Less) cs →
      eq_by_cmp key_cmp q k ≡ true → find key_cmp q (by_key cs) ≡ None
  not_found q k [] a t = refl
  not_found q k (c ∷ cs) a t =
      ap (λ r. cond (is_eq r) (Some c) (find key_cmp q (by_key cs))) (ap (λ (z : Key). key_cmp z c.key) (same_key q k t) ∙ a.0) ∙
      not_found q k cs a.1 t

  abbrev found_left : Key → List ChangeRecord → Option ChangeRecord
  found_left q cs = find key_cmp q (by_key (left_by_floor f cs))

  find_left : (q : Key) (cs : List ChangeRecord) → IsStrictlySortedBy change_cmp cs →
      found_left q cs ≡ cond (stays f (find key_cmp q (by_key cs))) (find key_cmp q (by_key cs)) None
  unfolding IsStrictlySortedBy
  find_left q [] s = refl
  find_left q (c ∷ cs) s = by_tests (find_left q cs s.1) (eq_by_cmp key_cmp q c.key) refl (voids f c) refl
    where
      -- what is found where the change stays, or doesn't
      now : Bool → Option ChangeRecord
      now v = find key_cmp q (by_key (cond (not v) (c ∷ left_by_floor f cs) (left_by_floor f cs)))

      then : Bool → Option ChangeRecord
      then t = cond (stays f (cond t (Some c) (find key_cmp q (by_key cs)))) (cond t (Some c) (find key_cmp q (by_key cs))) None

      by_tests : found_left q cs ≡ cond (stays f (find key_cmp q (by_key cs))) (find key_cmp q (by_key cs)) None
          → (t : Bool) → eq_by_cmp key_cmp q c.key ≡ t → (v : Bool) → voids f c ≡ v → now (voids f c) ≡ then (eq_by_cmp key_cmp q c.key)
      by_tests rest true t true v =
          ap now v ∙ rest ∙ cond_none (stays f (find key_cmp q (by_key cs))) (find key_cmp q (by_key cs)) (not_found q c.key cs s.0 t)
          ∙ sym (ap then t ∙ ap (λ b. cond (not b) (Some c) None) v)
      by_tests rest true t false v =
          ap now v ∙ ap (λ b. cond b (Some c) (found_left q cs)) t ∙ sym (ap then t ∙ ap (λ b. cond (not b) (Some c) None) v)
      by_tests rest false t true v = ap now v ∙ rest ∙ sym (ap then t)
      by_tests rest false t false v = ap now v ∙ ap (λ b. cond b (Some c) (found_left q cs)) t ∙ rest ∙ sym (ap then t)

  pub changes_are_left : (cs : List ChangeRecord) → AreKeysRising cs →
      changes_map (left_by_floor f cs) ≡ at_kept_keys f (changes_map cs) (changes_map cs)
  changes_are_left cs s = same_map keys_total exact_keys _ _ (λ q.
      get-from_entries keys_total (by_key (left_by_floor f cs)) q
      ∙ find_left q cs (rising_order key_cmp keys_total exact_keys keyed cs s)
      ∙ ap (λ o. cond (stays f o) o None) (sym (get-from_entries keys_total (by_key cs) q))
      ∙ sym (get-retain_keys (changes_map cs) (λ k. stays f (get (changes_map cs) k)) q
      (λ x t. ap (λ k. stays f (get (changes_map cs) k)) (sym (exact_keys q x t)))))

pub few_left : (f : Floor) (cs : List ChangeRecord) → length (left_by_floor f cs) ≤ length cs
few_left f [] = omega arith
few_left f (c ∷ cs) = elim (voids f c) as (λ v. length (cond (not v) (c ∷ left_by_floor f cs) (left_by_floor f cs)) ≤ length (c ∷ cs))
    [ true ↦ omega (arith, few_left f cs) | false ↦ omega (arith, few_left f cs) ]
