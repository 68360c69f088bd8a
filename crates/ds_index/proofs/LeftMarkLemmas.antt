-- What a floor leaves of marks beside changes in the order of their keys.
use Rattle.std.proofs.Common.{◌≡◌, suc, List, [], ◌∷◌, length, not, true, false, cond, Bool, Option, Some, None, refl, sym, ap, ◌∙◌, arith}
use Rattle.std.specs.List.{AllByRecursion}
use Rattle.std.specs.List.Sorted.{IsStrictlySortedBy}
use Rattle.std.specs.declared.cmp.Ordering.TheVariants.{Less}
use Rattle.std.specs.Ordering.{eq_by_cmp, is_eq}
use Rattle.std.specs.FinMap.{find, get, get-from_entries, get-retain_keys, same_map}
use Rattle.ds_names.specs.declared.key.Key.{Key}
use Rattle.ds_names.specs.Key.{key_cmp}
use Rattle.ds_names.proofs.OrderLemmas.{keys_total, exact_keys}
use Rattle.ds_entry.specs.Change.{ChangeRecord}
use Rattle.ds_entry.specs.Covers.{change_cmp}
use Rattle.ds_entry.specs.Void.{voids}
use Rattle.ds_entry.specs.declared.floor.Floor.{Floor}
use Rattle.ds_entry.proofs.CoversLemmas.{same_key}
use Rattle.ds_held.specs.Raise.{stays, at_kept_keys}
use Rattle.ds_held.specs.Kept.{keyed, by_key, changes_map, AreKeysRising, left_by_floor, marks_left}
use Rattle.ds_held.proofs.SearchLemmas.{rising_order}
use Rattle.ds_held.proofs.LeftLemmas.{cond_none}
use Rattle.ds_index.specs.Beside.{marked_keys, marks_beside}

module _ {M : Type 0} (f : Floor) where
  -- a key below all of a list isn't found there
  not_found : (q k : Key) (cs : List ChangeRecord) (ms : List M) → AllByRecursion (λ (d : ChangeRecord). key_cmp k d.key ≡ Less) cs →
      eq_by_cmp key_cmp q k ≡ true → find key_cmp q (marked_keys cs ms) ≡ None
  not_found q k [] ms a t = refl
  not_found q k (c ∷ cs) [] a t = refl
  not_found q k (c ∷ cs) (m ∷ ms) a t =
      ap (λ r. cond (is_eq r) (Some m) (find key_cmp q (marked_keys cs ms))) (ap (λ (z : Key). key_cmp z c.key) (same_key q k t) ∙ a.0) ∙
      not_found q k cs ms a.1 t

  abbrev found_left : Key → List ChangeRecord → List M → Option M
  found_left q cs ms = find key_cmp q (marked_keys (left_by_floor f cs) (marks_left f cs ms))

  find_left : (q : Key) (cs : List ChangeRecord) (ms : List M) → length ms ≡ length cs → IsStrictlySortedBy change_cmp cs →
      found_left q cs ms ≡ cond (stays f (find key_cmp q (by_key cs))) (find key_cmp q (marked_keys cs ms)) None
  unfolding IsStrictlySortedBy
  find_left q [] ms e s = refl
  find_left q (c ∷ cs) [] e s = absurd (omega (arith, e))
  find_left q (c ∷ cs) (m ∷ ms) e s = by_tests (find_left q cs ms (omega (arith, e)) s.1) (eq_by_cmp key_cmp q c.key) refl (voids f c) refl
    where
      -- what is found where the change stays, or doesn't
      now : Bool → Option M
      now v = find key_cmp q (marked_keys (cond (not v) (c ∷ left_by_floor f cs) (left_by_floor f cs))
          (cond v (marks_left f cs ms) (m ∷ marks_left f cs ms)))

      then : Bool → Option M
      then t = cond (stays f (cond t (Some c) (find key_cmp q (by_key cs)))) (cond t (Some m) (find key_cmp q (marked_keys cs ms))) None

      by_tests : found_left q cs ms ≡ cond (stays f (find key_cmp q (by_key cs))) (find key_cmp q (marked_keys cs ms)) None
          → (t : Bool) → eq_by_cmp key_cmp q c.key ≡ t → (v : Bool) → voids f c ≡ v → now (voids f c) ≡ then (eq_by_cmp key_cmp q c.key)
      by_tests rest true t true v =
          ap now v ∙ rest ∙ cond_none (stays f (find key_cmp q (by_key cs))) (find key_cmp q (marked_keys cs ms))
          (not_found q c.key cs ms s.0 t)
          ∙ sym (ap then t ∙ ap (λ b. cond (not b) (Some m) None) v)
      by_tests rest true t false v =
          ap now v ∙ ap (λ b. cond b (Some m) (found_left q cs ms)) t ∙ sym (ap then t ∙ ap (λ b. cond (not b) (Some m) None) v)
      by_tests rest false t true v = ap now v ∙ rest ∙ sym (ap then t)
      by_tests rest false t false v = ap now v ∙ ap (λ b. cond b (Some m) (found_left q cs ms)) t ∙ rest ∙ sym (ap then t)

  -- the marks of the changes that are left
  pub marks_are_left : (cs : List ChangeRecord) (ms : List M) → length ms ≡ length cs → AreKeysRising cs →
      marks_beside (left_by_floor f cs) (marks_left f cs ms) ≡ at_kept_keys f (changes_map cs) (marks_beside cs ms)
  marks_are_left cs ms e s = same_map keys_total exact_keys _ _ (λ q.
      get-from_entries keys_total (marked_keys (left_by_floor f cs) (marks_left f cs ms)) q
      ∙ find_left q cs ms e (rising_order key_cmp keys_total exact_keys keyed cs s)
      ∙ ap (λ o. cond (stays f o) (find key_cmp q (marked_keys cs ms)) None) (sym (get-from_entries keys_total (by_key cs) q))
      ∙ ap (λ o. cond (stays f (get (changes_map cs) q)) o None) (sym (get-from_entries keys_total (marked_keys cs ms) q))
      ∙ sym (get-retain_keys (marks_beside cs ms) (λ k. stays f (get (changes_map cs) k)) q
      (λ x t. ap (λ k. stays f (get (changes_map cs) k)) (sym (exact_keys q x t)))))

  -- as many as the changes
  pub each_left : (cs : List ChangeRecord) (ms : List M) → length ms ≡ length cs → length (marks_left f cs ms) ≡ length (left_by_floor f cs)
  each_left [] [] e = refl
  each_left [] (m ∷ ms) e = absurd (omega (arith, e))
  each_left (c ∷ cs) [] e = absurd (omega (arith, e))
  each_left (c ∷ cs) (m ∷ ms) e =
      elim (voids f c) as (λ v. length (cond v (marks_left f cs ms) (m ∷ marks_left f cs ms)) ≡ length
      (cond (not v) (c ∷ left_by_floor f cs) (left_by_floor f cs))) [
        | true ↦ each_left cs ms (omega (arith, e))
        | false ↦ ap suc (each_left cs ms (omega (arith, e)))
      ]
