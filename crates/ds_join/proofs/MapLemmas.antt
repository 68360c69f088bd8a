-- A map from keys to their own changes, in the order of the keys.
use Rattle.std.proofs.Common.{◌≡◌, List, [], ◌∷◌, map, true, false, cond, Some, refl, sym, ap, ◌∙◌, subst, inl, inr, Contains}
use Rattle.std.proofs.lemmas.Option.{same_Some}
use Rattle.std.specs.declared.cmp.Ordering.TheVariants.{Less, Equal, Greater}
use Rattle.std.specs.Ordering.{is_eq, is_lt, eq_by_cmp}
use Rattle.std.specs.List.Sorted.{IsStrictlySortedBy}
use Rattle.std.specs.Cmp.{tied_itself, alike_right, Equal-is}
use Rattle.std.specs.FinMap.{FinMap, get, values, find, is_sorted, entries, entries_sorted, get-entries}
use Rattle.std.specs.FinMap.Entries.{below_all}
use lib.Dec.{T}
use Rattle.ds_names.specs.declared.key.Key.{Key}
use Rattle.ds_names.specs.Key.{key_cmp}
use Rattle.ds_names.proofs.OrderLemmas.{keys_total}
use Rattle.ds_entry.specs.Change.{ChangeRecord}
use Rattle.ds_entry.specs.Covers.{change_cmp}
use Rattle.ds_entry.proofs.Members.{In, In-from_Contains, Contains-from_In}
use Rattle.ds_names.proofs.Tests.{less_from, not_both, both}
use Rattle.ds_entry.proofs.OrderedLemmas.{along}

abbrev Entry : Type 0
Entry = Key × ChangeRecord

abbrev values_of : List Entry → List ChangeRecord
values_of es = map (λ (e : Entry). e.1) es

-- A key that compares equal to one above another doesn't compare equal to that other.
unlike : (x q y : Key) → eq_by_cmp key_cmp q y ≡ true → T (is_lt (key_cmp x y)) → eq_by_cmp key_cmp q x ≡ false
unlike x q y tied less =
    elim (key_cmp q x) as (λ r. key_cmp q x ≡ r → is_eq r ≡ false) [
      | Less ↦ λ _. refl
      | Equal ↦ λ e. absurd (not_both (key_cmp q y) tied (subst (λ r. T (is_lt r)) (sym (keys_total.congr q x y e)) less))
      | Greater ↦ λ _. refl
    ] refl

In-from_find : (q : Key) (v : ChangeRecord) (es : List Entry) → find key_cmp q es ≡ Some v → In v (values_of es)
In-from_find q v [] h = absurd (cc)
In-from_find q v (e ∷ es) h =
    elim (eq_by_cmp key_cmp q e.0) as (λ b. cond b (Some e.1) (find key_cmp q es) ≡ Some v → In v (e.1 ∷ values_of es)) [
      | true ↦ λ s. inl (sym (same_Some e.1 v s))
      | false ↦ λ s. inr (In-from_find q v es s)
    ] h

-- A key in a list isn't below all of the list.
pub apart : (x q : Key) (v : ChangeRecord) (es : List Entry) → T (below_all key_cmp x es) → find key_cmp q es ≡ Some v →
    eq_by_cmp key_cmp q x ≡ false
apart x q v [] below h = absurd (cc)
apart x q v (e ∷ es) below h =
    elim (eq_by_cmp key_cmp q e.0) as (λ b. eq_by_cmp key_cmp q e.0 ≡ b → cond b (Some e.1) (find key_cmp q es) ≡ Some v →
    eq_by_cmp key_cmp q x ≡ false) [
      | true ↦ λ tied s. unlike x q e.0 tied (both _ _ below).0
      | false ↦ λ _ s. apart x q v es (both _ _ below).1 s
    ] refl h

pub find_first : (e : Entry) (es : List Entry) → find key_cmp e.0 (e ∷ es) ≡ Some e.1
find_first e es = ap (λ r. cond (is_eq r) (Some e.1) (find key_cmp e.0 es)) (tied_itself keys_total e.0)

-- each value of a list in order is found at some key
find_from_In : (v : ChangeRecord) (es : List Entry) → T (is_sorted key_cmp es) → In v (values_of es) →
    (k : Key) × (find key_cmp k es ≡ Some v)
find_from_In v [] s h = absurd h
find_from_In v (e ∷ es) s (inl here) = (e.0, find_first e es ∙ ap (λ x. Some x) (sym here))
find_from_In v (e ∷ es) s (inr there) =
    let later = find_from_In v es (both _ _ s).1 there in
    (later.0, ap (λ b. cond b (Some e.1) (find key_cmp later.0 es)) (apart e.0 later.0 v es (both _ _ s).0 later.1) ∙ later.1)

-- what is below all of a list is below each key that is found there
below_found : (x q : Key) (v : ChangeRecord) (es : List Entry) → T (below_all key_cmp x es) → find key_cmp q es ≡ Some v →
    key_cmp x q ≡ Less
below_found x q v [] below h = absurd (cc)
below_found x q v (e ∷ es) below h =
    elim (eq_by_cmp key_cmp q e.0) as (λ b. eq_by_cmp key_cmp q e.0 ≡ b → cond b (Some e.1) (find key_cmp q es) ≡ Some v →
    key_cmp x q ≡ Less) [
      | true ↦ λ tied s. alike_right keys_total q e.0 x ((Equal-is (key_cmp q e.0)).0 tied) ∙ less_from (key_cmp x e.0) (both _ _ below).0
      | false ↦ λ _ s. below_found x q v es (both _ _ below).1 s
    ] refl h

sorted_values : (es : List Entry) → T (is_sorted key_cmp es) → ((q : Key) (c : ChangeRecord) → find key_cmp q es ≡ Some c → c.key ≡ q) →
    IsStrictlySortedBy change_cmp (values_of es)
unfolding IsStrictlySortedBy
sorted_values [] s own = tt
sorted_values (e ∷ es) s own =
    let below = (both _ _ s).0 in
    let own_rest : (q : Key) (c : ChangeRecord) → find key_cmp q es ≡ Some c → c.key ≡ q = λ q c h.
    own q c (ap (λ b. cond b (Some e.1) (find key_cmp q es)) (apart e.0 q c es below h) ∙ h) in (
      along (λ (y : ChangeRecord). change_cmp e.1 y ≡ Less) (values_of es) (λ d h.
          (let found = find_from_In d es (both _ _ s).1 h in
          ap (λ k. key_cmp k d.key) (own e.0 e.1 (find_first e es)) ∙ ap (key_cmp e.0) (own_rest found.0 d found.1) ∙
          below_found e.0 found.0 d es below found.1)),
      sorted_values es (both _ _ s).1 own_rest,
    )

module _ (changes : FinMap key_cmp ChangeRecord) (own : (key : Key) (c : ChangeRecord) → get changes key ≡ Some c → c.key ≡ key) where
  pub held_in_order : IsStrictlySortedBy change_cmp (values changes)
  held_in_order = sorted_values (entries changes) (entries_sorted changes) (λ q c k. own q c (get-entries changes q ∙ k))

  -- what is held is held for its key
  pub held_at_key : (c : ChangeRecord) → Contains (values changes) c → get changes c.key ≡ Some c
  held_at_key c k =
      let found = find_from_In c (entries changes) (entries_sorted changes) (In-from_Contains c (values changes) k) in
      let at : get changes found.0 ≡ Some c = get-entries changes found.0 ∙ found.1 in
      ap (λ (key : Key). get changes key) (own found.0 c at) ∙ at

-- what is held for a key is held
pub Contains-held : (changes : FinMap key_cmp ChangeRecord) (key : Key) (c : ChangeRecord) → get changes key ≡ Some c →
    Contains (values changes) c
Contains-held changes key c e = Contains-from_In c (values changes)
    (In-from_find key c (entries changes) (sym (get-entries changes key) ∙ e))
