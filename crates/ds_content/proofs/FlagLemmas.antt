-- Tests that agree on a list, and places in lists.
use Rattle.std.proofs.Common.{◌≡◌, ℕ, zero, suc, ◌+◌, ◌<◌, ◌≤◌, ◌⊎◌, Bool, true, false, cond, List, [], ◌∷◌, ◌++◌, map, filter, take}
use Rattle.std.proofs.Common.{length, length-append, get_or, set, Option, Some, None}
use Rattle.std.proofs.Common.{refl, ap, ap₂, sym, ◌∙◌, subst, inl, inr, arith, Contains}
use Rattle.std.specs.Prelude.{slice_get}
use Rattle.std.specs.declared.cmp.Ordering.TheVariants.{Less, Equal}
use Rattle.std.specs.List.{AllByRecursion}
use Rattle.std.specs.List.Sorted.{IsStrictlySortedBy}
use Rattle.std.specs.Option.{option_map}
use Rattle.std.proofs.lemmas.Cmp.{tied_itself}
use Rattle.std.proofs.lemmas.List.{map-append}
use Rattle.std.proofs.lemmas.Option.{same_Some}
use Rattle.std.proofs.lemmas.Map.Keys.{sorted_head, sorted_tail}
use Rattle.ds_entry.specs.Item.{item_cmp}
use Rattle.ds_entry.specs.declared.item.Item.{Item}
use Rattle.ds_entry.proofs.Members.{Contains-nil, Contains-head, Contains-tail, Contains-cons}
use Rattle.ds_entry.proofs.ItemLemmas.{items_total}

pub below_or_not : (a b : ℕ) → (a < b) ⊎ (b ≤ a)
below_or_not a zero = inr (omega arith)
below_or_not zero (suc b) = inl (omega arith)
below_or_not (suc a) (suc b) = elim (below_or_not a b) [ inl l ↦ inl (omega arith) | inr m ↦ inr (omega arith) ]

pub below_or_at : (k i : ℕ) → k < i + 1 → (k < i) ⊎ (k ≡ i)
below_or_at zero zero l = inr refl
below_or_at zero (suc i) l = inl (omega arith)
below_or_at (suc k) zero l = absurd (omega arith)
below_or_at (suc k) (suc i) l = elim (below_or_at k i (omega arith)) [ inl m ↦ inl (omega arith) | inr e ↦ inr (ap suc e) ]

module _ {X : Type 0} where
  -- ---- tests
  pub tests_at : (f g : X → Bool) (hs : List X) → map f hs ≡ map g hs → (c : X) → Contains hs c → f c ≡ g c
  tests_at f g [] e c h = absurd (Contains-nil c h)
  tests_at f g (x ∷ hs) e c h =
      let first : f x ≡ g x = cc in
      let rest : map f hs ≡ map g hs = cc in
      elim (Contains-cons x hs c h) [
        | inl q ↦ subst (λ (y : X). f y ≡ g y) (sym q) first
        | inr k ↦ tests_at f g hs rest c k
      ]

  pub flags_same : (f g : X → Bool) (hs : List X) → ((c : X) → Contains hs c → f c ≡ g c) → map f hs ≡ map g hs
  flags_same f g [] e = refl
  flags_same f g (x ∷ hs) e = ap₂ ◌∷◌ (e x (Contains-head x hs)) (flags_same f g hs (λ c h. e c (Contains-tail x hs c h)))

  pub filter_same : (f g : X → Bool) (hs : List X) → ((c : X) → Contains hs c → f c ≡ g c) → filter f hs ≡ filter g hs
  filter_same f g [] e = refl
  filter_same f g (x ∷ hs) e =
      let rest = filter_same f g hs (λ c h. e c (Contains-tail x hs c h)) in
      ap (λ b. cond b (x ∷ filter f hs) (filter f hs)) (e x (Contains-head x hs)) ∙ ap (λ (l : List X). cond (g x) (x ∷ l) l) rest

  -- ---- the element at an index
  pub at_index : (P : X → Type 0) (hs : List X) (k : ℕ) (c : X) → AllByRecursion P hs → slice_get hs k ≡ Some c → P c
  at_index P [] k c a e = absurd (cc)
  at_index P (h ∷ hs) zero c a e = subst P (same_Some h c e) a.0
  at_index P (h ∷ hs) (suc k) c a e = at_index P hs k c a.1 e

  pub index_among : (hs : List X) (k : ℕ) (c : X) → slice_get hs k ≡ Some c → Contains hs c
  index_among [] k c e = absurd (cc)
  index_among (h ∷ hs) zero c e = subst (λ (x : X). Contains (h ∷ hs) x) (same_Some h c e) (Contains-head h hs)
  index_among (h ∷ hs) (suc k) c e = Contains-tail h hs c (index_among hs k c e)

  pub index_of : (hs : List X) (c : X) → Contains hs c → (k : ℕ) × (slice_get hs k ≡ Some c)
  index_of [] c h = absurd (Contains-nil c h)
  index_of (x ∷ hs) c h = elim (Contains-cons x hs c h) [
    | inl q ↦ (zero, ap (λ y. Some y) (sym q))
    | inr k ↦ let r = index_of hs c k in (suc r.0, r.1)
  ]

  pub index_in_take : (n : ℕ) (hs : List X) (c : X) → Contains (take n hs) c → (k : ℕ) × (k < n) × (slice_get hs k ≡ Some c)
  index_in_take zero hs c h = absurd (Contains-nil c h)
  index_in_take (suc n) [] c h = absurd (Contains-nil c h)
  index_in_take (suc n) (x ∷ hs) c h = elim (Contains-cons x (take n hs) c h) [
    | inl q ↦ (zero, omega arith, ap (λ y. Some y) (sym q))
    | inr k ↦ let r = index_in_take n hs c k in let l : r.0 < n = r.1 in (suc r.0, omega (arith, l), r.2)
  ]

  pub among_take : (n : ℕ) (hs : List X) (k : ℕ) (c : X) → slice_get hs k ≡ Some c → k < n → Contains (take n hs) c
  among_take n [] k c e l = absurd (cc)
  among_take zero (x ∷ hs) k c e l = absurd (omega arith)
  among_take (suc n) (x ∷ hs) zero c e l = subst (λ (y : X). Contains (x ∷ take n hs) y) (same_Some x c e) (Contains-head x (take n hs))
  among_take (suc n) (x ∷ hs) (suc k) c e l = Contains-tail x (take n hs) c (among_take n hs k c e (omega arith))

  pub past_end : (hs : List X) (n : ℕ) → slice_get hs n ≡ None → length hs ≤ n
  past_end [] n e = omega (arith)
  past_end (x ∷ hs) zero e = absurd (cc)
  past_end (x ∷ hs) (suc n) e = let rest = past_end hs n e in omega (arith, rest)

  -- ---- the first ones that pass
  pub few_taken : (m : ℕ) (xs : List X) → length xs ≤ m → take m xs ≡ xs
  few_taken zero [] l = refl
  few_taken zero (x ∷ xs) l = absurd (omega arith)
  few_taken (suc m) [] l = refl
  few_taken (suc m) (x ∷ xs) l = ap (λ (ys : List X). x ∷ ys) (few_taken m xs (omega arith))

  take_one : (n : ℕ) (hs : List X) (c : X) → slice_get hs n ≡ Some c → take (n + 1) hs ≡ take n hs ++ c ∷ []
  take_one n [] c e = absurd (cc)
  take_one zero (x ∷ hs) c e = ap (λ (y : X). y ∷ []) (same_Some x c e)
  take_one (suc n) (x ∷ hs) c e =
      let more = take_one n hs c e in
      let next : suc n + 1 ≡ suc (n + 1) = omega arith in
      ap (λ m. take m (x ∷ hs)) next ∙ ap (λ (l : List X). x ∷ l) more

  module _ (p : X → Bool) where
    -- of the first ones `m` pass: those are the first `m` that pass at all
    pub taken_first : (n : ℕ) (hs : List X) → take (length (filter p (take n hs))) (filter p hs) ≡ filter p (take n hs)
    taken_first zero hs = refl
    taken_first (suc n) [] = refl
    taken_first (suc n) (x ∷ hs) = by_test (p x) (taken_first n hs)
      where
        by_test : (b : Bool) → take (length (filter p (take n hs))) (filter p hs) ≡ filter p (take n hs)
            → take (length (cond b (x ∷ filter p (take n hs)) (filter p (take n hs)))) (cond b (x ∷ filter p hs) (filter p hs)) ≡ cond b
            (x ∷ filter p (take n hs)) (filter p (take n hs))
        by_test true e = ap (λ (l : List X). x ∷ l) e
        by_test false e = e

    pub all_taken : (n : ℕ) (hs : List X) → length hs ≤ n → filter p (take n hs) ≡ filter p hs
    all_taken n hs l = ap (filter p) (few_taken n hs l)

    -- one more of the first ones
    pub filter_more : (n : ℕ) (hs : List X) (c : X) → slice_get hs n ≡ Some c →
        filter p (take (n + 1) hs) ≡ filter p (take n hs) ++ cond (p c) (c ∷ []) []
    filter_more n [] c e = absurd (cc)
    filter_more zero (x ∷ hs) c e = ap (λ (y : X). cond (p y) (y ∷ []) []) (same_Some x c e)
    filter_more (suc n) (x ∷ hs) c e =
        let more = filter_more n hs c e in
        let next : suc n + 1 ≡ suc (n + 1) = omega arith in
        ap (λ m. filter p (take m (x ∷ hs))) next ∙ by_test (p x) more
      where
        by_test : (b : Bool) → filter p (take (n + 1) hs) ≡ filter p (take n hs) ++ cond (p c) (c ∷ []) []
            → cond b (x ∷ filter p (take (n + 1) hs)) (filter p (take (n + 1) hs)) ≡ cond b (x ∷ filter p (take n hs))
            (filter p (take n hs)) ++ cond (p c) (c ∷ []) []
        by_test true q = ap (λ (l : List X). x ∷ l) q
        by_test false q = q

  -- ---- flags of the first ones
  pub flags_more : (f : X → Bool) (hs : List X) (fs more : List Bool) (c : X) → fs ≡ map f (take (length fs) hs) →
      slice_get hs (length fs) ≡ Some c → more ≡ fs ++ f c ∷ [] → more ≡ map f (take (length more) hs)
  flags_more f hs fs more c e at is =
      let long : length more ≡ length fs + 1 = ap (λ (l : List Bool). length l) is ∙ length-append fs (f c ∷ []) in
      is ∙ ap (λ (l : List Bool). l ++ f c ∷ []) e ∙ sym (map-append f (take (length fs) hs) (c ∷ [])) ∙
      ap (map f) (sym (take_one (length fs) hs c at)) ∙ ap (λ n. map f (take n hs)) (sym long)

  pub flags_all : (f : X → Bool) (hs : List X) (fs : List Bool) → fs ≡ map f (take (length fs) hs) → slice_get hs (length fs) ≡ None →
      fs ≡ map f hs
  flags_all f hs fs e none = e ∙ ap (map f) (few_taken (length fs) hs (past_end hs (length fs) none))

-- ---- a flag that is cleared
pub cleared : (fs : List Bool) (k : ℕ) → get_or (set fs k false) k false ≡ false
cleared [] zero = refl
cleared [] (suc k) = refl
cleared (f ∷ fs) zero = refl
cleared (f ∷ fs) (suc k) = cleared fs k

-- ---- items in order are at one index each
not_less : (x : Item) → item_cmp x x ≡ Less → ⊥
not_less x e = let no : Less ≡ Equal = sym e ∙ tied_itself items_total x in absurd (cc)

pub apart : (hs : List Item) → IsStrictlySortedBy item_cmp hs → (i k : ℕ) (c : Item) → slice_get hs i ≡ Some c → slice_get hs k ≡ Some c →
    k ≡ i
apart [] s i k c e f = absurd (cc)
apart (h ∷ hs) s zero zero c e f = refl
apart (h ∷ hs) s zero (suc k) c e f =
    let after = at_index (λ y. item_cmp h y ≡ Less) hs k c (sorted_head item_cmp h hs s) f in
    absurd (not_less c (subst (λ (x : Item). item_cmp x c ≡ Less) (same_Some h c e) after))
apart (h ∷ hs) s (suc i) zero c e f =
    let after = at_index (λ y. item_cmp h y ≡ Less) hs i c (sorted_head item_cmp h hs s) e in
    absurd (not_less c (subst (λ (x : Item). item_cmp x c ≡ Less) (same_Some h c f) after))
apart (h ∷ hs) s (suc i) (suc k) c e f = ap suc (apart hs (sorted_tail item_cmp h hs s) i k c e f)

-- ---- a place in the lists of subscriptions
pub at_map : {A B : Type 0} (f : A → B) (xs : List (Option A)) (k : ℕ) →
    get_or (map (option_map f) xs) k None ≡ option_map f (get_or xs k None)
at_map f [] zero = refl
at_map f [] (suc k) = refl
at_map f (x ∷ xs) zero = refl
at_map f (x ∷ xs) (suc k) = at_map f xs k
