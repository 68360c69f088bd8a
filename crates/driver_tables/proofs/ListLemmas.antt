-- Lists that a loop walks, and look-ups in longer lists.
use Rattle.std.proofs.Common.{◌≡◌, ◌≢◌, ℕ, ◌+◌, Bool, true, false, cond, List, [], ◌∷◌, ◌++◌, length, drop, take, map, Option, Some, None}
use Rattle.std.proofs.Common.{zero, suc, refl, sym, ap, ◌∙◌, subst, arith}
use Rattle.std.specs.List.{slice_get, filter_map, cons_option, find, retain_mut, last_or}
use Rattle.std.specs.List.Retain.{RetainsInTurn}
use Rattle.std.specs.Map.{lookup}
use Rattle.std.specs.Option.{option_to_list}
use Rattle.indexmap.specs.IndexMap.{set_value_at}

-- the element at an index is the first of the rest from there
pub drop_at_get : {X : Type 0} (xs : List X) (i : ℕ) (x : X) → slice_get xs i ≡ Some x → drop i xs ≡ x ∷ drop (i + 1) xs
drop_at_get [] i x e = cc
drop_at_get (y ∷ ys) zero x e = let h : y ≡ x = cc in ap (λ z. z ∷ ys) h
drop_at_get (y ∷ ys) (suc i) x e =
    let n : suc i + 1 ≡ suc (i + 1) = omega arith in
    drop_at_get ys i x e ∙ ap (λ (l : List _). x ∷ l) (sym (ap (λ (k : ℕ). drop k (y ∷ ys)) n))

-- the list with its first i elements changed
abbrev pub half : {X : Type 0} → (X → X) → ℕ → List X → List X
half f zero xs = xs
half f (suc i) [] = []
half f (suc i) (x ∷ xs) = f x ∷ half f i xs

pub half_get : {X : Type 0} (f : X → X) (i : ℕ) (xs : List X) → slice_get (half f i xs) i ≡ slice_get xs i
half_get f zero xs = refl
half_get f (suc i) [] = refl
half_get f (suc i) (x ∷ xs) = half_get f i xs

pub half_next : {X : Type 0} (f : X → X) (i : ℕ) (xs : List X) (x : X) → slice_get xs i ≡ Some x → f x ≡ x → half f i xs ≡ half f (i + 1) xs
half_next f i [] x e h = cc
half_next f zero (y ∷ ys) x e h = let k : y ≡ x = cc in ap (λ z. z ∷ ys) (k ∙ sym h ∙ ap f (sym k))
half_next f (suc i) (y ∷ ys) x e h =
    let n : suc i + 1 ≡ suc (i + 1) = omega arith in
    ap (λ (l : List _). f y ∷ l) (half_next f i ys x e h) ∙ sym (ap (λ (k : ℕ). half f k (y ∷ ys)) n)

pub half_set : {K V : Type 0} (f : K × V → K × V) (i : ℕ) (xs : List (K × V)) (k : K) (v w : V) → slice_get xs i ≡ Some (k, v) →
    f (k, v) ≡ (k, w) → set_value_at (half f i xs) i w ≡ half f (i + 1) xs
half_set f i [] k v w e h = cc
half_set {K} {V} f zero (y ∷ ys) k v w e h = let q : y ≡ (k, v) = cc in
    ap (λ (z : K × V). (z.0, w) ∷ ys) q ∙ sym (ap (λ (z : K × V). f z ∷ ys) q ∙ ap (λ z. z ∷ ys) h)
half_set f (suc i) (y ∷ ys) k v w e h =
    let n : suc i + 1 ≡ suc (i + 1) = omega arith in
    ap (λ (l : List _). f y ∷ l) (half_set f i ys k v w e h) ∙ sym (ap (λ (k : ℕ). half f k (y ∷ ys)) n)

pub half_all : {X : Type 0} (f : X → X) (xs : List X) → half f (length xs) xs ≡ map f xs
half_all f [] = refl
half_all f (x ∷ xs) = ap (λ (l : List _). f x ∷ l) (half_all f xs)

pub length-half : {X : Type 0} (f : X → X) (i : ℕ) (xs : List X) → length (half f i xs) ≡ length xs
length-half f zero xs = refl
length-half f (suc i) [] = refl
length-half f (suc i) (x ∷ xs) = ap suc (length-half f i xs)

-- one more element of the list is walked
pub filter_map_more : {X Y : Type 0} (h : X → Option Y) (xs : List X) (i : ℕ) (x : X) → slice_get xs i ≡ Some x →
    filter_map h (take (i + 1) xs) ≡ filter_map h (take i xs) ++ option_to_list (h x)
filter_map_more h [] i x e = cc
filter_map_more h (y ∷ ys) zero x e = let k : y ≡ x = cc in ap (λ z. filter_map h (z ∷ [])) k ∙ one h x
  where
    one : {X Y : Type 0} (h : X → Option Y) (x : X) → filter_map h (x ∷ []) ≡ [] ++ option_to_list (h x)
    one h x = elim (h x) as (λ o. cons_option o [] ≡ [] ++ option_to_list o) [ None ↦ refl | Some y ↦ refl ]
filter_map_more h (y ∷ ys) (suc i) x e =
    let n : suc i + 1 ≡ suc (i + 1) = omega arith in
    ap (λ (k : ℕ). filter_map h (take k (y ∷ ys))) n ∙
    (ap (cons_option (h y)) (filter_map_more h ys i x e) ∙ onto (h y) (filter_map h (take i ys)) (option_to_list (h x)))
  where
    onto : {Y : Type 0} (o : Option Y) (ys zs : List Y) → cons_option o (ys ++ zs) ≡ cons_option o ys ++ zs
    onto None ys zs = refl
    onto (Some y) ys zs = refl

-- a search that finds the element at an index returns it; otherwise it searches the rest
pub find_here : {X : Type 0} (p : X → Bool) (xs : List X) (i : ℕ) (x : X) → slice_get xs i ≡ Some x → find p (drop i xs) ≡ find p xs →
    p x ≡ true → find p xs ≡ Some x
find_here {X} p xs i x e h t = sym h ∙ (ap (find p) (drop_at_get xs i x e) ∙
    ap (λ (b : Bool). cond b (Some x) (find p (drop (i + 1) xs))) t)

pub find_next : {X : Type 0} (p : X → Bool) (xs : List X) (i : ℕ) (x : X) → slice_get xs i ≡ Some x → find p (drop i xs) ≡ find p xs →
    p x ≡ false → find p (drop (i + 1) xs) ≡ find p xs
find_next {X} p xs i x e h t = sym (ap (find p) (drop_at_get xs i x e) ∙ ap (λ (b : Bool). cond b (Some x) (find p (drop (i + 1) xs))) t) ∙
    h

-- the result of `retain_mut` with a closure that follows `test` and `change` and is itself unchanged
pub retained : {X F : Type 0} (R : F → X → Bool → F → X → Type 0) (test : X → Bool) (change : X → X) (f : F) →
    ((x : X) (b : Bool) (g : F) (y : X) → R f x b g y → (b ≡ test x) × (g ≡ f) × (y ≡ change x)) →
    (xs ys : List X) → RetainsInTurn R f xs ys → ys ≡ retain_mut test change xs
retained R test change f says [] ys h = h
retained R test change f says (x ∷ xs) ys h =
    let said = says x h.0 h.1 h.2 h.3 in
    let later = subst (λ g. RetainsInTurn R g xs h.4) said.1 h.5 in
    let rest = retained R test change f says xs h.4 later in
    h.6 ∙ (λ i. cond (said.0 i) (said.2 i ∷ rest i) (rest i))

pub last_or-append : {X : Type 0} (o : Option X) (xs ys : List X) → last_or o (xs ++ ys) ≡ last_or (last_or o xs) ys
last_or-append o [] ys = refl
last_or-append o (x ∷ xs) ys = last_or-append (Some x) xs ys

-- a look-up that found something finds the same in a longer list; otherwise it searches what was added
pub lookup_kept : {K X : Type 0} (test : K → Bool) (xs ys : List (K × X)) (x : X) → lookup test xs ≡ Some x →
    lookup test (xs ++ ys) ≡ Some x
lookup_kept test [] ys x e = cc
lookup_kept {K} {X} test (p ∷ xs) ys x e = by (test p.0) e (lookup_kept test xs ys x)
  where
    by : (b : Bool) → cond b (Some p.1) (lookup test xs) ≡ Some x → (lookup test xs ≡ Some x → lookup test (xs ++ ys) ≡ Some x) →
        cond b (Some p.1) (lookup test (xs ++ ys)) ≡ Some x
    by true e rest = e
    by false e rest = rest e

pub lookup_added : {K X : Type 0} (test : K → Bool) (xs ys : List (K × X)) → lookup test xs ≡ None → lookup test (xs ++ ys) ≡ lookup test ys
lookup_added test [] ys e = refl
lookup_added {K} {X} test (p ∷ xs) ys e = by (test p.0) e (lookup_added test xs ys)
  where
    by : (b : Bool) → cond b (Some p.1) (lookup test xs) ≡ None → (lookup test xs ≡ None → lookup test (xs ++ ys) ≡ lookup test ys) →
        cond b (Some p.1) (lookup test (xs ++ ys)) ≡ lookup test ys
    by true e rest = cc
    by false e rest = rest e

-- the value of one element is in the list of all values
pub filter_map_some : {X Y : Type 0} (h : X → Option Y) (xs : List X) (i : ℕ) (x : X) → slice_get xs i ≡ Some x → h x ≢ None →
    filter_map h xs ≢ []
filter_map_some h [] i x e some = cc
filter_map_some h (y ∷ ys) zero x e some = let k : y ≡ x = cc in by (h y) (filter_map h ys) (λ n. some (sym (ap h k) ∙ n))
  where
    by : {Y : Type 0} (o : Option Y) (l : List Y) → o ≢ None → cons_option o l ≢ []
    by None l n = absurd (n refl)
    by (Some z) l n = λ q. cc
filter_map_some h (y ∷ ys) (suc i) x e some = by (h y) (filter_map h ys) (filter_map_some h ys i x e some)
  where
    by : {Y : Type 0} (o : Option Y) (l : List Y) → l ≢ [] → cons_option o l ≢ []
    by None l n = n
    by (Some z) l n = λ q. cc

pub either_part : {X : Type 0} (xs ys : List X) → xs ≢ [] → xs ++ ys ≢ []
either_part [] ys n = absurd (n refl)
either_part (x ∷ xs) ys n = λ q. cc

pub second_part : {X : Type 0} (xs ys : List X) → ys ≢ [] → xs ++ ys ≢ []
second_part [] ys n = n
second_part (x ∷ xs) ys n = λ q. cc
