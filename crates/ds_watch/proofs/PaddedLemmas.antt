-- Masks of fewer places.
use Rattle.std.proofs.Common.{◌≡◌, ℕ, zero, suc, ◌+◌, ◌-◌, ◌*◌, ◌<◌, ◌≤◌, Bool, false, cond, List, [], ◌∷◌, ◌++◌, map, take, length, get_or}
use Rattle.std.proofs.Common.{replicate, refl, ap, ap₂, sym, ◌∙◌, arith, append-nil, inl, inr, ◌⊎◌}
use Rattle.std.proofs.lemmas.List.{length-map, length-take-le}
use Rattle.ds_watch.specs.Mask.{mask, padded, PaddingKeepsNumber}

-- ---- the number
no_flags : (n : ℕ) → mask (replicate n false) ≡ 0
no_flags zero = refl
no_flags (suc n) = let none = no_flags n in omega (arith, none)

more_flags : (some : List Bool) (n : ℕ) → mask (some ++ replicate n false) ≡ mask some
more_flags [] n = no_flags n
more_flags (flag ∷ some) n = ap (λ m. cond flag 1 0 + 2 * m) (more_flags some n)

pub padded_number : PaddingKeepsNumber
padded_number some = more_flags some (128 - length some)

-- ---- all places
pub padded_all : (some : List Bool) → length some ≡ 128 → padded some ≡ some
padded_all some all =
    let none : 128 - length some ≡ 0 = omega (arith, all) in
    ap (λ n. some ++ replicate n false) none ∙ append-nil some

-- ---- by place
pub no_flag : (n k : ℕ) → get_or (replicate n false) k false ≡ false
no_flag zero k = refl
no_flag (suc n) zero = refl
no_flag (suc n) (suc k) = no_flag n k

no_flag_by_place : (m : ℕ) (fs : List Bool) → length fs ≡ m → ((k : ℕ) → get_or fs k false ≡ false) → fs ≡ replicate m false
no_flag_by_place zero [] l none = refl
no_flag_by_place zero (f ∷ fs) l none = absurd (omega (arith, l))
no_flag_by_place (suc m) [] l none = absurd (omega (arith, l))
no_flag_by_place (suc m) (f ∷ fs) l none = ap₂ ◌∷◌ (none 0) (no_flag_by_place m fs (omega (arith, l)) (λ k. none (suc k)))

more_by_place : {X : Type 0} (f : X → Bool) (d : X) (n m : ℕ) (xs : List X) (fs : List Bool) → length fs ≡ n + m → n ≤ length xs
    → ((k : ℕ) → k < n → get_or fs k false ≡ f (get_or xs k d)) → ((k : ℕ) → n ≤ k → get_or fs k false ≡ false) →
    fs ≡ map f (take n xs) ++ replicate m false
more_by_place f d zero m xs fs l within here none = no_flag_by_place m fs (omega (arith, l)) (λ k. none k (omega arith))
more_by_place f d (suc n) m [] fs l within here none = absurd (omega (arith, within))
more_by_place f d (suc n) m (x ∷ xs) [] l within here none = absurd (omega (arith, l))
more_by_place f d (suc n) m (x ∷ xs) (b ∷ fs) l within here none =
    ap₂ ◌∷◌ (here 0 (omega arith))
    (more_by_place f d n m xs fs (omega (arith, l)) (omega (arith, within)) (λ k j. here (suc k) (omega (arith, j)))
    (λ k j. none (suc k) (omega (arith, j))))

-- The flags of the first places, padded with false.
pub padded_by_place : {X : Type 0} (f : X → Bool) (d : X) (n : ℕ) (xs : List X) (fs : List Bool) → length fs ≡ 128 → length xs ≡ 128 →
    n ≤ 128
    → ((k : ℕ) → k < n → get_or fs k false ≡ f (get_or xs k d)) → ((k : ℕ) → n ≤ k → get_or fs k false ≡ false) →
    fs ≡ padded (map f (take n xs))
padded_by_place f d n xs fs l long few here none =
    let within : n ≤ length xs = omega (arith, few, long) in
    let count : length (map f (take n xs)) ≡ n = length-map (take n xs) f ∙ length-take-le n xs within in
    let rest : 128 - n ≡ 128 - length (map f (take n xs)) = ap (λ c. 128 - c) (sym count) in
    more_by_place f d n (128 - n) xs fs (omega (arith, l, few)) within here none ∙ ap (λ m. map f (take n xs) ++ replicate m false) rest

pub split : (m k : ℕ) → (k < m) ⊎ (m ≤ k)
split zero k = inr (omega arith)
split (suc m) zero = inl (omega arith)
split (suc m) (suc k) = elim (split m k) [ inl l ↦ inl (omega (arith, l)) | inr l ↦ inr (omega (arith, l)) ]

-- The same when only the first m places were looked at, and the others are empty.
pub padded_by_used : {X : Type 0} (f : X → Bool) (d : X) (n m : ℕ) (xs : List X) (fs : List Bool) → length fs ≡ 128 → length xs ≡ 128 →
    n ≤ 128 → m ≤ n
    → f d ≡ false → ((k : ℕ) → m ≤ k → get_or xs k d ≡ d) → ((k : ℕ) → k < m → get_or fs k false ≡ f (get_or xs k d)) →
    ((k : ℕ) → m ≤ k → get_or fs k false ≡ false) → fs ≡ padded (map f (take n xs))
padded_by_used f d n m xs fs l long few low off empty here none =
    padded_by_place f d n xs fs l long few (λ k w. elim (split m k) [ inl u ↦ here k u | inr u ↦ none k u ∙ sym (ap f (empty k u) ∙ off) ])
    (λ k w. none k (omega (arith, w, low)))
