-- Lists by their places.
use Rattle.std.proofs.Common.{◌≡◌, ℕ, zero, suc, ◌<◌, Bool, false, ◌||◌, List, [], ◌∷◌, map, take, length, get_or, replicate, refl, ap₂}
use Rattle.std.proofs.Common.{arith}
use Rattle.std.proofs.lemmas.List.{length-take}
use Rattle.ds_watch.specs.Mask.{either}

pub either_by_place : (ms ns rs : List Bool) → length ms ≡ length ns → length rs ≡ length ms →
    ((k : ℕ) → k < length ms → get_or rs k false ≡ get_or ms k false || get_or ns k false) → rs ≡ either ms ns
either_by_place [] [] [] e f h = refl
either_by_place [] [] (r ∷ rs) e f h = absurd (omega arith)
either_by_place [] (n ∷ ns) rs e f h = absurd (omega arith)
either_by_place (m ∷ ms) [] rs e f h = absurd (omega arith)
either_by_place (m ∷ ms) (n ∷ ns) [] e f h = absurd (omega arith)
either_by_place (m ∷ ms) (n ∷ ns) (r ∷ rs) e f h =
    ap₂ ◌∷◌ (h 0 (omega arith)) (either_by_place ms ns rs (omega arith) (omega arith) (λ k l. h (suc k) (omega arith)))

pub map_by_place : {X Y : Type 0} (f : X → Y) (d : X) (e : Y) (xs : List X) (ys : List Y) → length ys ≡ length xs →
    ((k : ℕ) → k < length xs → get_or ys k e ≡ f (get_or xs k d)) → ys ≡ map f xs
map_by_place f d e [] [] l h = refl
map_by_place f d e [] (y ∷ ys) l h = absurd (omega arith)
map_by_place f d e (x ∷ xs) [] l h = absurd (omega arith)
map_by_place f d e (x ∷ xs) (y ∷ ys) l h =
    ap₂ ◌∷◌ (h 0 (omega arith)) (map_by_place f d e xs ys (omega arith) (λ k m. h (suc k) (omega arith)))

pub replicate_by_place : {X : Type 0} (x d : X) (n : ℕ) (ys : List X) → length ys ≡ n → ((k : ℕ) → k < n → get_or ys k d ≡ x) →
    ys ≡ replicate n x
replicate_by_place x d zero [] l h = refl
replicate_by_place x d zero (y ∷ ys) l h = absurd (omega arith)
replicate_by_place x d (suc n) [] l h = absurd (omega arith)
replicate_by_place x d (suc n) (y ∷ ys) l h =
    ap₂ ◌∷◌ (h 0 (omega arith)) (replicate_by_place x d n ys (omega arith) (λ k m. h (suc k) (omega arith)))

-- a place of the first ones
pub place_within : {X : Type 0} (n i : ℕ) (xs : List X) → i < length (take n xs) → (i < n) × (i < length xs)
place_within n i xs l =
    let few = length-take n xs in
    (omega (arith, l, few), omega (arith, l, few))
