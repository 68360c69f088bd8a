-- Masks and their flags.
use Rattle.std.proofs.Common.{◌≡◌, ◌≢◌, ℕ, zero, suc, ◌*◌, ◌/◌, ◌%◌, ◌^◌, ◌<◌, ◌≤◌, ◌==◌, Bool, true, false, ◌||◌, max, min, List, [], ◌∷◌}
use Rattle.std.proofs.Common.{length, get_or, set, replicate, refl, ap, ap₂, sym, ◌∙◌, arith, inl, inr, ◌⊎◌}
use Rattle.std.proofs.lemmas.Bool.Decides.{nat_tests}
use Rattle.std.proofs.Math.Nat.{pow-suc}
use Rattle.std.specs.Int.{bit_at, bit_not}
use Rattle.std.specs.Int.Bits.{bit_or}
use Rattle.std.proofs.Common.{bit_and, not}
use mir.Val.{bits}
use Rattle.std.specs.Int.{w128}
use Rattle.std.proofs.lemmas.List.{get_or-set_same, get_or-set_other, length-set, length-replicate, get_or-replicate}
use Rattle.std.proofs.lemmas.Nat.Bits.{bit_at_set_same, bit_at_set_other, bit_at_clear_same, bit_at_clear_other, bit_at_and, and_pow}
use Rattle.std.proofs.lemmas.Nat.Bits.{bit_at-suc, bit_at-zero, bit_at-lt, bit_at_or, bit_at_above, same_from_bits}
use Rattle.std.proofs.lemmas.Nat.{one_shl}
use Rattle.std.proofs.Math.Pow.{pow_pos}
use Rattle.ds_watch.specs.Mask.{has_bit, flags, either}
use Rattle.ds_watch.specs.MaskBits.{flags_long, flag_at}
use Rattle.ds_watch.proofs.PlaceLemmas.{either_by_place}

-- Lists of flags are equal if they are at each place.
pub same_flags : (xs ys : List Bool) → length xs ≡ length ys → ((i : ℕ) → i < length xs → get_or xs i false ≡ get_or ys i false) → xs ≡ ys
same_flags [] [] l h = refl
same_flags [] (y ∷ ys) l h = absurd (omega arith)
same_flags (x ∷ xs) [] l h = absurd (omega arith)
same_flags (x ∷ xs) (y ∷ ys) l h = ap₂ ◌∷◌ (h 0 (omega arith)) (same_flags xs ys (omega arith) (λ i m. h (suc i) (omega arith)))

-- ---- a number with no bit from a place on
pub small_from_bits : (k n : ℕ) → ((i : ℕ) → k ≤ i → bit_at n i ≡ 0) → n < 2 ^ k
small_from_bits zero n h =
    let none : n ≡ 0 = same_from_bits n 0 (λ i. h i (omega arith) ∙ sym (bit_at-zero i)) in
    omega (arith, none)
small_from_bits (suc k) n h =
    let half : n / 2 < 2 ^ k = small_from_bits k (n / 2) (λ i l. sym (bit_at-suc n i) ∙ h (suc i) (omega arith)) in
    let next : 2 ^ suc k ≡ 2 ^ k * 2 = pow-suc 2 k in
    omega (arith, half, next)

-- ---- both masks
or_bits : (x y : ℕ) → x < 2 → y < 2 → (max x y == 1) ≡ (x == 1) || (y == 1)
or_bits zero zero l m = refl
or_bits zero (suc zero) l m = refl
or_bits zero (suc (suc y)) l m = absurd (omega arith)
or_bits (suc zero) zero l m = refl
or_bits (suc zero) (suc zero) l m = refl
or_bits (suc zero) (suc (suc y)) l m = absurd (omega arith)
or_bits (suc (suc x)) y l m = absurd (omega arith)

has_or : (a b i : ℕ) → has_bit (bit_or a b) i ≡ has_bit a i || has_bit b i
has_or a b i = ap (λ n. n == 1) (bit_at_or a b i) ∙ or_bits (bit_at a i) (bit_at b i) (bit_at-lt a i) (bit_at-lt b i)

pub flags_or : (a b : ℕ) → flags (bit_or a b) ≡ either (flags a) (flags b)
flags_or a b =
    let m = flags_long a in
    let n = flags_long b in
    let r = flags_long (bit_or a b) in
    either_by_place (flags a) (flags b) (flags (bit_or a b)) (m ∙ sym n) (r ∙ sym m)
    (λ i l. let k : i < 128 = omega arith in flag_at (bit_or a b) i k ∙ has_or a b i ∙
    sym (ap₂ (λ x y. x || y) (flag_at a i k) (flag_at b i k)))

pub or_small : (a b : ℕ) → a < 2 ^ 128 → b < 2 ^ 128 → bit_or a b < 2 ^ 128
or_small a b l m =
    small_from_bits 128 (bit_or a b) (λ i k. bit_at_or a b i ∙ ap₂ (λ x y. max x y) (bit_at_above a 128 i l k) (bit_at_above b 128 i m k))

-- ---- no mask
pub flags_none : flags 0 ≡ replicate 128 false
flags_none =
    let long = flags_long 0 in
    same_flags (flags 0) (replicate 128 false) (long ∙ sym (length-replicate 128 false))
    (λ i l. let k : i < 128 = omega arith in flag_at 0 i k ∙ ap (λ n. n == 1) (bit_at-zero i) ∙ sym (get_or-replicate 128 i false false k))

-- ---- one bit
eq_or_not : (i k : ℕ) → (i ≡ k) ⊎ (i ≢ k)
eq_or_not zero zero = inl refl
eq_or_not zero (suc k) = inr (λ e. omega (arith, e))
eq_or_not (suc i) zero = inr (λ e. omega (arith, e))
eq_or_not (suc i) (suc k) = elim (eq_or_not i k) [ inl e ↦ inl (ap suc e) | inr other ↦ inr (λ e. other (omega (arith, e))) ]

-- A number that differs from another in one bit.
pub flags_set : (m n k : ℕ) (b : Bool) → k < 128 → has_bit m k ≡ b → ((i : ℕ) → i < 128 → i ≢ k → bit_at m i ≡ bit_at n i) →
    flags m ≡ set (flags n) k b
flags_set m n k b l here rest =
    let longm = flags_long m in
    let longn = flags_long n in
    let longs = length-set (flags n) k b in
    same_flags (flags m) (set (flags n) k b) (longm ∙ sym (longs ∙ longn))
    (λ i j. let w : i < 128 = omega arith in flag_at m i w ∙ by_place i w (eq_or_not i k))
  where
    by_place : (i : ℕ) → i < 128 → (i ≡ k) ⊎ (i ≢ k) → has_bit m i ≡ get_or (set (flags n) k b) i false
    by_place i w (inl e) =
        let long = flags_long n in
        ap (has_bit m) e ∙ here ∙ sym (ap (λ j. get_or (set (flags n) k b) j false) e ∙ get_or-set_same (flags n) k b false (omega arith))
    by_place i w (inr other) = ap (λ x. x == 1) (rest i w other) ∙ sym (get_or-set_other (flags n) k i b false other ∙ flag_at n i w)

-- `bits | 1 << k`
pub bit_set : (n k : ℕ) → k < 128 → flags (bit_or n (1 * 2 ^ k % 2 ^ bits w128)) ≡ set (flags n) k true
bit_set n k l =
    flags_set (bit_or n (1 * 2 ^ k % 2 ^ bits w128)) n k true l (ap (λ x. x == 1) (bit_at_set_same w128 n k (omega arith)))
    (λ i j other. bit_at_set_other w128 n k (omega arith) i other)

pub set_small : (n k : ℕ) → k < 128 → n < 2 ^ 128 → bit_or n (1 * 2 ^ k % 2 ^ bits w128) < 2 ^ 128
set_small n k l small =
    small_from_bits 128 (bit_or n (1 * 2 ^ k % 2 ^ bits w128))
    (λ i j. bit_at_set_other w128 n k (omega arith) i (λ e. omega (arith, e)) ∙ bit_at_above n 128 i small j)

-- `bits & !(1 << k)`
pub bit_cleared : (n k : ℕ) → k < 128 → flags (bit_and n (bit_not w128 (1 * 2 ^ k % 2 ^ bits w128))) ≡ set (flags n) k false
bit_cleared n k l =
    flags_set (bit_and n (bit_not w128 (1 * 2 ^ k % 2 ^ bits w128))) n k false l
    (ap (λ x. x == 1) (bit_at_clear_same w128 n k (omega arith)))
    (λ i j other. bit_at_clear_other w128 n k (omega arith) i (omega arith) other)

pub clear_small : (n k : ℕ) → k < 128 → n < 2 ^ 128 → bit_and n (bit_not w128 (1 * 2 ^ k % 2 ^ bits w128)) < 2 ^ 128
clear_small n k l small =
    small_from_bits 128 (bit_and n (bit_not w128 (1 * 2 ^ k % 2 ^ bits w128)))
    (λ i j. bit_at_and n (bit_not w128 (1 * 2 ^ k % 2 ^ bits w128)) i ∙
    none (bit_at n i) (bit_at (bit_not w128 (1 * 2 ^ k % 2 ^ bits w128)) i) (bit_at_above n 128 i small j))
  where
    none : (x y : ℕ) → x ≡ 0 → min x y ≡ 0
    none x y e = omega (arith, e)

nonzero : (p : ℕ) → 0 < p → not (p == 0) ≡ true
nonzero p h = grind (arith, nat_tests)

-- `bits & 1 << k` isn't 0
pub tested : (n k : ℕ) → k < 128 → not (bit_and n (1 * 2 ^ k % 2 ^ bits w128) == 0) ≡ has_bit n k
tested n k l =
    let one : 1 * 2 ^ k % 2 ^ bits w128 ≡ 2 ^ k = one_shl k 128 (omega arith) in
    ap (λ x. not (bit_and n x == 0)) one ∙ ap (λ x. not (x == 0)) (and_pow n k) ∙ by_bit (bit_at n k) (bit_at-lt n k)
  where
    by_bit : (x : ℕ) → x < 2 → not (x * 2 ^ k == 0) ≡ (x == 1)
    by_bit zero h = let none : 0 * 2 ^ k ≡ 0 = omega arith in ap (λ p. not (p == 0)) none
    by_bit (suc zero) h = nonzero (1 * 2 ^ k) (omega (arith, pow_pos k))
    by_bit (suc (suc x)) h = absurd (omega arith)

-- the flag of a place that was set
pub set_here : (fs : List Bool) (k : ℕ) (b : Bool) → length fs ≡ 128 → k < 128 → get_or (set fs k b) k false ≡ b
set_here fs k b long l = get_or-set_same fs k b false (omega (arith, long))
