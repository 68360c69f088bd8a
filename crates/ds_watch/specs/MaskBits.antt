-- The number of a mask's flags.
use Rattle.std.specs.Prelude.{◌≡◌, ℕ, ◌+◌, ◌*◌, ◌/◌, ◌%◌, ◌^◌, ◌<◌, ◌==◌, Bool, true, false, cond, List, [], ◌∷◌, length, refl}
use Rattle.std.proofs.Common.{suc, zero, get_or, ap, ◌∙◌, arith}
use Rattle.std.proofs.Math.Nat.{pow-suc}
use Rattle.std.proofs.lemmas.List.FromFn.{get_or-map-range_with_len, length-map-range_with_len}
use Rattle.std.proofs.lemmas.Nat.Bits.{bit_at_lowest, bit_at-suc, bit_at-zero, bit_at-lt, same_from_bits_below}
use Rattle.std.specs.Int.{bit_at}
use Rattle.ds_watch.specs.Mask.{mask, has_bit, flags}

pub flags_long : (n : ℕ) → length (flags n) ≡ 128
unfolding flags
flags_long n = length-map-range_with_len (has_bit n) 0 128

pub flag_at : (n i : ℕ) → i < 128 → get_or (flags n) i false ≡ has_bit n i
unfolding flags
flag_at n i l = get_or-map-range_with_len (has_bit n) 0 128 i i false l (omega arith)

lowest : (b : Bool) (m : ℕ) → (cond b 1 0 + 2 * m) % 2 ≡ cond b 1 0
lowest true m = omega arith
lowest false m = omega arith

others : (b : Bool) (m : ℕ) → (cond b 1 0 + 2 * m) / 2 ≡ m
others true m = omega arith
others false m = omega arith

pub mask_bit : (bs : List Bool) (i : ℕ) → bit_at (mask bs) i ≡ cond (get_or bs i false) 1 0
mask_bit [] zero = bit_at-zero 0
mask_bit [] (suc i) = bit_at-zero (suc i)
mask_bit (b ∷ bs) zero = bit_at_lowest (cond b 1 0 + 2 * mask bs) ∙ lowest b (mask bs)
mask_bit (b ∷ bs) (suc i) = bit_at-suc (cond b 1 0 + 2 * mask bs) i ∙ ap (λ m. bit_at m i) (others b (mask bs)) ∙ mask_bit bs i

bit_few : (b : Bool) → cond b 1 0 < 2
bit_few true = omega arith
bit_few false = omega arith

pub mask_small : (bs : List Bool) → mask bs < 2 ^ length bs
mask_small [] = omega arith
mask_small (b ∷ bs) =
    let rest = mask_small bs in
    let few = bit_few b in
    let next : 2 ^ suc (length bs) ≡ 2 ^ length bs * 2 = pow-suc 2 (length bs) in
    omega (arith, rest, few, next)

as_bit : (n : ℕ) → n < 2 → cond (n == 1) 1 0 ≡ n
as_bit zero l = refl
as_bit (suc zero) l = refl
as_bit (suc (suc n)) l = absurd (omega arith)

small_at : (m k : ℕ) → m < 2 ^ k → k ≡ 128 → m < 2 ^ 128
small_at m k h e = let at : 2 ^ k ≡ 2 ^ 128 = ap (λ n. 2 ^ n) e in omega (arith, h, at)

-- The mask of the flags of a number is that number.
pub mask_flags : (n : ℕ) → n < 2 ^ 128 → mask (flags n) ≡ n
mask_flags n small =
    same_from_bits_below 128 (mask (flags n)) n (small_at (mask (flags n)) (length (flags n)) (mask_small (flags n)) (flags_long n)) small
    (λ i l. mask_bit (flags n) i ∙ ap (λ b. cond b 1 0) (flag_at n i l) ∙ as_bit (bit_at n i) (bit_at-lt n i))
