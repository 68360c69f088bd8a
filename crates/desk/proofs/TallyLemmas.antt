-- Counting bits in rows.
use Rattle.std.proofs.Common.{◌≡◌, ◌≢◌, ℕ, ◌+◌, ◌-◌, ◌*◌, ◌^◌, ◌≤◌, ◌<◌, List, length, set, get_or, cond, refl, ap, sym, ◌∙◌, arith, eq-eqb}
use Rattle.std.proofs.Common.{ne_eqb, get_or-set_same, get_or-set_other, length-set, bit_and, replicate, w64}
use Rattle.std.specs.Int.{bit_at, bit_not}
use Rattle.std.proofs.lemmas.Nat.Bits.{bit_at_and, bit_at_not, bit_at-lt}
use mathlib.Core.Logic.{dite}
use native.Mathlib.Decide.{ℕ_discrete}
use Rattle.desk.specs.Tally.{Counts, row_at, Tallies}
use Rattle.desk_rule.proofs.TableLemmas.{zero_at}

-- the bits of one server below k are counted
pub record CountsBelow (old : List ℕ) (server bits k : ℕ) (new : List ℕ) : Type 0 where
  pub long : length new ≡ length old
  pub others : (s b : ℕ) → s < 16 → b < 8 → s ≢ server → row_at new s b ≡ row_at old s b
  pub done : (b : ℕ) → b < 8 → b < k → row_at new server b ≡ row_at old server b + bit_at bits b
  pub undone : (b : ℕ) → b < 8 → k ≤ b → row_at new server b ≡ row_at old server b

pub counts_none : (old : List ℕ) (server bits : ℕ) → CountsBelow old server bits 0 old
counts_none old server bits =
    record { long = refl; others = λ s b _ _ _. refl; done = λ b _ h. absurd (omega arith); undone = λ b _ _. refl }

pub counts_more : (old new : List ℕ) (server bits k k' x : ℕ) → server < 16 → k < 8 → length old ≡ 128 → k' ≡ k + 1 →
    x ≡ row_at new server k + bit_at bits k →
    CountsBelow old server bits k new → CountsBelow old server bits k' (set new (8 * server + k) x)
counts_more old new server bits k k' x small low long next is c =
    let at : ℕ = 8 * server + k in
    let wide : at < length new = (let e = c.long in omega arith) in record {
      long = length-set new at x ∙ c.long;
      others = λ s b hs hb apart. get_or-set_other new at (8 * s + b) x 0 (λ e. apart (omega arith)) ∙ c.others s b hs hb apart;
      done = λ b hb below. dite (ℕ_discrete b k)
          (λ here. ap (λ j. get_or (set new at x) (8 * server + j) 0) here
          ∙ (get_or-set_same new at x 0 wide ∙ (is ∙ (λ i. c.undone k low (omega arith) i + bit_at bits k) ∙
          ap (λ j. row_at old server j + bit_at bits j) (sym here))))
          (λ other. get_or-set_other new at (8 * server + b) x 0 (λ e. other (omega arith)) ∙ c.done b hb (omega arith));
      undone = λ b hb above. get_or-set_other new at (8 * server + b) x 0 (λ e. absurd (omega arith)) ∙ c.undone b hb (omega arith);
    }

pub counts_all : (old new : List ℕ) (server bits : ℕ) → CountsBelow old server bits 8 new → Counts old server bits new
counts_all old new server bits c s b hs hb = dite (ℕ_discrete s server)
    (λ here. ap (λ t. row_at new t b) here ∙ (c.done b hb hb ∙
    (ap (λ t. row_at old t b + bit_at bits b) (sym here) ∙
    ap (λ t. row_at old s b + cond t (bit_at bits b) 0) (sym (eq-eqb s server here)))))
    (λ other. c.others s b hs hb other ∙ (omega arith ∙ ap (λ t. row_at old s b + cond t (bit_at bits b) 0) (sym (ne_eqb s server other))))

pub no_rows : (k : ℕ) → let z : ℕ = 0 in get_or (replicate 128 z) k z ≡ z
no_rows k = zero_at 128 k

pub new_rows : (f : ℕ → ℕ → ℕ) → ((s b : ℕ) → f s b ≡ 0) → let z : ℕ = 0 in Tallies (replicate 128 z) f
new_rows f none s b _ _ = no_rows (8 * s + b) ∙ sym (none s b)

-- the bits that a post raises
pub fresh_bit : (bits found b : ℕ) → found < 2 ^ 64 → b < 8 → bit_at (bit_and bits (bit_not w64 found)) b ≡ bit_at bits b - bit_at found b
fresh_bit bits found b wide small = let a = bit_at_and bits (bit_not w64 found) b in let n = bit_at_not w64 found b wide (omega arith) in
    let x = bit_at-lt bits b in let y = bit_at-lt found b in omega arith
