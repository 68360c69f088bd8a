-- Sums of rows, and the rows of the account.
use Rattle.std.proofs.Common.{◌≡◌, ℕ, zero, suc, ◌+◌, ◌*◌, ◌/◌, ◌%◌, ◌^◌, ◌≤◌, ◌<◌, ◌==◌, Bool, List, [], ◌∷◌, ◌++◌, length, set, get_or}
use Rattle.std.proofs.Common.{take}
use Rattle.std.proofs.Common.{refl, ap, sym, ◌∙◌, subst, arith, get_or-set_same, get_or-set_other, length-set, length-append, bit_and}
use Rattle.std.specs.Prelude.{if◌then◌else◌, slice_index}
use Rattle.std.specs.Int.{bit_at}
use Rattle.std.proofs.lemmas.Nat.Bits.{bit_at-lt, shr_and_one}
use mathlib.Core.Logic.{dite}
use native.Mathlib.Decide.{ℕ_discrete}
use lib.ListN.{get_elem?}
use Rattle.atomic_table.proofs.Lists.{at_longer}
use Rattle.desk_rule.specs.History.{total_of}
use Rattle.desk_rule.proofs.ListLemmas.{at_pushed}
use Rattle.desk.specs.declared.account.Row.{Row}
use Rattle.desk.specs.Closing.{IsRow, pending_bit, Sums, Wraps}
use Rattle.desk.specs.Tally.{row_at, Tallies}

-- the first n rows were added
pub record AddedBelow (old rows : List ℕ) (n : ℕ) (new : List ℕ) : Type 0 where
  pub long : length new ≡ length old
  pub done : (k : ℕ) → k < n → slice_index new k ≡ (slice_index old k + slice_index rows k) % 2 ^ 64
  pub undone : (k : ℕ) → n ≤ k → slice_index new k ≡ slice_index old k

pub added_none : (old rows : List ℕ) → AddedBelow old rows 0 old
added_none old rows = record { long = refl; done = λ k h. absurd (omega arith); undone = λ k _. refl }

pub added_more : (old rows new : List ℕ) (n n' x : ℕ) → n < 128 → length old ≡ 128 → n' ≡ n + 1 →
    x ≡ (slice_index new n + slice_index rows n) % 2 ^ 64 → AddedBelow old rows n new → AddedBelow old rows n' (set new n x)
added_more old rows new n n' x low long next is a =
    let wide : n < length new = (let e = a.long in omega arith) in record {
      long = length-set new n x ∙ a.long;
      done = λ k h. dite (ℕ_discrete k n)
          (λ here. ap (λ j. get_or (set new n x) j 0) here ∙
          (get_or-set_same new n x 0 wide ∙ (is ∙ (ap (λ y. (y + slice_index rows n) % 2 ^ 64) (a.undone n (omega arith)) ∙
          ap (λ j. (slice_index old j + slice_index rows j) % 2 ^ 64) (sym here)))))
          (λ other. get_or-set_other new n k x 0 (λ e. other (omega arith)) ∙ a.done k (omega arith));
      undone = λ k h. get_or-set_other new n k x 0 (λ e. absurd (omega arith)) ∙ a.undone k (omega arith);
    }

pub added_all : (old rows new : List ℕ) → AddedBelow old rows 128 new → Sums old rows new
added_all old rows new a = a.done

pub wraps_more : (rows more rows' : List ℕ) (f g h : ℕ → ℕ → ℕ) → Wraps rows f → Tallies more g → Sums rows more rows' →
    ((s b : ℕ) → h s b ≡ f s b + g s b) → Wraps rows' h
wraps_more rows more rows' f g h w t sums is s b hs hb =
    let x : ℕ = f s b in let y : ℕ = g s b in let z : ℕ = h s b in
    let e : z ≡ x + y = is s b in let p : row_at rows s b ≡ x % 2 ^ 64 = w s b hs hb in let q : row_at more s b ≡ y = t s b hs hb in
    let r : row_at rows' s b ≡ (row_at rows s b + row_at more s b) % 2 ^ 64 = sums (8 * s + b) (omega arith) in
    r ∙ ((λ i. (p i + q i) % 2 ^ 64) ∙ (omega arith ∙ ap (λ n. n % 2 ^ 64) (sym e)))

-- rows that count f also count it modulo 2^64
pub wraps_first : (rows : List ℕ) (f : ℕ → ℕ → ℕ) → Tallies rows f → ((k : ℕ) → slice_index rows k < 2 ^ 64) → Wraps rows f
wraps_first rows f t low s b hs hb =
    let x : ℕ = row_at rows s b in let y : ℕ = f s b in
    let is : x ≡ y = t s b hs hb in let fits : x < 2 ^ 64 = low (8 * s + b) in omega arith

flag : (n : ℕ) → n < 2 → (if n == 1 then 1 else 0) ≡ n
flag zero h = refl
flag (suc zero) h = refl
flag (suc (suc n)) h = absurd (omega arith)

-- the first n rows are filled
pub record FilledBelow (words raises takes : List ℕ) (n : ℕ) (rows : List Row) : Type 0 where
  pub long : length rows ≡ n
  pub each : (k : ℕ) → k < n → IsRow words raises takes rows k

pub filled_none : (words raises takes : List ℕ) (rows : List Row) → rows ≡ [] → FilledBelow words raises takes 0 rows
filled_none words raises takes rows e = record { long = ap length e; each = λ k h. absurd (omega arith) }

pub filled_more : (words raises takes : List ℕ) (n n' : ℕ) (rows rows' : List Row) → n' ≡ n + 1
    → rows' ≡ rows ++ record
    { raises = slice_index raises n; takes = slice_index takes n; pending = bit_and (slice_index words (n / 8) / 2 ^ (n % 8)) 1 == 1 } ∷ []
    →
    FilledBelow words raises takes n rows → FilledBelow words raises takes n' rows'
filled_more words raises takes n n' rows rows' next is f =
    let word : ℕ = slice_index words (n / 8) in
    let p : Bool = bit_and (word / 2 ^ (n % 8)) 1 == 1 in
    let r : Row = record { raises = slice_index raises n; takes = slice_index takes n; pending = p } in record {
      long = ap length is ∙ (length-append rows (r ∷ []) ∙ (let l = f.long in omega arith));
      each = λ k h. dite (ℕ_discrete k n)
          (λ here.
          let bit : pending_bit r ≡ bit_at word (n % 8) =
          ap (λ m. if (m == 1) then 1 else 0) (shr_and_one word (n % 8)) ∙ flag (bit_at word (n % 8)) (bit_at-lt word (n % 8)) in
          subst (λ m. IsRow words raises takes rows' m) (sym here)
          (r, ap (λ l. get_elem? l n) is ∙ (ap (λ m. get_elem? (rows ++ r ∷ []) m) (sym f.long) ∙ at_pushed rows r), refl, refl, bit))
          (λ other. let e = f.each k (omega arith) in (e.0, ap (λ l. get_elem? l k) is ∙ at_longer rows (r ∷ []) k e.0 e.1, e.2, e.3, e.4));
    }

-- a sum over the first elements of a list
pub total_all : {A : Type 0} (f : A → ℕ) (l : List A) (k : ℕ) → k ≡ length l → total_of f (take k l) ≡ total_of f l
total_all f [] k e = ap (λ n. total_of f (take n [])) e
total_all f (x ∷ xs) k e = ap (λ n. total_of f (take n (x ∷ xs))) e ∙ (let h = total_all f xs (length xs) refl in omega arith)

pub total_next : {A : Type 0} (f : A → ℕ) (l : List A) (k : ℕ) (x : A) → k < length l → x ≡ get_or l k x →
    total_of f (take (k + 1) l) ≡ total_of f (take k l) + f x
total_next f [] k x h e = absurd (omega arith)
total_next f (y ∷ ys) zero x h e = let g : f x ≡ f y = ap f e in omega arith
total_next f (y ∷ ys) (suc k) x h e = let g = total_next f ys k x (omega arith) e in let n : suc k + 1 ≡ suc (k + 1) = omega arith in
    ap (λ j. total_of f (take j (y ∷ ys))) n ∙ omega arith
