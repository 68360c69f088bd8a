-- Numbers in a line, and the bytes after them.
use Rattle.std.proofs.Common.{◌≡◌, ◌≢◌, ℕ, ◌-◌, ◌<◌, ◌≤◌, ◌^◌, ◌==◌, Bool, true, false, not, List, [], ◌∷◌, ◌++◌, length, take, drop, codes}
use Rattle.std.proofs.Common.{refl, sym, ap, ◌∙◌, arith}
use Rattle.std.specs.Char.{is_ascii_digit}
use Rattle.std.proofs.lemmas.Bool.{false≢true}
use Rattle.std.proofs.lemmas.Bool.Decides.{Decides-eqb}
use Rattle.std.proofs.lemmas.List.{take_all, length-drop}
use Rattle.std.proofs.lemmas.Slice.Eq.{starts_is}
use Rattle.std.specs.Cmp.Lexicographic.{pointwise, pointwise_decides}
use Rattle.std.specs.List.{starts_with}
use Rattle.std.specs.Fmt.{decimal}
use Rattle.ds_names.specs.Run.{Begins}
use Rattle.ds_names.proofs.DecimalLemmas.{decimal_one}
use Rattle.trace_walk.specs.Noroom.{stopped_line}

pub after_byte : (b : ℕ) (r s : List ℕ) → b ∷ r ≡ b ∷ s → r ≡ s
after_byte b r s e = ap (drop 1) e

pub number_begins : (bytes : List ℕ) (n stop : ℕ) (rest : List ℕ) → is_ascii_digit stop ≡ false → bytes ≡ decimal n ++ stop ∷ rest →
    Begins is_ascii_digit bytes (decimal n) (stop ∷ rest)
number_begins bytes n stop rest h e = record { parts = e; ends = h }

-- a number and the byte after it have one reading
pub number_one : (m n stop : ℕ) (r s : List ℕ) → m < 2 ^ 64 → n < 2 ^ 64 → is_ascii_digit stop ≡ false →
    decimal m ++ stop ∷ r ≡ decimal n ++ stop ∷ s → (m ≡ n) × (r ≡ s)
number_one m n stop r s lm ln h e =
    let one = decimal_one (decimal m ++ stop ∷ r) m n (stop ∷ r) (stop ∷ s) lm ln (number_begins (decimal m ++ stop ∷ r) m stop r h refl)
    (number_begins (decimal m ++ stop ∷ r) n stop s h e) in
    (one.0, after_byte stop r s one.1)

-- if another byte follows a number, no number is followed by this byte
pub none_after : (bytes rest : List ℕ) (m stop : ℕ)
    → m < 2 ^ 64 → is_ascii_digit stop ≡ false → Begins is_ascii_digit bytes (decimal m) rest → ((s : List ℕ) → rest ≢ stop ∷ s)
    → (n : ℕ) (s : List ℕ) → n < 2 ^ 64
    → bytes ≢ decimal n ++ stop ∷ s
none_after bytes rest m stop lm h begins none n s ln e =
    none s (decimal_one bytes m n rest (stop ∷ s) lm ln begins (number_begins bytes n stop s h e)).1

-- ---- slices

pub slice_end : (n : ℕ) (xs : List ℕ) → take (length xs - n) (drop n xs) ≡ drop n xs
slice_end n xs = take_all (length xs - n) (drop n xs) (omega (arith, length-drop n xs))

pub some_left : (rest : List ℕ) → false ≡ (length rest == 0) → rest ≢ []
some_left [] e same = false≢true e
some_left (x ∷ xs) e same = omega (arith, ap length same)

-- ---- a literal at the front

-- the line is the literal, and what follows it
pub front_is : (line literal : List ℕ) → true ≡ starts_with ◌==◌ line literal → line ≡ literal ++ drop (length literal) line
front_is line literal e = (starts_is Decides-eqb line literal true e).0 refl

pub marked_is : (line said : List ℕ) (r : Bool) → true ≡ starts_with ◌==◌ line (60 ∷ 32 ∷ []) →
    r ≡ pointwise ◌==◌ (take (length line - 2) (drop 2 line)) said → (r ≡ true → line ≡ 60 ∷ 32 ∷ said) × (line ≡ 60 ∷ 32 ∷ said → r ≡ true)
marked_is line said r e f =
    let same = pointwise_decides Decides-eqb (take (length line - 2) (drop 2 line)) said in (
      λ h. front_is line (60 ∷ 32 ∷ []) e ∙ ap (λ (l : List ℕ). 60 ∷ 32 ∷ l) (sym (slice_end 2 line) ∙ same.0 (sym f ∙ h)),
      λ h. f ∙ same.1 (slice_end 2 line ∙ ap (drop 2) h),
    )

-- `stopped D noroom`, read after its first word
pub stopped_is_there : (line rest : List ℕ) (done : ℕ) → true ≡ starts_with ◌==◌ line (codes "< stopped ") →
    take (length line - 10) (drop 10 line) ≡ decimal done ++ 32 ∷ rest → rest ≡ codes "noroom\n" → line ≡ stopped_line done
stopped_is_there line rest done e f g =
    front_is line (codes "< stopped ") e ∙ ap (λ (l : List ℕ). codes "< stopped " ++ l)
    (sym (slice_end 10 line) ∙ f ∙ ap (λ (l : List ℕ). decimal done ++ 32 ∷ l) g)

pub not_stopped : (line rest : List ℕ) (m : ℕ) → m ≤ 255 → take (length line - 10) (drop 10 line) ≡ decimal m ++ 32 ∷ rest →
    (rest ≡ codes "noroom\n" → ⊥) → (done : ℕ) → done ≤ 255 → line ≢ stopped_line done
not_stopped line rest m few f other done le e =
    other (number_one m done 32 rest (codes "noroom\n") (omega (arith, few)) (omega (arith, le)) refl
    (sym f ∙ slice_end 10 line ∙ ap (drop 10) e)).1

pub not_same : (r s t : List ℕ) → true ≡ not (pointwise ◌==◌ r s) → s ≡ t → r ≡ t → ⊥
not_same r s t e same h =
    let both : pointwise ◌==◌ r s ≡ true = (pointwise_decides Decides-eqb r s).1 (h ∙ sym same) in
    false≢true (sym (e ∙ ap not both))

pub are_same : (r s t : List ℕ) → false ≡ not (pointwise ◌==◌ r s) → s ≡ t → r ≡ t
are_same r s t e same = by_test (pointwise ◌==◌ r s) refl
  where
    by_test : (b : Bool) → pointwise ◌==◌ r s ≡ b → r ≡ t
    by_test true f = (pointwise_decides Decides-eqb r s).0 f ∙ same
    by_test false f = absurd (false≢true (e ∙ ap not f))
