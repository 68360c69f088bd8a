-- The first place of a byte in a text, and the line at its front.
use Rattle.std.proofs.Common.{◌≡◌, ◌≢◌, ℕ, suc, Bool, true, false, List, [], ◌∷◌, ◌++◌, get_or, drop, refl, sym, ap, ◌∙◌, arith}
use Rattle.std.proofs.Common.{append_assoc}
use Rattle.std.specs.List.{All, list_all}
use Rattle.std.proofs.lemmas.Bool.{false≢true}
use Rattle.std.proofs.lemmas.List.Sums.{AllPass-from_list_all}
use Rattle.line_io.specs.Lines.{EndsLine}
use Rattle.ds_line.proofs.NewlineLemmas.{Unbroken, unbroken_one}

-- two texts without a byte, and what follows it
pub split_same : (stop : ℕ) (a b r s : List ℕ) → All (λ (x : ℕ). x ≢ stop) a → All (λ (x : ℕ). x ≢ stop) b →
    a ++ stop ∷ r ≡ b ++ stop ∷ s → (a ≡ b) × (r ≡ s)
split_same stop [] [] r s na nb e = (refl, ap (drop 1) e)
split_same stop [] (y ∷ b) r s na nb e = absurd (nb 0 0 (omega arith) (sym (ap (λ (l : List ℕ). get_or l 0 0) e)))
split_same stop (x ∷ a) [] r s na nb e = absurd (na 0 0 (omega arith) (ap (λ (l : List ℕ). get_or l 0 0) e))
split_same stop (x ∷ a) (y ∷ b) r s na nb e =
    let one = split_same stop a b r s (λ k d lt. na (suc k) d (omega (arith, lt))) (λ k d lt. nb (suc k) d (omega (arith, lt)))
    (ap (drop 1) e) in
    let head : x ≡ y = ap (λ (l : List ℕ). get_or l 0 0) e in
    (ap (λ (z : ℕ). z ∷ a) head ∙ ap (λ (l : List ℕ). y ∷ l) one.0, one.1)

-- bytes of a sort that doesn't have the byte are without it
pub without : (stop : ℕ) (run : ℕ → Bool) → run stop ≡ false → (bytes : List ℕ) → list_all run bytes ≡ true →
    All (λ (x : ℕ). x ≢ stop) bytes
without stop run not_one bytes all k d lt = λ same.
    false≢true (sym not_one ∙ ap run (sym same) ∙ AllPass-from_list_all run bytes all k d lt)

-- two lines at one front are one
pub lines_one : (a b r s : List ℕ) → EndsLine a → EndsLine b → a ++ r ≡ b ++ s → (a ≡ b) × (r ≡ s)
lines_one a b r s ea eb e =
    let left : a ++ r ≡ ea.front ++ 10 ∷ r = ap (λ (l : List ℕ). l ++ r) ea.parts ∙ append_assoc ea.front (10 ∷ []) r in
    let right : b ++ s ≡ eb.front ++ 10 ∷ s = ap (λ (l : List ℕ). l ++ s) eb.parts ∙ append_assoc eb.front (10 ∷ []) s in
    let one = split_same 10 ea.front eb.front r s ea.none eb.none (sym left ∙ e ∙ right) in
    (ea.parts ∙ ap (λ (l : List ℕ). l ++ 10 ∷ []) one.0 ∙ sym eb.parts, one.1)

pub unbroken_tail : (b : ℕ) (bs : List ℕ) → Unbroken (b ∷ bs) → Unbroken bs
unbroken_tail b bs all k d lt = all (suc k) d (omega (arith, lt))

pub ends_after : (front rest : List ℕ) → Unbroken front → EndsLine rest → EndsLine (front ++ rest)
ends_after [] rest whole e = e
ends_after (b ∷ front) rest whole e =
    let more = ends_after front rest (λ k d lt. whole (suc k) d (omega (arith, lt))) e in
    record {
      front = b ∷ more.front;
      parts = ap (λ (l : List ℕ). b ∷ l) more.parts;
      none =
          unbroken_one b more.front (whole 0 0 (omega arith)) more.none;
    }
