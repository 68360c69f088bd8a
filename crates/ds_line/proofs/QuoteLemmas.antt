-- Bytes begin with one quoted text at most: its closing quote ends it.
use Rattle.std.proofs.Common.{◌≡◌, ◌≢◌, ℕ, ◌==◌, Bool, true, false, ◌⊎◌, inl, inr, List, [], ◌∷◌, ◌++◌, get_or, drop, refl, sym, ap, ◌∙◌}
use Rattle.std.proofs.Common.{append_assoc, arith}
use Rattle.std.proofs.lemmas.Bool.{false≢true, eqb-true}
use Rattle.ds_line.specs.Spelling.{escaped_byte, escaped, quoted}

-- A byte that is escaped, or one that stands for itself.
abbrev Shape : ℕ → Type 0
Shape b = ((escaped_byte b ≡ 92 ∷ b ∷ []) × ((b ≡ 34) ⊎ (b ≡ 92))) ⊎ ((escaped_byte b ≡ b ∷ []) × (b ≢ 34) × (b ≢ 92))

shape_by : (b : ℕ) (p q : Bool) → (b == 34) ≡ p → (b == 92) ≡ q → Shape b
shape_by b true q is_p is_q = inl (rw is_p refl, inl (eqb-true b 34 is_p))
shape_by b false true is_p is_q = inl (rw (is_p, is_q) refl, inr (eqb-true b 92 is_q))
shape_by b false false is_p is_q =
    inr (
      rw (is_p, is_q) refl,
      (λ e. let t : (b == 34) ≡ true = rw e refl in false≢true (sym is_p ∙ t)),
      (λ e. let t : (b == 92) ≡ true = rw e refl in false≢true (sym is_q ∙ t)),
    )

pub shape : (b : ℕ) → Shape b
shape b = shape_by b (b == 34) (b == 92) refl refl

first_same : (x y : ℕ) (r s : List ℕ) → x ∷ r ≡ y ∷ s → (x ≡ y) × (r ≡ s)
first_same x y r s e = (ap (λ (l : List ℕ). get_or l 0 0) e, ap (drop 1) e)

-- no byte is written with a quote first
pub never_quote : (b : ℕ) (r s : List ℕ) → 34 ∷ r ≡ escaped_byte b ++ s → ⊥
never_quote b r s e =
    elim (shape b) [
      | inl x ↦ (let f = first_same 34 92 r (b ∷ s) (e ∙ ap (λ (t : List ℕ). t ++ s) x.0) in omega (arith, f.0))
      | inr x ↦ (let f = first_same 34 b r s (e ∙ ap (λ (t : List ℕ). t ++ s) x.0) in x.1 (sym f.0))
    ]

-- Two bytes that are written at one front are equal.
pub byte_one : (b c : ℕ) (r s : List ℕ) → escaped_byte b ++ r ≡ escaped_byte c ++ s → (b ≡ c) × (r ≡ s)
byte_one b c r s e =
    elim (shape b) [
      | inl x ↦ (elim (shape c) [
        | inl y ↦ (let f = first_same 92 92 (b ∷ r) (c ∷ s)
            (ap (λ (t : List ℕ). t ++ r) (sym x.0) ∙ e ∙ ap (λ (t : List ℕ). t ++ s) y.0) in first_same b c r s f.1)
        | inr y ↦ (let f = first_same 92 c (b ∷ r) s (ap (λ (t : List ℕ). t ++ r) (sym x.0) ∙ e ∙ ap (λ (t : List ℕ). t ++ s) y.0) in
            absurd (y.2 (sym f.0)))
      ])
      | inr x ↦ (elim (shape c) [
        | inl y ↦ (let f = first_same b 92 r (c ∷ s) (ap (λ (t : List ℕ). t ++ r) (sym x.0) ∙ e ∙ ap (λ (t : List ℕ). t ++ s) y.0) in
            absurd (x.2 f.0))
        | inr y ↦ first_same b c r s (ap (λ (t : List ℕ). t ++ r) (sym x.0) ∙ e ∙ ap (λ (t : List ℕ). t ++ s) y.0)
      ])
    ]

-- Where the bytes of a front are written, a quoted text there ends with them, or continues after them.
abbrev pub GoesOn : List ℕ → List ℕ → List ℕ → List ℕ → Type 0
GoesOn done text r s =
    ((text ≡ done) × (r ≡ 34 ∷ s)) ⊎ ((b : ℕ) × (more : List ℕ) × (text ≡ done ++ b ∷ more) ×
    (r ≡ escaped_byte b ++ (escaped more ++ 34 ∷ s)))

pub goes_on : (done text r s : List ℕ) → escaped done ++ r ≡ escaped text ++ 34 ∷ s → GoesOn done text r s
goes_on [] [] r s e = inl (refl, e)
goes_on [] (c ∷ text) r s e = inr (c, text, refl, e ∙ append_assoc (escaped_byte c) (escaped text) (34 ∷ s))
goes_on (b ∷ done) [] r s e = absurd (never_quote b s (escaped done ++ r) (sym e ∙ append_assoc (escaped_byte b) (escaped done) r))
goes_on (b ∷ done) (c ∷ text) r s e =
    let one = byte_one b c (escaped done ++ r) (escaped text ++ 34 ∷ s)
    (sym (append_assoc (escaped_byte b) (escaped done) r) ∙ e ∙ append_assoc (escaped_byte c) (escaped text) (34 ∷ s)) in
    elim (goes_on done text r s one.1) [
      | inl x ↦ inl (ap (λ (t : List ℕ). c ∷ t) x.0 ∙ ap (λ (h : ℕ). h ∷ done) (sym one.0), x.1)
      | inr y ↦ inr (y.0, y.1, ap (λ (t : List ℕ). c ∷ t) y.2 ∙ ap (λ (h : ℕ). h ∷ (done ++ y.0 ∷ y.1)) (sym one.0), y.3)
    ]

-- After its first quote, a written text has its own bytes.
pub unquoted : (text r : List ℕ) → quoted text ++ r ≡ 34 ∷ (escaped text ++ 34 ∷ r)
unquoted text r = ap (λ (t : List ℕ). 34 ∷ t) (append_assoc (escaped text) (34 ∷ []) r)

-- Two quoted texts at one front are equal.
pub quoted_one : (t u r s : List ℕ) → quoted t ++ r ≡ quoted u ++ s → (t ≡ u) × (r ≡ s)
quoted_one t u r s e =
    let e1 : escaped t ++ 34 ∷ r ≡ escaped u ++ 34 ∷ s = ap (drop 1) (sym (unquoted t r) ∙ e ∙ unquoted u s) in
    elim (goes_on t u (34 ∷ r) s e1) [
      | inl x ↦ (sym x.0, ap (drop 1) x.1)
      | inr y ↦ absurd (never_quote y.0 r (escaped y.1 ++ 34 ∷ s) y.3)
    ]
