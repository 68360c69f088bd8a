-- Every input has lines.
use Rattle.std.proofs.Common.{◌≡◌, ◌≢◌, ℕ, suc, ◌==◌, Bool, true, false, List, [], ◌∷◌, ◌++◌, refl, sym, ap, ◌∙◌, arith}
use Rattle.std.specs.List.{All}
use Rattle.std.proofs.lemmas.Bool.{eqb-true, eq-eqb, false≢true}
use Rattle.std.proofs.lemmas.List.Elements.{All-nil, All-cons}
use Rattle.line_io.specs.Lines.{IsUnbroken, joined, unended, InputsHaveLines}
use Rattle.line_io.proofs.NewlineLemmas.{unbroken_none, unbroken_more}

All-head : (line : List ℕ) (front : List (List ℕ)) → All IsUnbroken (line ∷ front) → IsUnbroken line
All-head line front all = all 0 [] (omega arith)

All-tail : (line : List ℕ) (front : List (List ℕ)) → All IsUnbroken (line ∷ front) → All IsUnbroken front
All-tail line front all k d lt = all (suc k) d (omega (arith, lt))

-- Whole lines, and what follows them.
record Parts (input : List ℕ) : Type 0 where
  front : List (List ℕ)
  last : List ℕ
  text : input ≡ joined front ++ last
  unbroken : All IsUnbroken front
  unbroken_last : IsUnbroken last

-- a newline ends an empty line
at_newline : (b : ℕ) (bs : List ℕ) → b ≡ 10 → Parts bs → Parts (b ∷ bs)
at_newline b bs same p =
    record {
      front = [] ∷ p.front;
      last = p.last;
      text = ap (λ (x : ℕ). x ∷ bs) same ∙ ap (λ (l : List ℕ). 10 ∷ l) p.text;
      unbroken = All-cons IsUnbroken [] p.front unbroken_none p.unbroken;
      unbroken_last = p.unbroken_last;
    }

-- another byte belongs to the first line
at_other : (b : ℕ) (bs : List ℕ) (front : List (List ℕ)) (last : List ℕ) → b ≢ 10 → bs ≡ joined front ++ last → All IsUnbroken front →
    IsUnbroken last → Parts (b ∷ bs)
at_other b bs [] last other text whole whole_last =
    record {
      front = [];
      last = b ∷ last;
      text = ap (λ (l : List ℕ). b ∷ l) text;
      unbroken = All-nil IsUnbroken;
      unbroken_last =
          unbroken_more b last other whole_last;
    }
at_other b bs (line ∷ front) last other text whole whole_last =
    record {
      front = (b ∷ line) ∷ front;
      last = last;
      text = ap (λ (l : List ℕ). b ∷ l) text;
      unbroken = All-cons IsUnbroken (b ∷ line) front (unbroken_more b line other (All-head line front whole)) (All-tail line front whole);
      unbroken_last = whole_last;
    }

by_test : (b : ℕ) (bs : List ℕ) (test : Bool) → (b == 10) ≡ test → Parts bs → Parts (b ∷ bs)
by_test b bs true is p = at_newline b bs (eqb-true b 10 is) p
by_test b bs false is p = at_other b bs p.front p.last (λ same. false≢true (sym is ∙ eq-eqb b 10 same)) p.text p.unbroken p.unbroken_last

parts : (input : List ℕ) → Parts input
parts [] = record { front = []; last = []; text = refl; unbroken = All-nil IsUnbroken; unbroken_last = unbroken_none }
parts (b ∷ bs) = by_test b bs (b == 10) refl (parts bs)

pub has_lines : InputsHaveLines
has_lines input =
    let p = parts input in (
      p.front ++ unended p.last,
      record {
        front = p.front;
        last = p.last;
        text = p.text;
        unbroken = p.unbroken;
        unbroken_last =
            p.unbroken_last;
        all = refl;
      },
    )
