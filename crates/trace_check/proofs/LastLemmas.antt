-- No front of the lines beyond what was passed before a wrong line is a legal trace.
use Rattle.std.proofs.Common.{◌≡◌, ℕ, suc, ◌⊎◌, List, [], ◌∷◌, ◌++◌, get_or, drop, inl, inr, refl, sym, ap, subst, ◌∙◌, arith, append_assoc}
use Rattle.std.proofs.Common.{append-nil}
use Rattle.std.specs.List.{All}
use Rattle.std.proofs.lemmas.Grind.{flat_map-append}
use Rattle.line_io.specs.Lines.{HasLines, IsUnbroken, joined, unended, with_newline}
use Rattle.trace_walk.specs.Verdict.{Fails, IsLegal, IsWrongAt}
use Rattle.trace_walk.specs.Walk.{NoneEnds}
use Rattle.trace_walk.proofs.BeginLemmas.{joined_none}
use Rattle.trace_walk.proofs.WalkingLemmas.{first_line, only_line}

-- ---- an input has one list of lines

one_by : (bytes last : List ℕ) (front lines others : List (List ℕ)) → All IsUnbroken front → IsUnbroken last →
    bytes ≡ joined front ++ last → lines ≡ front ++ unended last → HasLines bytes others → lines ≡ others
one_by bytes last [] lines others all whole text is h =
    is ∙ sym (only_line last others whole (subst (λ (t : List ℕ). HasLines t others) text h))
one_by bytes last (line ∷ front) lines others all whole text is h =
    let split : bytes ≡ with_newline line ++ (joined front ++ last) = text ∙ append_assoc (with_newline line) (joined front) last in
    let f = first_line line (joined front ++ last) others (all 0 line (omega arith)) (subst (λ (t : List ℕ). HasLines t others) split h) in
    let rest : front ++ unended last ≡ f.0 = one_by (joined front ++ last) last front (front ++ unended last) f.0
    (λ k d lt. all (suc k) d (omega (arith, lt))) whole refl refl f.2 in
    is ∙ ap (λ (l : List (List ℕ)). line ∷ l) rest ∙ sym f.1

lines_are_one : (bytes : List ℕ) (lines others : List (List ℕ)) → HasLines bytes lines → HasLines bytes others → lines ≡ others
lines_are_one bytes lines others g h = one_by bytes g.last g.front lines others g.unbroken g.unbroken_last g.text g.all h

-- ---- two fronts of one list

-- the first is no longer, or the second is shorter
abbrev Compared : (a b c d : List (List ℕ)) → Type 0
Compared a b c d = ((k : List (List ℕ)) × (c ≡ a ++ k)) ⊎ ((x : List ℕ) × (k : List (List ℕ)) × (a ≡ c ++ x ∷ k) × (d ≡ x ∷ (k ++ b)))

compared_on : (x y : List ℕ) (a b c d : List (List ℕ)) → x ≡ y → Compared a b c d → Compared (x ∷ a) b (y ∷ c) d
compared_on x y a b c d e (inl k) = inl (k.0, ap (λ (l : List (List ℕ)). y ∷ l) k.1 ∙ ap (λ (z : List ℕ). z ∷ (a ++ k.0)) (sym e))
compared_on x y a b c d e (inr k) = inr (k.0, k.1, ap (λ (l : List (List ℕ)). x ∷ l) k.2 ∙ ap (λ (z : List ℕ). z ∷ (c ++ k.0 ∷ k.1)) e, k.3)

compared : (a b c d : List (List ℕ)) → a ++ b ≡ c ++ d → Compared a b c d
compared [] b c d e = inl (c, refl)
compared (x ∷ a) b [] d e = inr (x, a, refl, sym e)
compared (x ∷ a) b (y ∷ c) d e = compared_on x y a b c d (ap (λ (l : List (List ℕ)). get_or l 0 []) e) (compared a b c d (ap (drop 1) e))

-- ---- after the start

longer_by : (start front : List ℕ) (before more left first rest : List (List ℕ)) (n : ℕ) → start ≡ joined before → front ≡ joined first →
    NoneEnds start front → Fails front rest → IsLegal (joined (before ++ more)) n →
    Compared (before ++ more) left first rest → more ≡ []
longer_by start front before more left first rest n is past none fails legal (inl k) =
    let text : joined (before ++ more) ≡ start ++ joined more =
    flat_map-append with_newline before more ∙ ap (λ (l : List ℕ). l ++ joined more) (sym is) in
    let split : front ≡ (start ++ joined more) ++ joined k.0 =
    past ∙ ap (λ (l : List (List ℕ)). joined l) k.1 ∙ flat_map-append with_newline (before ++ more) k.0 ∙
    ap (λ (l : List ℕ). l ++ joined k.0) text in
    joined_none more (sym (none (joined more) (joined k.0) n split (subst (λ (l : List ℕ). IsLegal l n) text legal)))
longer_by start front before more left first rest n is past none fails legal (inr k) =
    let stops : Fails front (k.0 ∷ (k.1 ++ left)) = subst (Fails front) k.3 fails in
    let text : joined (before ++ more) ≡ (front ++ joined (k.0 ∷ [])) ++ joined k.1 =
    ap (λ (l : List (List ℕ)). joined l) k.2 ∙ flat_map-append with_newline first (k.0 ∷ k.1) ∙
    ap (λ (l : List ℕ). l ++ (with_newline k.0 ++ joined k.1)) (sym past)
    ∙ sym (append_assoc front (with_newline k.0) (joined k.1)) ∙
    ap (λ (l : List ℕ). (front ++ l) ++ joined k.1) (sym (append-nil (with_newline k.0))) in
    absurd (stops (joined k.1, n, subst (λ (l : List ℕ). IsLegal l n) text legal))

-- no front of the lines beyond it is a legal trace
pub none_longer : (bytes start front : List ℕ) (number : ℕ) (before after : List (List ℕ)) → HasLines bytes (before ++ after) →
    start ≡ joined before → IsWrongAt bytes number front → NoneEnds start front →
    (more left : List (List ℕ)) (n : ℕ) → after ≡ more ++ left → IsLegal (joined (before ++ more)) n → more ≡ []
none_longer bytes start front number before after lines is wrong none more left n split legal =
    let same : (before ++ more) ++ left ≡ wrong.before ++ wrong.rest =
    append_assoc before more left ∙ ap (λ (l : List (List ℕ)). before ++ l) (sym split) ∙
    lines_are_one bytes (before ++ after) (wrong.before ++ wrong.rest) lines wrong.lines in
    longer_by start front before more left wrong.before wrong.rest n is wrong.past none wrong.fails legal
    (compared (before ++ more) left wrong.before wrong.rest same)
