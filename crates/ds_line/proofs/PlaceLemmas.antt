-- A fault has one place.
use Rattle.std.proofs.Common.{◌≡◌, ℕ, zero, suc, ◌<◌, ◌≤◌, inl, inr, List, [], ◌∷◌, length, refl, sym, ap, subst, ◌∙◌, arith}
use Rattle.std.proofs.lemmas.Bool.{cases_lt}
use Rattle.ds_names.specs.Run.{Begins}
use Rattle.ds_entry.specs.Change.{IsChange}
use Rattle.ds_line.specs.Part.{Class, run_of, Part}
use Rattle.ds_line.specs.Spelling.{change_parts}
use Rattle.ds_line.specs.FaultPlace.{Stand, StopsAt, IsFaultPlace}
use Rattle.ds_line.proofs.PartLemmas.{IsText, part_one}
use Rattle.ds_line.proofs.ApartLemmas.{AllTexts, Alike, changes_alike, change_texts}

-- The classes are equal as long as the texts are and both lists have more parts.
abbrev pub Agree : List Part → List Part → Type 0
Agree [] qs = Unit {0}
Agree (p ∷ ps) [] = Unit {0}
Agree (p ∷ ps) (q ∷ qs) = (p.class ≡ q.class) × (p.text ≡ q.text → Agree ps qs)

pub alike_agree : (ps qs : List Part) → Alike ps qs → Agree ps qs
alike_agree [] qs alike = tt
alike_agree (p ∷ ps) [] alike = tt
alike_agree (p ∷ ps) (q ∷ qs) alike = (alike.0, λ same. alike_agree ps qs (alike.1 same))

-- After equally many parts at one front, the rest is the same.
pub same_rest : (count : ℕ) (ps qs : List Part) (bytes r s : List ℕ) → AllTexts ps → AllTexts qs → Agree ps qs → Stand count ps bytes r →
    Stand count qs bytes s → r ≡ s
same_rest zero ps qs bytes r s texts_p texts_q agree stand_p stand_q = sym stand_p ∙ stand_q
same_rest (suc count) [] qs bytes r s texts_p texts_q agree stand_p stand_q = absurd stand_p
same_rest (suc count) (p ∷ ps) [] bytes r s texts_p texts_q agree stand_p stand_q = absurd stand_q
same_rest (suc count) (p ∷ ps) (q ∷ qs) bytes r s texts_p texts_q agree stand_p stand_q =
    let one = part_one q.class bytes p.text q.text stand_p.0 stand_q.0 (subst (λ (c : Class). IsText c p.text) agree.0 texts_p.0) texts_q.0
    (subst (λ (c : Class). Begins (run_of c) bytes p.text stand_p.0) agree.0 stand_p.1) stand_q.1 in
    same_rest count ps qs stand_q.0 r s texts_p.1 texts_q.1 (agree.1 one.0) (subst (λ (x : List ℕ). Stand count ps x r) one.1 stand_p.2)
    stand_q.2

-- Fewer parts are there too.
pub fewer : (j k : ℕ) (parts : List Part) (bytes rest : List ℕ) → j ≤ k → Stand k parts bytes rest →
    (after : List ℕ) × Stand j parts bytes after
fewer zero k parts bytes rest le h = (bytes, refl)
fewer (suc j) zero parts bytes rest le h = absurd (omega arith)
fewer (suc j) (suc k) [] bytes rest le h = absurd h
fewer (suc j) (suc k) (p ∷ parts) bytes rest le h = let f = fewer j k parts h.0 rest (omega arith) h.2 in (f.0, (h.0, h.1, f.1))

no_more : {T : Type 0} (IsMember : T → Type 0) (parts : T → List Part) (bytes r s : List ℕ) (a : StopsAt IsMember parts bytes r)
    (b : StopsAt IsMember parts bytes s) → a.count < b.count → ⊥
no_more IsMember parts bytes r s a b lt =
    let f = fewer (suc a.count) b.count (parts b.read.member) bytes s (omega arith) b.read.front in
    a.most f.0 (record { member = b.read.member; is = b.read.is; front = f.1 })

-- After equally many parts of two members at one front, the rest is the same.
abbrev pub LeavesOne : {T : Type 0} → (T → Type 0) → (T → List Part) → Type 0
LeavesOne {T} IsMember parts = (m n : T) (count : ℕ) (bytes r s : List ℕ) → IsMember m → IsMember n → Stand count (parts m) bytes r →
    Stand count (parts n) bytes s → r ≡ s

-- what can be read ends at one place, then
same_stop : {T : Type 0} (IsMember : T → Type 0) (parts : T → List Part) → LeavesOne IsMember parts →
    (bytes r s : List ℕ) (a : StopsAt IsMember parts bytes r) (b : StopsAt IsMember parts bytes s) → r ≡ s
same_stop IsMember parts leaves bytes r s a b =
    elim (cases_lt a.count b.count) [
      | inl lt ↦ absurd (no_more IsMember parts bytes r s a b lt)
      | inr le ↦ (elim (cases_lt b.count a.count) [
        | inl gt ↦ absurd (no_more IsMember parts bytes s r b a gt)
        | inr ge ↦
            (let one : a.count ≡ b.count = omega arith in
            leaves a.read.member b.read.member b.count bytes r s a.read.is b.read.is
            (subst (λ (k : ℕ). Stand k (parts a.read.member) bytes r) one a.read.front) b.read.front)
      ])
    ]

-- so a fault has one place
pub one_place_by : {T : Type 0} (IsMember : T → Type 0) (parts : T → List Part) → LeavesOne IsMember parts → (bytes : List ℕ) (p q : ℕ) →
    IsFaultPlace IsMember parts bytes p → IsFaultPlace IsMember parts bytes q → p ≡ q
one_place_by IsMember parts leaves bytes p q a b =
    let same : a.rest ≡ b.rest = same_stop IsMember parts leaves bytes a.rest b.rest a.stops b.stops in
    omega (arith, a.begins, b.begins, ap length same)

-- One place, for members that agree.
pub one_place : {T : Type 0} (IsMember : T → Type 0) (parts : T → List Part) → ((m : T) → IsMember m → AllTexts (parts m)) →
    ((m n : T) → IsMember m → IsMember n → Agree (parts m) (parts n))
    → (bytes : List ℕ) (p q : ℕ) → IsFaultPlace IsMember parts bytes p → IsFaultPlace IsMember parts bytes q → p ≡ q
one_place IsMember parts all agree =
    one_place_by IsMember parts (λ m n count bytes r s is_m is_n a b.
    same_rest count (parts m) (parts n) bytes r s (all m is_m) (all n is_n) (agree m n is_m is_n) a b)

pub one_change_place : (bytes : List ℕ) (p q : ℕ) → IsFaultPlace IsChange change_parts bytes p →
    IsFaultPlace IsChange change_parts bytes q → p ≡ q
one_change_place = one_place IsChange change_parts change_texts
    (λ c d is_c is_d. alike_agree (change_parts c) (change_parts d) (changes_alike c d is_c is_d))
