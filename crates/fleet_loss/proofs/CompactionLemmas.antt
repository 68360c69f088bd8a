-- A compaction trims what its bridge read.
use Rattle.std.proofs.Common.{◌≡◌, ◌⊎◌, ◌<◌, ◌+◌, ◌==◌, ℕ, Bool, true, List, [], ◌∷◌, ◌++◌, take, refl, sym, ap, ◌∙◌, subst, inl, inr}
use Rattle.std.proofs.Common.{arith}
use Rattle.std.specs.List.{Contains, list_any}
use Rattle.std.proofs.lemmas.Bool.{eqb-true, or_cases}
use Rattle.std.proofs.lemmas.List.Elements.{Contains-append_right}
use Rattle.ds_entry.proofs.Members.{Contains-nil, Contains-head, Contains-tail, Contains-single, Contains-cons, Contains-from_take}
use Rattle.ds_entry.proofs.Members.{Contains-from_drop, Contains-from_list_any}
use Rattle.fleet_rule.specs.Covered.{Covers}
use Rattle.fleet_rule.specs.Server.{Server}
use Rattle.fleet_loss.specs.Stream.{Stream}
use Rattle.fleet_loss.specs.Compaction.{has_entry, last_of, Shows, CompactionsTrimWhatWasRead, GeneratedIsNotEnough}

-- The lists before and after an element.
Parts : List ℕ → ℕ → Type 0
Parts ids p = (front : List ℕ) × (back : List ℕ) × (ids ≡ front ++ p ∷ back)

split_at : (ids : List ℕ) (p : ℕ) → Contains ids p → Parts ids p
unfolding Parts
split_at [] p h = absurd (Contains-nil p h)
split_at (q ∷ qs) p h = at (Contains-cons q qs p h) (split_at qs p)
  where
    at : (p ≡ q) ⊎ Contains qs p → (Contains qs p → Parts qs p) → Parts (q ∷ qs) p
    at (inl e) rest = ([], qs, ap (λ (x : ℕ). x ∷ qs) (sym e))
    at (inr k) rest = let r = rest k in (q ∷ r.0, r.1, ap (λ (xs : List ℕ). q ∷ xs) r.2)

last_among : (n p : ℕ) (ids : List ℕ) → last_of n ids ≡ p → (n ≡ p) ⊎ Contains ids p
last_among n p [] e = inl e
last_among n p (q ∷ qs) e = elim (last_among q p qs e) [
  | inl f ↦ inr (subst (λ (x : ℕ). Contains (q ∷ qs) x) f (Contains-head q qs))
  | inr h ↦ inr (Contains-tail q qs p h)
]

inside : (xs ys : List ℕ) (p : ℕ) → Contains (xs ++ p ∷ ys) p
inside xs ys p = Contains-append_right xs (p ∷ ys) p (Contains-head p ys)

module _ {I : Type 0} where
  -- The entry that was found is one of the log's.
  found : (ids : List ℕ) (s : Server I) (t : Stream) (p : ℕ) → Shows ids s t → 0 < p → has_entry t p ≡ true → Contains ids p
  found ids s t p h l e = elim (or_cases (t.end == p) (list_any (λ id. id == p) t.entries) e) [
    | inl f ↦ elim (last_among 0 p (take s.end ids) (sym h.end ∙ eqb-true t.end p f)) [
      | inl z ↦ absurd (omega arith)
      | inr k ↦ Contains-from_take s.end ids p k
    ]
    | inr f ↦ let id = Contains-from_list_any (λ (id : ℕ). id == p) t.entries f in
        Contains-from_drop s.trimmed ids p
        (subst (λ (xs : List ℕ). Contains xs p) h.entries (subst (λ (x : ℕ). Contains t.entries x) (eqb-true id.0 p id.2) id.1))
  ]

module _ {I : Type 0} (covers : I → I → Bool) where
  pub compactions_trim_what_was_read : CompactionsTrimWhatWasRead covers
  unfolding Parts
  compactions_trim_what_was_read s t ids others front back shown p snapshot h premise l e c f =
      let there = split_at others p (found others t shown p h l f) in
      let same = premise.alike p front back there.0 there.1 e there.2 in (
        subst (λ (xs : List I). Covers covers snapshot xs)
            (sym same.1 ∙ ap (λ (n : ℕ). take (n + 1) t.log) same.0) c,
        (there.0, there.1, there.2, same.0),
      )

  apart : (p : ℕ) → Contains (5 ∷ []) p → Contains (2 ∷ 6 ∷ []) p → ⊥
  apart p h k =
      let e = Contains-single 5 p h in
      elim (Contains-cons 2 (6 ∷ []) p k) [ inl f ↦ omega arith | inr q ↦ let g = Contains-single 6 p q in omega arith ]

  pub generated_is_not_enough : GeneratedIsNotEnough covers
  generated_is_not_enough i j = (
    record { history = 1; log = i ∷ []; trimmed = 0; end = 0; snapshot = []; replicated = 0 },
    record { history = 2; log = j ∷ i ∷ []; trimmed = 0; end = 0; snapshot = []; replicated = 0 },
    record { entries = 2 ∷ 6 ∷ []; generated = 6; end = 0; bytes = 0; added = 2; trimmed = 0 },
    record { count = refl; entries = refl; end = refl },
    record {
      alike = λ p front back other_front other_back e f.
          absurd (apart p (subst (λ (xs : List ℕ). Contains xs p) (sym e) (inside front back p))
          (subst (λ (xs : List ℕ). Contains xs p) (sym f) (inside other_front other_back p)));
    },
    refl,
    refl,
    omega arith,
    refl,
  )
