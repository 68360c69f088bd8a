-- Walking the entries of a map.
use Rattle.std.proofs.Common.{◌≡◌, ◌+◌, ◌≤◌, ℕ, List, Option, Some, None, Bool, cond, drop, length, inl, inr, ap, sym, ◌∙◌}
use Rattle.std.specs.List.{find, slice_get}
use Rattle.std.proofs.lemmas.List.{at_drop_all, at_drop_more}
use Rattle.std.proofs.lemmas.Option.{none-some, slice_get_cases}

module _ {X : Type 0} (p : X → Bool) where
  or_else : Option X → X → X
  or_else None d = d
  or_else (Some x) d = x

  -- from an element on
  pub rest_find : (xs : List X) (i : ℕ) (x : X) (b : Bool) → slice_get xs i ≡ Some x → p x ≡ b →
      find p (drop i xs) ≡ cond b (Some x) (find p (drop (i + 1) xs))
  unfolding or_else
  rest_find xs i x b at e = elim (slice_get_cases xs i).1 [
    | inl h ↦ (let same : h.0 ≡ x = ap (λ (o : Option X). or_else o x) (sym h.2 ∙ at) in
        at_drop_more (find p) xs i h.0 h.1 ∙ ap (λ (z : X). cond (p z) (Some z) (find p (drop (i + 1) xs))) (h.3 ∙ same)
        ∙ ap (λ (b : Bool). cond b (Some x) (find p (drop (i + 1) xs))) e)
    | inr h ↦ absurd (none-some x (sym h.1 ∙ at))
  ]

  -- past the end
  pub none_left : (xs : List X) (i : ℕ) → length xs ≤ i → find p (drop i xs) ≡ None
  none_left xs i many = at_drop_all (find p) xs i many
