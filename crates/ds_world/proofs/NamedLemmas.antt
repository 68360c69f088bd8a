-- The endpoint that a map's label names is that of the label among what it holds.
use Rattle.std.proofs.Common.{◌≡◌, ℕ, Bool, true, false, cond, List, [], ◌∷◌, Option, Some, None, refl, sym, ap, ◌∙◌, subst, inl, inr}
use Rattle.std.proofs.Common.{Contains}
use Rattle.std.specs.Option.{option_and_then}
use Rattle.std.specs.Ordering.{eq_by_cmp}
use Rattle.ds_names.specs.Key.{key_cmp, label_key}
use Rattle.ds_entry.specs.Change.{ChangeRecord}
use Rattle.ds_entry.specs.declared.item.Item.{Item}
use Rattle.ds_entry.specs.declared.item.Item.TheVariants.{Change as Changed, Floor as Floored}
use Rattle.ds_entry.proofs.CoversLemmas.{same_key, same_key-refl}
use Rattle.ds_entry.proofs.Members.{Contains-nil, Contains-cons, Contains-head, Contains-tail}
use Rattle.ds_held.specs.Held.{Holding, held_items, held_for, IsSound}
use Rattle.ds_held.proofs.HeldLemmas.{change_in, is_held}
use Rattle.ds_submap.specs.Map as maps
use Rattle.ds_replica.specs.Labels.{label_in}
use Rattle.ds_entry.specs.Left.{value_of, endpoint_in, endpoint_of_value}

-- a label without a change names nothing
none_named : (items : List Item) (name : List ℕ) → ((d : ChangeRecord) → Contains items (Changed d) → d.key ≡ label_key name → ⊥) →
    label_in items name ≡ None
none_named [] name none = refl
none_named (Floored f ∷ items) name none = none_named items name (λ d h. none d (Contains-tail (Floored f) items (Changed d) h))
none_named (Changed c ∷ items) name none =
    by_test (none_named items name (λ d h. none d (Contains-tail (Changed c) items (Changed d) h)))
    (eq_by_cmp key_cmp c.key (label_key name)) refl
  where
    by_test : label_in items name ≡ None → (b : Bool) → eq_by_cmp key_cmp c.key (label_key name) ≡ b →
        cond b (endpoint_in c.body) (label_in items name) ≡ None
    by_test rest true e = absurd (none c (Contains-head (Changed c) items) (same_key c.key (label_key name) e))
    by_test rest false e = rest

-- one with a single change names what that one leaves
one_named : (items : List Item) (name : List ℕ) (c : ChangeRecord) → Contains items (Changed c) → c.key ≡ label_key name →
    ((d : ChangeRecord) → Contains items (Changed d) → d.key ≡ label_key name → d ≡ c)
    → label_in items name ≡ endpoint_in c.body
one_named [] name c h e one = absurd (Contains-nil (Changed c) h)
one_named (Floored f ∷ items) name c h e one =
    elim (Contains-cons (Floored f) items (Changed c) h) [
      | inl k ↦ absurd (let n : Changed c ≡ Floored f = k in cc)
      | inr k ↦ one_named items name c k e (λ d m. one d (Contains-tail (Floored f) items (Changed d) m))
    ]
one_named (Changed x ∷ items) name c h e one =
    by_test (λ m. one_named items name c m e (λ d n. one d (Contains-tail (Changed x) items (Changed d) n)))
    (eq_by_cmp key_cmp x.key (label_key name)) refl
  where
    by_test : (Contains items (Changed c) → label_in items name ≡ endpoint_in c.body) → (b : Bool) →
        eq_by_cmp key_cmp x.key (label_key name) ≡ b → cond b (endpoint_in x.body) (label_in items name) ≡ endpoint_in c.body
    by_test rest true k = ap (λ (d : ChangeRecord). endpoint_in d.body)
        (one x (Contains-head (Changed x) items) (same_key x.key (label_key name) k))
    by_test rest false k =
        elim (Contains-cons (Changed x) items (Changed c) h) [
          | inl m ↦ absurd
              (let same : c ≡ x = cc in
              let yes : eq_by_cmp key_cmp x.key (label_key name) ≡ true =
              same_key-refl x.key (label_key name) (subst (λ (z : ChangeRecord). z.key ≡ label_key name) same e) in
              let n : true ≡ false = sym yes ∙ k in
              cc)
          | inr m ↦ rest m
        ]

module _ (h : Holding) (sound : IsSound h) (name : List ℕ) where
  by_change : (o : Option ChangeRecord) → held_for h (label_key name) ≡ o →
      label_in (held_items h) name ≡ option_and_then endpoint_of_value (option_and_then value_of o)
  by_change None e = none_named (held_items h) name
      (λ d k q. let there : None ≡ Some d = sym e ∙ (ap (held_for h) (sym q) ∙ is_held h sound (Changed d) k) in absurd (cc))
  by_change (Some c) e =
      one_named (held_items h) name c (change_in h (label_key name) c e) (sound.own (label_key name) c e)
      (λ d k q. let there : Some c ≡ Some d = sym e ∙ (ap (held_for h) (sym q) ∙ is_held h sound (Changed d) k) in cc)

  pub named : label_in (held_items h) name ≡ maps.endpoint_of_label h name
  named = by_change (held_for h (label_key name)) refl
