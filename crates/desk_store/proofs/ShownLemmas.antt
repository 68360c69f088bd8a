-- What was shown to a subscription, and what is still to come.
use Rattle.std.proofs.Common.{◌≡◌, ℕ, zero, suc, ◌<◌, Bool, true, false, not, ◌&&◌, List, [], ◌∷◌, ◌++◌, length, take, Contains, refl, ap}
use Rattle.std.proofs.Common.{sym, ◌∙◌, subst, inl, inr, ◌⊎◌, arith}
use Rattle.std.specs.List.{list_any}
use Rattle.std.proofs.lemmas.List.Elements.{Contains-append_left}
use Rattle.ds_entry.specs.Item.{passes}
use Rattle.ds_entry.specs.ItemCovers.{covers}
use Rattle.ds_entry.specs.Under.{under}
use Rattle.ds_entry.specs.declared.item.Item.{Item}
use Rattle.ds_entry.proofs.Members.{Contains-nil, Contains-cons, Contains-filter, Contains-from_filter, Contains-from_list_any}
use Rattle.ds_entry.proofs.Members.{list_any-from_Contains}
use Rattle.ds_join.specs.ItemTop.{IsPartOf}
use Rattle.ds_pattern.specs.declared.query.Query.{Query}
use Rattle.ds_pattern.specs.Under.{is_under}
use Rattle.ds_machine.specs.Effect.{AreNews}
use Rattle.ds_machine.specs.Subscription.{is_unseen}

-- what is under the query and not unseen is covered by what was shown
pub shown_for : (query : Query) (shown : List Item) (i : Item) → passes (is_under query) i ≡ true → is_unseen query shown i ≡ false →
    (j : Item) × Contains shown j × (covers j i ≡ true)
shown_for query shown i u e =
    Contains-from_list_any (λ (j : Item). covers j i) shown
    (negated (list_any (λ (j : Item). covers j i) shown) (sym (ap (λ b. b && not (list_any (λ (j : Item). covers j i) shown)) u) ∙ e))
  where
    negated : (b : Bool) → not b ≡ false → b ≡ true
    negated true e = refl
    negated false e = absurd (cc)

-- and what is covered by what was shown isn't unseen
pub no_more_unseen : (query : Query) (shown : List Item) (i j : Item) → Contains shown j → covers j i ≡ true →
    is_unseen query shown i ≡ false
no_more_unseen query shown i j h q =
    ap (λ b. passes (is_under query) i && not b) (list_any-from_Contains (λ (x : Item). covers x i) shown j h q) ∙
    and_false (passes (is_under query) i)
  where
    and_false : (b : Bool) → b && false ≡ false
    and_false true = refl
    and_false false = refl

-- fewer than were asked for are all
pub few_are_all : (n : ℕ) (xs : List Item) → length (take n xs) < n → take n xs ≡ xs
few_are_all zero xs l = absurd (omega (arith, l))
few_are_all (suc n) [] l = refl
few_are_all (suc n) (x ∷ xs) l = ap (λ (ys : List Item). x ∷ ys) (few_are_all n xs (omega (arith, l)))

-- what came before news covers none of it
pub none_covers_news : (accepted news : List Item) → AreNews accepted news → (i j : Item) → Contains news i → Contains accepted j →
    covers j i ≡ true → ⊥
none_covers_news accepted [] a i j h k q = Contains-nil i h
none_covers_news accepted (x ∷ news) a i j h k q =
    by_place (Contains-cons x news i h) (λ m.
    none_covers_news (accepted ++ x ∷ []) news a.1 i j m (Contains-append_left accepted (x ∷ []) j k) q)
  where
    by_place : (i ≡ x) ⊎ Contains news i → (Contains news i → ⊥) → ⊥
    by_place (inl e) later = let no : false ≡ true = sym (a.0.newer j k) ∙ subst (λ (y : Item). covers j y ≡ true) e q in absurd (cc)
    by_place (inr m) later = later m

-- what is under the query of some of the items is under it of all
pub under_part : (query : Query) (xs ys : List Item) → IsPartOf xs ys → IsPartOf (under (is_under query) xs) (under (is_under query) ys)
under_part query xs ys part i h =
    let from = Contains-from_filter (passes (is_under query)) xs i h in
    Contains-filter (passes (is_under query)) ys i (part i from.0) from.1
