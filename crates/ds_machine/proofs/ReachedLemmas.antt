-- What every reached state has, after more was accepted and after a subscription was written.
use Rattle.std.proofs.Common.{◌≡◌, ℕ, ◌+◌, ◌<◌, ◌==◌, Bool, true, false, List, [], ◌∷◌, ◌++◌, length, set, get_or, Some, None}
use Rattle.std.proofs.Common.{refl, ap, sym, ◌∙◌, subst, inl, inr, ◌⊎◌, arith, Contains, append_assoc, length-set, get_or-set_same}
use Rattle.std.proofs.Common.{get_or-set_other, eqb-true, replicate, suc, zero}
use Rattle.std.proofs.lemmas.Bool.{eqb-false}
use Rattle.std.proofs.lemmas.List.{append-nil, length-replicate}
use Rattle.std.proofs.lemmas.List.Elements.{Contains-push_cases, Contains-append_left}
use Rattle.std.proofs.lemmas.Option.{same_Some}
use Rattle.ds_entry.specs.ItemCovers.{covers}
use Rattle.ds_entry.specs.declared.item.Item.{Item}
use Rattle.ds_join.specs.ItemTop.{IsPartOf, FitsOwners, HasOneOwnerInTurn}
use Rattle.ds_join.proofs.ItemExistLemmas.{tops_is_top}
use Rattle.ds_pattern.specs.declared.query.Query.{Query}
use Rattle.ds_machine.specs.Subscription.{Subscription}
use Rattle.ds_machine.specs.State.{State, takes_effect, subscribes, subscription_at, opening}
use Rattle.ds_machine.specs.Reached.{IsReached, IsServed, AreExact}
use Rattle.ds_machine.specs.Effect.{IsNews, AreNews, HeldIsTop}
use Rattle.ds_entry.proofs.Members.{Contains-nil}
use Rattle.ds_held.specs.Limits.{LimitsRecord, IsLimits}

pub held_is_top : HeldIsTop
held_is_top s r = tops_is_top s.feed.accepted r.owners

-- ---- one more item was accepted
abbrev head_or : {X : Type 0} → X → List X → X
head_or d [] = d
head_or d (x ∷ xs) = x

abbrev tail_of : {X : Type 0} → List X → List X
tail_of [] = []
tail_of (x ∷ xs) = xs

pub not_nothing : {X : Type 0} (front back : List X) (x : X) → [] ≡ front ++ x ∷ back → ⊥
not_nothing [] back x e = cc
not_nothing (y ∷ front) back x e = cc

-- an element of a list with one more at the end is that one, or one of the list
pub push_split : {X : Type 0} (xs front back : List X) (i x : X) → xs ++ i ∷ [] ≡ front ++ x ∷ back →
    ((front ≡ xs) × (x ≡ i)) ⊎ ((rest : List X) × (xs ≡ front ++ x ∷ rest))
push_split [] [] back i x e = inl (refl, ap (head_or i) (sym e))
push_split [] (y ∷ front) back i x e = absurd (not_nothing front back x (ap tail_of e))
push_split (z ∷ zs) [] back i x e = inr (zs, ap (λ h. h ∷ zs) (ap (head_or z) e))
push_split (z ∷ zs) (y ∷ front) back i x e =
    let h : z ≡ y = ap (head_or z) e in
    elim (push_split zs front back i x (ap tail_of e)) [
      | inl p ↦ inl (ap (λ k. k ∷ front) (sym h) ∙ ap (λ l. z ∷ l) p.0, p.1)
      | inr p ↦ inr (p.0, ap (λ k. k ∷ zs) h ∙ ap (λ l. y ∷ l) p.1)
    ]

owners_more : (accepted : List Item) (i : Item) → HasOneOwnerInTurn accepted → FitsOwners accepted i →
    HasOneOwnerInTurn (accepted ++ i ∷ [])
owners_more accepted i owners fits front back x e = elim (push_split accepted front back i x e) [
  | inl p ↦ subst (λ (l : List Item). FitsOwners l x) (sym p.0) (subst (λ (y : Item). FitsOwners accepted y) (sym p.1) fits)
  | inr p ↦ owners front p.0 x p.1
]

exact_more : (accepted : List Item) (i : Item) → AreExact accepted → ((j : Item) → Contains accepted j → covers j i ≡ false) →
    AreExact (accepted ++ i ∷ [])
exact_more accepted i exact newer x y h k over under = by_cases (Contains-push_cases accepted i x h) (Contains-push_cases accepted i y k)
  where
    never : (z : Item) → Contains accepted z → covers z i ≡ true → ⊥
    never z l t = let n : true ≡ false = sym t ∙ newer z l in absurd (cc)

    by_cases : Contains accepted x ⊎ (i ≡ x) → Contains accepted y ⊎ (i ≡ y) → x ≡ y
    by_cases (inl a) (inl b) = exact x y a b over under
    by_cases (inl a) (inr q) = absurd (never x a (subst (λ (z : Item). covers x z ≡ true) (sym q) under))
    by_cases (inr p) (inl b) = absurd (never y b (subst (λ (z : Item). covers y z ≡ true) (sym p) over))
    by_cases (inr p) (inr q) = sym p ∙ q

pub reached_more : (s : State) (i : Item) → IsReached s → IsNews s.feed.accepted i → IsReached (takes_effect s (i ∷ []))
reached_more s i r news =
    record {
      limits = r.limits;
      places = r.places;
      owners = owners_more s.feed.accepted i r.owners news.fits;
      exact = exact_more s.feed.accepted i r.exact news.newer;
      served = λ k seer e.
          (let was = r.served k seer e in
          record { shown = λ d h. Contains-append_left s.feed.accepted (i ∷ []) d (was.shown d h); stamp = was.stamp });
    }

-- the state with these accepted items
abbrev pub with_accepted : State → List Item → State
with_accepted s l = record s { feed = record s.feed { accepted = l } }

pub reached_all : (s : State) (items : List Item) → IsReached s → AreNews s.feed.accepted items → IsReached (takes_effect s items)
reached_all s [] r news = subst IsReached (ap (with_accepted s) (sym (append-nil s.feed.accepted))) r
reached_all s (i ∷ items) r news =
    subst IsReached (ap (with_accepted s) (append_assoc s.feed.accepted (i ∷ []) items))
    (reached_all (takes_effect s (i ∷ [])) items (reached_more s i r news.0) news.1)

-- ---- a subscription was written
pub at_place : (s : State) (sub k : ℕ) (query : Query) (shown : List Item) → sub < length s.subscriptions
    → ((k ≡ sub) × (subscription_at (subscribes s sub query shown) k ≡ Some
    (record { query = query; stamp = s.stamp + 1; shown = shown }))) ⊎
    (subscription_at (subscribes s sub query shown) k ≡ subscription_at s k)
at_place s sub k query shown within = by_test (k == sub) refl
  where
    made : Subscription
    made = record { query = query; stamp = s.stamp + 1; shown = shown }

    by_test : (b : Bool) → (k == sub) ≡ b → ((k ≡ sub) × (subscription_at (subscribes s sub query shown) k ≡ Some made)) ⊎
        (subscription_at (subscribes s sub query shown) k ≡ subscription_at s k)
    by_test true q =
        let same : k ≡ sub = eqb-true k sub q in
        inl (
          same,
          ap (λ (j : ℕ). get_or (set s.subscriptions sub (Some made)) j None) same ∙
              get_or-set_same s.subscriptions sub (Some made) None within,
        )
    by_test false q = inr (get_or-set_other s.subscriptions sub k (Some made) None (eqb-false k sub q))

pub reached_served : (s : State) (sub : ℕ) (query : Query) (shown : List Item) → IsReached s → sub < s.limits.subs →
    IsPartOf shown s.feed.accepted → IsReached (subscribes s sub query shown)
reached_served s sub query shown r place part =
    record {
      limits = r.limits;
      places = length-set s.subscriptions sub _ ∙ r.places;
      owners = r.owners;
      exact = r.exact;
      served = served;
    }
  where
    within : sub < length s.subscriptions
    within = omega (arith, place, r.places)

    served : (k : ℕ) (seer : Subscription) → subscription_at (subscribes s sub query shown) k ≡ Some seer →
        IsServed (subscribes s sub query shown) seer
    served k seer e = elim (at_place s sub k query shown within) [
      | inl at ↦ subst (λ (x : Subscription). IsServed (subscribes s sub query shown) x) (same_Some _ _ (sym at.1 ∙ e))
          (record { shown = part; stamp = omega arith })
      | inr at ↦ (let was = r.served k seer (sym at ∙ e) in record { shown = was.shown; stamp = omega (arith, was.stamp) })
    ]

-- ---- a store that was just opened
no_seer : (n k : ℕ) (seer : Subscription) → get_or (replicate n None) k None ≡ Some seer → ⊥
no_seer zero k seer e = cc
no_seer (suc n) zero seer e = cc
no_seer (suc n) (suc k) seer e = no_seer n k seer e

pub opening_is_reached : (incarnation first ring : ℕ) (limits : LimitsRecord) → IsLimits limits →
    IsReached (opening incarnation first ring limits)
opening_is_reached incarnation first ring limits l =
    record {
      limits = l;
      places = length-replicate limits.subs None;
      owners = λ front back i e. absurd (not_nothing front back i e);
      exact = λ i j h k. absurd (Contains-nil i h);
      served = λ k seer e. absurd (no_seer limits.subs k seer e);
    }
