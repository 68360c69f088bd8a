-- The items of all checks are whole.
use Rattle.std.proofs.Common.{◌≡◌, ℕ, zero, suc, ◌<◌, ◌≤◌, ◌-◌, ◌&&◌, not, Bool, true, false, List, [], ◌∷◌, ◌++◌, take, length, refl, sym}
use Rattle.std.proofs.Common.{ap, ◌∙◌, subst, inl, inr, ◌⊎◌, append_assoc, append-nil, arith}
use Rattle.std.specs.List.{Contains, list_any}
use Rattle.std.proofs.lemmas.List.{take_all}
use Rattle.std.proofs.lemmas.List.Elements.{Contains-append_left, Contains-append_cases}
use Rattle.ds_names.specs.declared.key.Key.{Key}
use Rattle.ds_entry.specs.Item.{passes}
use Rattle.ds_entry.specs.ItemCovers.{covers}
use Rattle.ds_entry.specs.declared.item.Item.{Item}
use Rattle.ds_entry.proofs.Members.{Contains-nil, Contains-cons, Contains-filter, Contains-from_filter, Contains-from_take}
use Rattle.ds_entry.proofs.Members.{Contains-from_list_any}
use Rattle.ds_entry.proofs.ItemLemmas.{covers-trans, covers-query}
use Rattle.ds_join.specs.ItemTop.{IsPartOf}
use Rattle.ds_feed.specs.Feed.{Feed, position}
use Rattle.ds_replica.specs.Sent.{given, stood_for}
use Rattle.ds_replica.specs.Front.{IsFront}
use Rattle.ds_replica.specs.Whole.{before}
use Rattle.ds_replica.specs.Accepting.{AreNew, OneByOneIsNew}
use Rattle.ds_replica.specs.Checked.{unseen_by, CheckTurn, IsCheckTurn, AreChecks, check_items}
use Rattle.ds_replica.specs.CheckLaws.{ChecksAreWhole, ChecksGoOn}
use Rattle.ds_replica.proofs.SentLemmas.{Contains-under, Contains-from_under, given_stands, stood_left, stood_right}
use Rattle.ds_replica.proofs.JournalLemmas.{front_is}
use Rattle.ds_entry.specs.Under.{under}

-- ---- what is new

-- The lists before and after an element.
split_by : (xs : List Item) (x : Item) → Contains xs x → (front : List Item) × (back : List Item) × (xs ≡ front ++ x ∷ back)
split_by [] x h = absurd (Contains-nil x h)
split_by (y ∷ ys) x h = at (Contains-cons y ys x h) (split_by ys x)
  where
    at : (x ≡ y) ⊎ Contains ys x → (Contains ys x → (front : List Item) × (back : List Item) × (ys ≡ front ++ x ∷ back)) →
        (front : List Item) × (back : List Item) × (y ∷ ys ≡ front ++ x ∷ back)
    at (inl e) rest = ([], ys, ap (λ (z : Item). z ∷ ys) (sym e))
    at (inr k) rest = let r = rest k in (y ∷ r.0, r.1, ap (λ (l : List Item). y ∷ l) r.2)

same_rest : (xs ys zs : List Item) → xs ++ ys ≡ xs ++ zs → ys ≡ zs
same_rest [] ys zs e = e
same_rest (x ∷ xs) ys zs e = same_rest xs ys zs (let t : xs ++ ys ≡ xs ++ zs = cc in t)

-- what an earlier item covers took effect as early
early_too : (early b f : Feed) (since : List Item) (i j : Item) → f.accepted ≡ early.accepted ++ since → AreNew early.accepted since →
    IsFront early b → IsFront b f →
    Contains f.accepted i → Contains b.accepted j → covers j i ≡ true → Contains b.accepted i
early_too early b f since i j all new later front h k e =
    at (Contains-append_cases b.accepted front.grown.0 i (subst (λ (l : List Item). Contains l i) front.grown.1 h))
  where
    both : since ≡ later.grown.0 ++ front.grown.0
    both =
        same_rest early.accepted since (later.grown.0 ++ front.grown.0)
        (sym all ∙ (front.grown.1 ∙ (ap (λ (l : List Item). l ++ front.grown.0) later.grown.1 ∙
        append_assoc early.accepted later.grown.0 front.grown.0)))

    at : Contains b.accepted i ⊎ Contains front.grown.0 i → Contains b.accepted i
    at (inl l) = l
    at (inr l) =
        let s = split_by front.grown.0 i l in
        let place : since ≡ (later.grown.0 ++ s.0) ++ i ∷ s.1 =
        both ∙ (ap (λ (l : List Item). later.grown.0 ++ l) s.2 ∙ sym (append_assoc later.grown.0 s.0 (i ∷ s.1))) in
        let before : Contains (early.accepted ++ (later.grown.0 ++ s.0)) j =
        subst (λ (l : List Item). Contains l j) (append_assoc early.accepted later.grown.0 s.0)
        (Contains-append_left (early.accepted ++ later.grown.0) s.0 j (subst (λ (l : List Item). Contains l j) later.grown.1 k)) in
        let t : true ≡ false = sym e ∙ new (later.grown.0 ++ s.0) s.1 i j place before in
        absurd (cc)

-- In two joined lists, one of which ends with one more, an element's index is the last one or before it.
last_or_before : (xs front back : List Item) (x i : Item) → xs ++ x ∷ [] ≡ front ++ i ∷ back →
    ((i ≡ x) × (front ≡ xs)) ⊎ ((rest : List Item) × (xs ≡ front ++ i ∷ rest))
last_or_before [] [] back x i e = let h : x ≡ i = cc in inl (sym h, refl)
last_or_before [] (y ∷ []) back x i e = cc
last_or_before [] (y ∷ z ∷ front) back x i e = cc
last_or_before (y ∷ xs) [] back x i e = let h : y ≡ i = cc in inr (xs, ap (λ (z : Item). z ∷ xs) h)
last_or_before (y ∷ xs) (z ∷ front) back x i e =
    let h : y ≡ z = cc in
    let tail : xs ++ x ∷ [] ≡ front ++ i ∷ back = cc in
    elim (last_or_before xs front back x i tail) [
      | inl k ↦ inl (k.0, ap (λ (l : List Item). z ∷ l) k.1 ∙ ap (λ (w : Item). w ∷ xs) (sym h))
      | inr k ↦ inr (k.0, ap (λ (w : Item). w ∷ xs) h ∙ ap (λ (l : List Item). z ∷ l) k.1)
    ]

new_after : (accepted since : List Item) (i : Item) → AreNew accepted since →
    ((j : Item) → Contains (accepted ++ since) j → covers j i ≡ false) → AreNew accepted (since ++ i ∷ [])
new_after accepted since i new last front back k j q h = at (last_or_before since front back i k q)
  where
    at : ((k ≡ i) × (front ≡ since)) ⊎ ((rest : List Item) × (since ≡ front ++ k ∷ rest)) → covers j k ≡ false
    at (inl p) = subst (λ (z : Item). covers j z ≡ false) (sym p.0) (last j (subst (λ (l : List Item). Contains (accepted ++ l) j) p.1 h))
    at (inr p) = new front p.0 k j p.1 h

none_is_new : (accepted : List Item) → AreNew accepted []
none_is_new accepted [] back i j e h = cc
none_is_new accepted (y ∷ front) back i j e h = cc

new_before : (accepted since : List Item) (i : Item) → ((j : Item) → Contains accepted j → covers j i ≡ false) →
    AreNew (accepted ++ i ∷ []) since → AreNew accepted (i ∷ since)
new_before accepted since i first new [] back k j q h =
    let same : i ≡ k = cc in
    subst (λ (z : Item). covers j z ≡ false) same (first j (subst (λ (l : List Item). Contains l j) (append-nil accepted) h))
new_before accepted since i first new (y ∷ front) back k j q h =
    let same : i ≡ y = cc in
    let rest : since ≡ front ++ k ∷ back = cc in
    let there : Contains (accepted ++ i ∷ front) j = subst (λ (z : Item). Contains (accepted ++ z ∷ front) j) (sym same) h in
    new front back k j rest (subst (λ (l : List Item). Contains l j) (sym (append_assoc accepted (i ∷ []) front)) there)

pub one_by_one_is_new : OneByOneIsNew
one_by_one_is_new = record { none = none_is_new; one_more = new_after; one_before = new_before }

-- ---- checks

-- What a check returns was held.
given_held : (early f : Feed) (query : Key → Bool) (shown : List Item) (t : CheckTurn) → IsCheckTurn early f query shown t →
    IsPartOf t.items t.held
given_held early f query shown t s i h =
    let k = Contains-from_take t.max (unseen_by query shown t.held) i (subst (λ (l : List Item). Contains l i) s.given h) in
    (Contains-from_filter (λ (j : Item). passes query j && not (list_any (λ k. covers k j) shown)) t.held i k).0

all_given : (xs ys : List Item) (max : ℕ) → xs ≡ take max ys → length xs < max → xs ≡ ys
all_given xs ys max e l = e ∙ take_all max ys (few max ys (subst (λ (zs : List Item). length zs < max) e l))
  where
    few : (n : ℕ) (zs : List Item) → length (take n zs) < n → length zs ≤ n
    few zero zs l = absurd (omega arith)
    few (suc n) [] l = omega arith
    few (suc n) (z ∷ zs) l = let k = few n zs (omega arith) in omega arith

-- A check that returned fewer than it was asked for stands for everything under the query that no shown item covers.
last_stands : (early f : Feed) (query : Key → Bool) (shown : List Item) (t : CheckTurn) → IsCheckTurn early f query shown t →
    length t.items < t.max → (i : Item) → Contains t.feed.accepted i → passes query i ≡ true →
    Contains (stood_for (given t.known t.items)) i ⊎ ((e : Item) × Contains shown e × (covers e i ≡ true))
last_stands early f query shown t s l i h q = let d = s.top.greatest i h in by_test d.0 d.1 d.2 (list_any (λ j. covers j d.0) shown) refl
  where
    by_test : (d : Item) → Contains t.held d → covers d i ≡ true → (b : Bool) → list_any (λ j. covers j d) shown ≡ b →
        Contains (stood_for (given t.known t.items)) i ⊎ ((e : Item) × Contains shown e × (covers e i ≡ true))
    by_test d k c true e = let g = Contains-from_list_any (λ (j : Item). covers j d) shown e in inr (g.0, g.1, covers-trans g.0 d i g.2 c)
    by_test d k c false e =
        let p : passes query d ≡ true = covers-query query d i c q in
        let test : passes query d && not (list_any (λ j. covers j d) shown) ≡ true = rw (p, e) refl in
        let there : Contains (unseen_by query shown t.held) d =
        Contains-filter (λ (j : Item). passes query j && not (list_any (λ k. covers k j) shown)) t.held d k test in
        let here : Contains t.items d = subst (λ (xs : List Item). Contains xs d)
        (sym (all_given t.items (unseen_by query shown t.held) t.max s.given l)) there in
        inl (given_stands t.known t.items i d here (s.knows i h) c)

-- Checks up to such a one do so together.
module _ (early f : Feed) (since : List Item) (all : f.accepted ≡ early.accepted ++ since) (new : AreNew early.accepted since)
    (query : Key → Bool) where
  checks_stand : (shown : List Item) (turns : List CheckTurn) (last : CheckTurn) → AreChecks early f query shown (turns ++ last ∷ []) →
      length last.items < last.max → (i : Item) →
      Contains f.accepted i → Contains last.feed.accepted i → passes query i ≡ true →
      Contains (stood_for (check_items (turns ++ last ∷ []))) i ⊎ ((e : Item) × Contains shown e × (covers e i ≡ true))
  checks_stand shown [] last s l i a h q = elim (last_stands early f query shown last s.0 l i h q)
      [ inl k ↦ inl (stood_left (given last.known last.items) [] i k) | inr k ↦ inr k ]
  checks_stand shown (t ∷ ts) last s l i a h q = at (checks_stand (shown ++ t.items) ts last s.1 l i a h q)
    where
      by_check : (e : Item) → covers e i ≡ true → Contains shown e ⊎ Contains t.items e →
          Contains (stood_for (check_items (t ∷ ts ++ last ∷ []))) i ⊎ ((e : Item) × Contains shown e × (covers e i ≡ true))
      by_check e c (inl k) = inr (e, k, c)
      by_check e c (inr k) =
          let accepted : Contains t.feed.accepted e = s.0.top.among e (given_held early f query shown t s.0 e k) in
          let knew : Contains t.known i = s.0.knows i (early_too early t.feed f since i e all new s.0.later s.0.front a accepted c) in
          inl (stood_left (given t.known t.items) (check_items (ts ++ last ∷ [])) i (given_stands t.known t.items i e k knew c))

      at : Contains (stood_for (check_items (ts ++ last ∷ []))) i ⊎ ((e : Item) × Contains (shown ++ t.items) e × (covers e i ≡ true)) →
          Contains (stood_for (check_items (t ∷ ts ++ last ∷ []))) i ⊎ ((e : Item) × Contains shown e × (covers e i ≡ true))
      at (inl k) = inl (stood_right (given t.known t.items) (check_items (ts ++ last ∷ [])) i k)
      at (inr k) = by_check k.0 k.2 (Contains-append_cases shown t.items k.0 k.1)

  last_front : (shown : List Item) (turns : List CheckTurn) (last : CheckTurn) → AreChecks early f query shown (turns ++ last ∷ []) →
      IsFront last.feed f
  last_front shown [] last s = s.0.front
  last_front shown (t ∷ ts) last s = last_front (shown ++ t.items) ts last s.1

  -- The checks stand for what is under the query and took effect before the last check, or a shown item covers it.
  all_stand : (shown : List Item) (turns : List CheckTurn) (last : CheckTurn) → AreChecks early f query shown (turns ++ last ∷ []) →
      length last.items < last.max → (i : Item) → Contains (under query (before f (position last.feed))) i →
      Contains (stood_for (check_items (turns ++ last ∷ []))) i ⊎ ((e : Item) × Contains shown e × (covers e i ≡ true))
  all_stand shown turns last s l i h =
      let k = Contains-from_under query (before f (position last.feed)) i h in
      let late : Contains last.feed.accepted i =
      subst (λ (xs : List Item). Contains xs i) (front_is last.feed f (last_front shown turns last s)) k.0 in
      let now : Contains f.accepted i = Contains-from_take (position last.feed - f.first) f.accepted i k.0 in
      checks_stand shown turns last s l i now late k.1

pub checks_are_whole : ChecksAreWhole
checks_are_whole early f query since turns last all new s l i h =
    elim (all_stand early f since all new query [] turns last s l i h) [ inl m ↦ m | inr m ↦ absurd (Contains-nil m.0 m.1) ]

pub checks_go_on : ChecksGoOn
checks_go_on early begun f query since shown items turns last all new later front part w s l i h =
    elim (all_stand early f since all new query shown turns last s l i h) [
      | inl m ↦ stood_right items (check_items (turns ++ last ∷ [])) i m
      | inr m ↦ stood_left items (check_items (turns ++ last ∷ [])) i (begun_whole m.0 m.1 m.2)
    ]
  where
    k : Contains (before f (position last.feed)) i × (passes query i ≡ true)
    k = Contains-from_under query (before f (position last.feed)) i h

    begun_whole : (e : Item) → Contains shown e → covers e i ≡ true → Contains (stood_for items) i
    begun_whole e m c =
        let now : Contains f.accepted i = Contains-from_take (position last.feed - f.first) f.accepted i k.0 in
        let then : Contains begun.accepted i = early_too early begun f since i e all new later front now (part e m) c in
        w i (Contains-under query (before f (position begun)) i
        (subst (λ (xs : List Item). Contains xs i) (sym (front_is begun f front)) then) k.1)
