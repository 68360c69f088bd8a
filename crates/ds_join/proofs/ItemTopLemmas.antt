-- The laws of tops and joins of items.
use Rattle.std.proofs.Common.{◌≡◌, ◌≤◌, Bool, true, false, List, [], ◌++◌, refl, sym, ◌∙◌, subst, inl, inr, append_assoc}
use Rattle.std.specs.List.{Contains}
use Rattle.std.specs.List.Sorted.{IsStrictlySortedBy}
use Rattle.std.proofs.lemmas.List.Elements.{Contains-append_left, Contains-append_right, Contains-append_cases}
use Rattle.ds_entry.specs.Item.{item_cmp}
use Rattle.ds_entry.specs.ItemCovers.{covers, covered_by, AreSingleNumbered}
use Rattle.ds_entry.specs.Void.{voids}
use Rattle.ds_entry.specs.declared.floor.Floor.{Floor}
use Rattle.ds_entry.specs.declared.item.Item.{Item}
use Rattle.ds_entry.specs.declared.item.Item.TheVariants.{Change as Changed, Floor as Floored}
use Rattle.ds_entry.proofs.Members.{Contains-nil, Contains-single, Contains-head, Contains-filter, Contains-from_filter}
use Rattle.ds_entry.proofs.OrderedLemmas.{same_members}
use Rattle.ds_entry.proofs.ItemLemmas.{below, covers-refl, covers-trans, covers-same, covers-apart, single_part, items_total}
use Rattle.ds_join.specs.ItemTop.{IsTop, IsPartOf, CoversAll}
use Rattle.ds_join.specs.ItemTopLaws.{TopIsUnique, HeldIsItsTop, GreatestFloorIsHeld, NothingVoidIsHeld, TopOfTop, TopOfUnion, TopOfCovered}
use Rattle.ds_join.specs.ItemJoin.{JoinIsCommutative, JoinIsAssociative, JoinIsIdempotent, JoinIsLeast}

-- no held item covers another
pub held_apart : (held set : List Item) → IsTop held set → (c d : Item) → Contains held c → Contains held d → covers d c ≡ true → d ≡ c
held_apart held set t c d h k e = sym (covers-apart held t.in_order t.none_void c d h k e)

-- the greatest floor of each owner is held
pub greatest_floor : GreatestFloorIsHeld
greatest_floor set held f t h = let j = t.greatest (Floored f) h in over j.0 j.1 j.2
  where
    over : (j : Item) → Contains held j → covers j (Floored f) ≡ true →
        (g : Floor) × Contains held (Floored g) × (g.owner ≡ f.owner) × (f.generation ≤ g.generation)
    over (Changed d) k e = let n : false ≡ true = e in absurd (cc)
    over (Floored g) k e = let b = below f.owner g.owner f.generation g.generation e in (g, k, sym b.0, b.1)

-- Nothing that a floor of the set voids is held.
pub void_isnt_held : NothingVoidIsHeld
void_isnt_held set held f c t h k = let j = t.greatest (Floored f) h in by_test j.0 j.1 j.2 (voids f c) refl
  where
    by_test : (j : Item) → Contains held j → covers j (Floored f) ≡ true → (b : Bool) → voids f c ≡ b → b ≡ false
    by_test j l e false v = refl
    by_test (Changed d) l e true v = let n : false ≡ true = e in absurd (cc)
    by_test (Floored g) l e true v = let differ : true ≡ false =
        sym (covers-trans (Floored g) (Floored f) (Changed c) e v) ∙ t.none_void g c l k in absurd (cc)

-- A held item that another one of the set covers is equal to that one.
held_is : (set held : List Item) → AreSingleNumbered set → IsTop held set → (c d : Item) → Contains held c → Contains set d →
    covers d c ≡ true → c ≡ d
held_is set held n t c d h k q =
    let e = t.greatest d k in
    let same : e.0 ≡ c = held_apart held set t c e.0 h e.1 (covers-trans e.0 d c e.2 q) in
    covers-same set n c d (t.among c h) k q (subst (λ (z : Item). covers z d ≡ true) same e.2)

in_both : (set held other : List Item) → AreSingleNumbered set → IsTop held set → IsTop other set → (c : Item) → Contains held c →
    Contains other c
in_both set held other n t u c h =
    let d = u.greatest c (t.among c h) in
    subst (λ (z : Item). Contains other z) (sym (held_is set held n t c d.0 h (u.among d.0 d.1) d.2)) d.1

pub top_is_unique : TopIsUnique
top_is_unique set held other n t u = same_members item_cmp items_total held other t.in_order u.in_order (in_both set held other n t u)
    (in_both set other held n u t)

-- ---- parts and covers
covered_by_part : (xs ys : List Item) → IsPartOf xs ys → CoversAll ys xs
covered_by_part xs ys f c h = (c, f c h, covers-refl c)

covered_through : (xs ys zs : List Item) → CoversAll ys xs → CoversAll zs ys → CoversAll zs xs
covered_through xs ys zs f g c h =
    let d = f c h in
    let e = g d.0 d.1 in
    (e.0, e.1, covers-trans e.0 d.0 c e.2 d.2)

covered_union : (xs ys zs : List Item) → CoversAll zs xs → CoversAll zs ys → CoversAll zs (xs ++ ys)
covered_union xs ys zs f g c h = elim (Contains-append_cases xs ys c h) [ inl k ↦ f c k | inr k ↦ g c k ]

pub part_union : (xs ys zs : List Item) → IsPartOf xs zs → IsPartOf ys zs → IsPartOf (xs ++ ys) zs
part_union xs ys zs f g c h = elim (Contains-append_cases xs ys c h) [ inl k ↦ f c k | inr k ↦ g c k ]

swapped : (xs ys : List Item) → IsPartOf (xs ++ ys) (ys ++ xs)
swapped xs ys = part_union xs ys (ys ++ xs) (λ c h. Contains-append_right ys xs c h) (λ c h. Contains-append_left ys xs c h)

-- sets with the same elements have the same tops
pub top_of_same : (held xs ys : List Item) → IsPartOf xs ys → IsPartOf ys xs → IsTop held xs → IsTop held ys
top_of_same held xs ys f g t =
    record { in_order = t.in_order; among = λ c h. f c (t.among c h); greatest = λ c h. t.greatest c (g c h); none_void = t.none_void }

-- The top of a part that covers the whole is a top of the whole.
pub top_of_whole : (whole part held : List Item) → IsPartOf part whole → CoversAll part whole → IsTop held part → IsTop held whole
top_of_whole whole part held f g t =
    record {
      in_order = t.in_order;
      among = λ c h. f c (t.among c h);
      greatest = covered_through whole part held g t.greatest;
      none_void = t.none_void;
    }

-- And if the items are single-numbered, the top of the whole is a top of the part.
top_of_part : (whole part held : List Item) → AreSingleNumbered whole → IsPartOf part whole → CoversAll part whole → IsTop held whole →
    IsTop held part
top_of_part whole part held n f g t =
    record {
      in_order = t.in_order;
      among = λ c h.
          (let d = g c (t.among c h) in
          subst (λ (z : Item). Contains part z) (sym (held_is whole held n t c d.0 h (f d.0 d.1) d.2)) d.1);
      greatest = λ c h. t.greatest c (f c h);
      none_void = t.none_void;
    }

module _ (xs ys top : List Item) (t : IsTop top xs) where
  top_part : IsPartOf (top ++ ys) (xs ++ ys)
  top_part = part_union top ys (xs ++ ys) (λ c h. Contains-append_left xs ys c (t.among c h)) (λ c h. Contains-append_right xs ys c h)

  top_covers : CoversAll (top ++ ys) (xs ++ ys)
  top_covers =
      covered_union xs ys (top ++ ys)
      (λ c h. let d = t.greatest c h in (d.0, Contains-append_left top ys d.0 d.1, d.2))
      (λ c h. (c, Contains-append_right top ys c h, covers-refl c))

pub top_of_top : TopOfTop
top_of_top xs ys top joined t j = top_of_whole (xs ++ ys) (top ++ ys) joined (top_part xs ys top t) (top_covers xs ys top t) j

pub top_of_union : TopOfUnion
top_of_union xs ys top joined n t j = top_of_part (xs ++ ys) (top ++ ys) joined n (top_part xs ys top t) (top_covers xs ys top t) j

-- ---- the join
pub join_is_commutative : JoinIsCommutative
join_is_commutative xs ys joined j = top_of_same joined (xs ++ ys) (ys ++ xs) (swapped xs ys) (swapped ys xs) j

regrouped : (xs ys zs : List Item) → IsPartOf ((xs ++ ys) ++ zs) (xs ++ (ys ++ zs))
regrouped xs ys zs c h = subst (λ (l : List Item). Contains l c) (append_assoc xs ys zs) h

ungrouped : (xs ys zs : List Item) → IsPartOf (xs ++ (ys ++ zs)) ((xs ++ ys) ++ zs)
ungrouped xs ys zs c h = subst (λ (l : List Item). Contains l c) (sym (append_assoc xs ys zs)) h

pub join_is_associative : JoinIsAssociative
join_is_associative xs ys zs left right joined n l r j =
    let whole : IsTop joined ((xs ++ ys) ++ zs) = top_of_top (xs ++ ys) zs left joined l j in
    let grouped : IsTop joined (xs ++ (ys ++ zs)) =
    top_of_same joined ((xs ++ ys) ++ zs) (xs ++ (ys ++ zs)) (regrouped xs ys zs) (ungrouped xs ys zs) whole in
    let turned : IsTop joined ((ys ++ zs) ++ xs) = join_is_commutative xs (ys ++ zs) joined grouped in
    let part : IsTop joined (right ++ xs) = top_of_union (ys ++ zs) xs right joined
    (single_part ((ys ++ zs) ++ xs) (xs ++ (ys ++ zs)) (swapped (ys ++ zs) xs) n) r turned in
    join_is_commutative right xs joined part

pub join_is_idempotent : JoinIsIdempotent
join_is_idempotent xs t =
    top_of_same xs xs (xs ++ xs) (λ c h. Contains-append_left xs xs c h) (part_union xs xs xs (λ c h. h) (λ c h. h)) t

pub join_is_least : JoinIsLeast
join_is_least xs ys joined j =
    record {
      left = λ c h. j.greatest c (Contains-append_left xs ys c h);
      right = λ c h. j.greatest c (Contains-append_right xs ys c h);
      least = λ other f g. covered_through joined (xs ++ ys) other (covered_by_part joined (xs ++ ys) j.among)
          (covered_union xs ys other f g);
    }

pub top_of_covered : TopOfCovered
unfolding IsStrictlySortedBy
top_of_covered c known h =
    record {
      in_order = (tt, tt);
      among = λ d k. subst (λ (z : Item). Contains (covered_by c known) z) (sym (Contains-single c d k))
          (Contains-filter (covers c) known c h (covers-refl c));
      greatest = λ d k. (c, Contains-head c [], (Contains-from_filter (covers c) known d k).1);
      none_void = λ f e k l. absurd (let m : Floored f ≡ Changed e =
          Contains-single c (Floored f) k ∙ sym (Contains-single c (Changed e) l) in cc);
    }

pub top_of_nothing : IsTop [] []
unfolding IsStrictlySortedBy
top_of_nothing =
    record {
      in_order = tt;
      among = λ c h. h;
      greatest = λ c h. absurd (Contains-nil c h);
      none_void = λ f c h k.
          absurd (Contains-nil (Floored f) h);
    }

pub held_is_top : HeldIsItsTop
held_is_top held set t =
    record { in_order = t.in_order; among = λ c k. k; greatest = λ c k. (c, k, covers-refl c); none_void = t.none_void }
