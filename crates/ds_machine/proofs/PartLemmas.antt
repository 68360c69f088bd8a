-- What is found in lists, and among items for a key and for an owner.
use Rattle.std.proofs.Common.{◌≡◌, ℕ, Bool, true, false, cond, ◌||◌, List, [], ◌∷◌, ◌++◌, take, length, Some, None, refl, sym, ap, ◌∙◌}
use Rattle.std.proofs.Common.{subst, inl, inr, Contains}
use Rattle.std.proofs.lemmas.Option.{same_Some}
use Rattle.std.specs.List.{find, list_any}
use Rattle.std.specs.declared.cmp.Ordering.TheVariants.{Equal}
use Rattle.std.specs.Ordering.{eq_by_cmp}
use Rattle.std.proofs.lemmas.Cmp.{nat_list_cmp_total, tied_itself}
use Rattle.ds_names.specs.declared.key.Key.{Key}
use Rattle.ds_names.specs.Key.{name_cmp, key_cmp}
use Rattle.ds_names.proofs.OrderLemmas.{keys_total}
use Rattle.ds_entry.specs.Change.{ChangeRecord}
use Rattle.ds_entry.specs.Item.{item_cmp}
use Rattle.ds_entry.specs.declared.floor.Floor.{Floor}
use Rattle.ds_entry.specs.declared.item.Item.{Item}
use Rattle.ds_entry.specs.declared.item.Item.TheVariants.{Change as Changed, Floor as Floored}
use Rattle.ds_entry.proofs.Members.{Contains-nil, Contains-head, Contains-tail, Contains-cons}
use Rattle.ds_entry.proofs.CoversLemmas.{same_key, same_key-refl, same_name, same_name-refl}
use Rattle.ds_entry.proofs.ItemLemmas.{items_total}
use Rattle.ds_entry.proofs.OrderedLemmas.{tied_once}
use Rattle.ds_join.specs.ItemTop.{IsTop}
use Rattle.ds_machine.specs.Parts.{changes_in, floors_in, held_at, floor_at}

-- ---- what is found in a list
pub found : {X : Type 0} (p : X → Bool) (xs : List X) (x : X) → find p xs ≡ Some x → Contains xs x × (p x ≡ true)
found p [] x h = absurd (cc)
found p (y ∷ ys) x h = by_test (p y) refl h (found p ys x)
  where
    by_test : (b : Bool) → p y ≡ b → cond b (Some y) (find p ys) ≡ Some x → (find p ys ≡ Some x → Contains ys x × (p x ≡ true)) →
        Contains (y ∷ ys) x × (p x ≡ true)
    by_test true e q rest = let same : y ≡ x = same_Some y x q in
        (subst (λ z. Contains (y ∷ ys) z) same (Contains-head y ys), ap p (sym same) ∙ e)
    by_test false e q rest = let r = rest q in (Contains-tail y ys x r.0, r.1)

pub missing : {X : Type 0} (p : X → Bool) (xs : List X) (x : X) → find p xs ≡ None → Contains xs x → p x ≡ false
missing p [] x h k = absurd (Contains-nil x k)
missing p (y ∷ ys) x h k = by_test (p y) refl h (missing p ys x)
  where
    by_test : (b : Bool) → p y ≡ b → cond b (Some y) (find p ys) ≡ None → (find p ys ≡ None → Contains ys x → p x ≡ false) → p x ≡ false
    by_test true e q rest = absurd (cc)
    by_test false e q rest = elim (Contains-cons y ys x k) [ inl s ↦ ap p s ∙ e | inr t ↦ rest q t ]

-- where what is found isn't in the front, nothing in the front passes
pub passed : {X : Type 0} (p q : X → Bool) (front rest : List X) (x y : X) → find p (front ++ rest) ≡ Some y → q y ≡ true →
    list_any q front ≡ false → Contains front x → p x ≡ false
passed p q [] rest x y h k n l = absurd (Contains-nil x l)
passed p q (z ∷ front) rest x y h k n l = by_test (p z) refl h (q z) refl n (λ s m t. passed p q front rest x y s k m t)
  where
    by_test : (b : Bool) → p z ≡ b → cond b (Some z) (find p (front ++ rest)) ≡ Some y → (a : Bool) → q z ≡ a →
        a || list_any q front ≡ false
        → (find p (front ++ rest) ≡ Some y → list_any q front ≡ false → Contains front x → p x ≡ false) → p x ≡ false
    by_test b e s true f m more = absurd (cc)
    by_test true e s false f m more = absurd (let t : true ≡ false = sym k ∙ ap q (sym (same_Some z y s)) ∙ f in cc)
    by_test false e s false f m more = elim (Contains-cons z front x l) [ inl t ↦ ap p t ∙ e | inr t ↦ more s m t ]

pub take_whole : {X : Type 0} (xs : List X) → take (length xs) xs ≡ xs
take_whole [] = refl
take_whole (x ∷ xs) = ap (λ l. x ∷ l) (take_whole xs)

-- ---- the changes and the floors among items
change_or : Item → ChangeRecord → ChangeRecord
change_or (Changed c) d = c
change_or (Floored f) d = d

floor_or : Item → Floor → Floor
floor_or (Changed c) g = g
floor_or (Floored f) g = f

pub changed_same : (c d : ChangeRecord) → Changed c ≡ Changed d → c ≡ d
unfolding change_or
changed_same c d e = ap (λ (i : Item). change_or i c) e

pub floored_same : (f g : Floor) → Floored f ≡ Floored g → f ≡ g
unfolding floor_or
floored_same f g e = ap (λ (i : Item). floor_or i f) e

pub changes_in-from : (items : List Item) (c : ChangeRecord) → Contains (changes_in items) c → Contains items (Changed c)
changes_in-from [] c h = absurd (Contains-nil c h)
changes_in-from (Changed d ∷ items) c h = elim (Contains-cons d (changes_in items) c h) [
  | inl e ↦ subst (λ (x : ChangeRecord). Contains (Changed d ∷ items) (Changed x)) (sym e) (Contains-head (Changed d) items)
  | inr t ↦ Contains-tail (Changed d) items (Changed c) (changes_in-from items c t)
]
changes_in-from (Floored f ∷ items) c h = Contains-tail (Floored f) items (Changed c) (changes_in-from items c h)

pub changes_in-to : (items : List Item) (c : ChangeRecord) → Contains items (Changed c) → Contains (changes_in items) c
changes_in-to [] c h = absurd (Contains-nil (Changed c) h)
changes_in-to (Changed d ∷ items) c h = elim (Contains-cons (Changed d) items (Changed c) h) [
  | inl e ↦ subst (λ (x : ChangeRecord). Contains (d ∷ changes_in items) x) (sym (changed_same c d e)) (Contains-head d (changes_in items))
  | inr t ↦ Contains-tail d (changes_in items) c (changes_in-to items c t)
]
changes_in-to (Floored f ∷ items) c h = elim (Contains-cons (Floored f) items (Changed c) h)
    [ inl e ↦ absurd (cc) | inr t ↦ changes_in-to items c t ]

pub floors_in-from : (items : List Item) (f : Floor) → Contains (floors_in items) f → Contains items (Floored f)
floors_in-from [] f h = absurd (Contains-nil f h)
floors_in-from (Floored g ∷ items) f h = elim (Contains-cons g (floors_in items) f h) [
  | inl e ↦ subst (λ (x : Floor). Contains (Floored g ∷ items) (Floored x)) (sym e) (Contains-head (Floored g) items)
  | inr t ↦ Contains-tail (Floored g) items (Floored f) (floors_in-from items f t)
]
floors_in-from (Changed c ∷ items) f h = Contains-tail (Changed c) items (Floored f) (floors_in-from items f h)

pub floors_in-to : (items : List Item) (f : Floor) → Contains items (Floored f) → Contains (floors_in items) f
floors_in-to [] f h = absurd (Contains-nil (Floored f) h)
floors_in-to (Floored g ∷ items) f h = elim (Contains-cons (Floored g) items (Floored f) h) [
  | inl e ↦ subst (λ (x : Floor). Contains (g ∷ floors_in items) x) (sym (floored_same f g e)) (Contains-head g (floors_in items))
  | inr t ↦ Contains-tail g (floors_in items) f (floors_in-to items f t)
]
floors_in-to (Changed c ∷ items) f h = elim (Contains-cons (Changed c) items (Floored f) h)
    [ inl e ↦ absurd (cc) | inr t ↦ floors_in-to items f t ]

-- ---- what is held for a key, and for an owner
module _ (held : List Item) where
  pub key_found : (key : Key) (c : ChangeRecord) → held_at held key ≡ Some c → Contains held (Changed c) × (key ≡ c.key)
  key_found key c e =
      let at = found (λ (x : ChangeRecord). eq_by_cmp key_cmp key x.key) (changes_in held) c e in
      (changes_in-from held c at.0, same_key key c.key at.1)

  pub key_missing : (key : Key) (c : ChangeRecord) → held_at held key ≡ None → Contains held (Changed c) → key ≡ c.key → ⊥
  key_missing key c e h k =
      let n : eq_by_cmp key_cmp key c.key ≡ false =
      missing (λ (x : ChangeRecord). eq_by_cmp key_cmp key x.key) (changes_in held) c e (changes_in-to held c h) in
      let t : true ≡ false = sym (same_key-refl key c.key k) ∙ n in
      absurd (cc)

  pub owner_found : (owner : List ℕ) (f : Floor) → floor_at held owner ≡ Some f → Contains held (Floored f) × (owner ≡ f.owner)
  owner_found owner f e =
      let at = found (λ (x : Floor). eq_by_cmp name_cmp owner x.owner) (floors_in held) f e in
      (floors_in-from held f at.0, same_name owner f.owner at.1)

  pub owner_missing : (owner : List ℕ) (f : Floor) → floor_at held owner ≡ None → Contains held (Floored f) → owner ≡ f.owner → ⊥
  owner_missing owner f e h k =
      let n : eq_by_cmp name_cmp owner f.owner ≡ false =
      missing (λ (x : Floor). eq_by_cmp name_cmp owner x.owner) (floors_in held) f e (floors_in-to held f h) in
      let t : true ≡ false = sym (same_name-refl owner f.owner k) ∙ n in
      absurd (cc)

  -- there is one for each
  pub one_change : (set : List Item) → IsTop held set → (c d : ChangeRecord) → Contains held (Changed c) → Contains held (Changed d) →
      c.key ≡ d.key → c ≡ d
  one_change set t c d h k e =
      changed_same c d (tied_once item_cmp items_total held (Changed c) (Changed d) t.in_order h k
      (subst (λ (x : Key). key_cmp c.key x ≡ Equal) e (tied_itself keys_total c.key)))

  pub one_floor : (set : List Item) → IsTop held set → (f g : Floor) → Contains held (Floored f) → Contains held (Floored g) →
      f.owner ≡ g.owner → f ≡ g
  one_floor set t f g h k e =
      floored_same f g (tied_once item_cmp items_total held (Floored f) (Floored g) t.in_order h k
      (subst (λ (x : List ℕ). name_cmp f.owner x ≡ Equal) e (tied_itself nat_list_cmp_total f.owner)))
