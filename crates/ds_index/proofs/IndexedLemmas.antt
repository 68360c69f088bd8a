-- What is listed of what is held.
use Rattle.std.proofs.Common.{◌≡◌, ℕ, ◌⊎◌, ◌==◌, Bool, true, false, cond, List, [], ◌∷◌, Option, Some, None, refl, sym, ap, ◌∙◌, subst, inl}
use Rattle.std.proofs.Common.{inr, Contains}
use Rattle.std.specs.declared.cmp.Ordering.{Ordering}
use Rattle.std.specs.declared.cmp.Ordering.TheVariants.{Less, Equal, Greater}
use Rattle.std.specs.Ordering.{nat_cmp, is_eq, eq_by_cmp, ordering_then, ordering_reverse}
use Rattle.std.specs.Cmp.{tied_itself}
use Rattle.std.specs.FinMap.{FinMap, empty, get, insert, values, get-insert, get-empty}
use Rattle.std.specs.List.{find}
use Rattle.std.specs.List.Sorted.{IsStrictlySortedBy}
use Rattle.std.specs.Option.{option_map}
use Rattle.std.proofs.lemmas.Option.{same_Some}
use Rattle.std.proofs.lemmas.Cmp.{nat_list_cmp_total}
use Rattle.std.proofs.lemmas.Map.Keys.{sorted_head, sorted_tail}
use Rattle.std.proofs.lemmas.Bool.{eqb-true, eq-eqb, and_parts, and_from}
use Rattle.std.proofs.lemmas.List.Elements.{All-contains}
use Rattle.std.specs.List.{All}
use Rattle.ds_names.specs.Endpoint.{EndpointRecord}
use Rattle.ds_names.specs.Key.{name_cmp, key_cmp, label_key}
use Rattle.ds_names.specs.declared.key.Key.{Key}
use Rattle.ds_names.specs.declared.kind.Kind.{Kind}
use Rattle.ds_names.specs.declared.kind.Kind.TheVariants.{Label}
use Rattle.ds_names.proofs.OrderLemmas.{keys_total}
use Rattle.ds_entry.specs.declared.body.Value.{Value}
use Rattle.ds_entry.specs.declared.body.Value.TheVariants as values
use Rattle.ds_entry.specs.declared.body.Body.{Body}
use Rattle.ds_entry.specs.declared.body.Body.TheVariants.{Put, Gone}
use Rattle.ds_entry.specs.Change.{ChangeRecord, IsChange, IsOfKind}
use Rattle.ds_entry.specs.Covers.{change_cmp}
use Rattle.ds_entry.proofs.Members.{In, In-from_Contains, Contains-from_In, Contains-nil}
use Rattle.ds_entry.proofs.CoversLemmas.{same_key, same_key-refl}
use Rattle.ds_join.specs.Label.{names_endpoint, is_label_of}
use Rattle.ds_join.proofs.MapLemmas.{held_in_order, Contains-held, held_at_key}
use Rattle.ds_index.specs.declared.named.Named.{Named}
use Rattle.ds_index.specs.Named.{named_at, named_cmp, holder_cmp, holds_endpoint}
use Rattle.ds_index.specs.Index.{IsAdded, IsReplaced}
use Rattle.ds_index.specs.Indexed.{endpoint_left, holder_for, IsIndexed}
use Rattle.ds_index.proofs.NamedLemmas.{holders_total, same_holder}
use Rattle.ds_entry.specs.Left.{value_of, endpoint_of_value, endpoint_in}
use Rattle.std.specs.Prelude.{option_and_then}
use Rattle.ds_names.proofs.Tests.{equal_is}
use Rattle.ds_entry.proofs.OrderedLemmas.{from_along}

pub same_pair : {p q : Named} → p.endpoint ≡ q.endpoint → p.name ≡ q.name → p ≡ q
same_pair a b = λ i. record { endpoint = a i; name = b i }

none_is : {A : Type 0} {x : A} {P : Type 0} → None ≡ Some x → P
none_is e = absurd (cc)

-- a label's key is of its name
pub label_key_is : (key : Key) → key.kind ≡ Label → key ≡ label_key key.name
label_key_is key e = λ i. record { name = key.name; kind = e i }

-- ---- after a change was taken
module _ (old : FinMap key_cmp ChangeRecord) (c : ChangeRecord) where
  abbrev pub taken : FinMap key_cmp ChangeRecord
  taken = insert old c.key c

  holder_after : (name : List ℕ) (b : Bool) → eq_by_cmp key_cmp (label_key name) c.key ≡ b →
      holder_for taken name ≡ cond b (Some (endpoint_left c)) (holder_for old name)
  holder_after name b e = ap (option_map endpoint_left)
      (get-insert keys_total old c.key c (label_key name) ∙ ap (λ t. cond t (Some c) (get old (label_key name))) e) ∙ by_test b
    where
      by_test : (b : Bool) → option_map endpoint_left (cond b (Some c) (get old (label_key name))) ≡ cond b (Some (endpoint_left c))
          (holder_for old name)
      by_test true = refl
      by_test false = refl

  -- no label was
  pub other_indexed : (names : List Named) → IsIndexed old names → (c.key.kind ≡ Label → ⊥) → IsIndexed taken names
  other_indexed names i other = record {
    listed = λ p e. i.listed p (sym (same p.name) ∙ e);
    held = λ p h. same p.name ∙ i.held p h;
  }
    where
      same : (name : List ℕ) → holder_for taken name ≡ holder_for old name
      same name = by_test (eq_by_cmp key_cmp (label_key name) c.key) refl
        where
          by_test : (b : Bool) → eq_by_cmp key_cmp (label_key name) c.key ≡ b → holder_for taken name ≡ holder_for old name
          by_test true e = absurd (other (ap (λ (k : Key). k.kind) (sym (same_key (label_key name) c.key e))))
          by_test false e = holder_after name false e

  module _ (names news : List Named) (after : Named) (i : IsIndexed old names) (label : c.key.kind ≡ Label)
      (is : after ≡ named_at (endpoint_left c) c.key.name) where
    own_key : eq_by_cmp key_cmp (label_key c.key.name) c.key ≡ true
    own_key = same_key-refl (label_key c.key.name) c.key (sym (label_key_is c.key label))

    after_held : (p : Named) → p ≡ after → holder_for taken p.name ≡ Some p.endpoint
    after_held p e = subst (λ (q : Named). holder_for taken q.name ≡ Some q.endpoint) (sym (e ∙ is)) (holder_after c.key.name true own_key)

    after_listed : (p : Named) → eq_by_cmp key_cmp (label_key p.name) c.key ≡ true → holder_for taken p.name ≡ Some p.endpoint → p ≡ after
    after_listed p e h =
        same_pair (sym (same_Some (endpoint_left c) p.endpoint (sym (holder_after p.name true e) ∙ h)))
        (ap (λ (k : Key). k.name) (same_key (label_key p.name) c.key e)) ∙ sym is

    -- a new label was
    pub new_indexed : get old c.key ≡ None → IsAdded names news after → IsIndexed taken news
    new_indexed none added = record {
      listed = λ p e. by_listed p (eq_by_cmp key_cmp (label_key p.name) c.key) refl e;
      held = λ p h. elim (added.only p h) [
        | inl e ↦ after_held p e
        | inr k ↦ by_held p (eq_by_cmp key_cmp (label_key p.name) c.key) refl k
      ];
    }
      where
        by_listed : (p : Named) (b : Bool) → eq_by_cmp key_cmp (label_key p.name) c.key ≡ b → holder_for taken p.name ≡ Some p.endpoint →
            Contains news p
        by_listed p true e h = subst (λ (q : Named). Contains news q) (sym (after_listed p e h)) added.here
        by_listed p false e h = added.keeps p (i.listed p (sym (holder_after p.name false e) ∙ h))

        by_held : (p : Named) (b : Bool) → eq_by_cmp key_cmp (label_key p.name) c.key ≡ b → Contains names p →
            holder_for taken p.name ≡ Some p.endpoint
        by_held p true e k = none_is (sym (ap (λ (key : Key). option_map endpoint_left (get old key)) (same_key (label_key p.name) c.key e)
            ∙ ap (option_map endpoint_left) none) ∙ i.held p k)
        by_held p false e k = holder_after p.name false e ∙ i.held p k

    pub not_listed : get old c.key ≡ None → Contains names after → ⊥
    not_listed none h =
        none_is
        (sym (ap (λ (q : Named). holder_for old q.name) is ∙
        ap (λ (key : Key). option_map endpoint_left (get old key)) (sym (label_key_is c.key label)) ∙ ap (option_map endpoint_left) none) ∙
        i.held after h)

    -- a label took the place of the one that was held
    module _ (before : Named) (name : before.name ≡ c.key.name) (held : holder_for old before.name ≡ Some before.endpoint) where
      pub lone : Contains names after → after ≡ before
      lone h =
          let same : after.name ≡ before.name = ap (λ (q : Named). q.name) is ∙ sym name in
          same_pair (same_Some after.endpoint before.endpoint (sym (i.held after h) ∙ ap (holder_for old) same ∙ held)) same

      pub over_indexed : IsReplaced names news before after → IsIndexed taken news
      over_indexed replaced = record {
        listed = λ p e. by_listed p (eq_by_cmp key_cmp (label_key p.name) c.key) refl e;
        held = λ p h. elim (replaced.only p h) [
          | inl e ↦ after_held p e
          | inr k ↦ by_held p (eq_by_cmp key_cmp (label_key p.name) c.key)
              refl k.0 k.1
        ];
      }
        where
          by_listed : (p : Named) (b : Bool) → eq_by_cmp key_cmp (label_key p.name) c.key ≡ b → holder_for taken p.name ≡ Some p.endpoint →
              Contains news p
          by_listed p true e h = subst (λ (q : Named). Contains news q) (sym (after_listed p e h)) replaced.here
          by_listed p false e h =
              replaced.keeps p (i.listed p (sym (holder_after p.name false e) ∙ h)) (λ q.
              (let no : true ≡ false = sym own_key ∙
              ap (λ n. eq_by_cmp key_cmp (label_key n) c.key) (sym name ∙ ap (λ (r : Named). r.name) (sym q)) ∙ e in absurd (cc)))

          by_held : (p : Named) (b : Bool) → eq_by_cmp key_cmp (label_key p.name) c.key ≡ b → Contains names p → (p ≡ before → ⊥) →
              holder_for taken p.name ≡ Some p.endpoint
          by_held p true e k n =
              let same : p.name ≡ before.name = ap (λ (key : Key). key.name) (same_key (label_key p.name) c.key e) ∙ sym name in
              absurd (n (same_pair (same_Some p.endpoint before.endpoint (sym (i.held p k) ∙ ap (holder_for old) same ∙ held)) same))
          by_held p false e k n = holder_after p.name false e ∙ i.held p k

pub nothing_indexed : (changes : FinMap key_cmp ChangeRecord) (names : List Named) → changes ≡ empty → names ≡ [] → IsIndexed changes names
nothing_indexed changes names e f = record {
  listed = λ p q. none_is (sym (ap (λ (x : FinMap key_cmp ChangeRecord). holder_for x p.name) e ∙
      ap (option_map endpoint_left) (get-empty key_cmp (label_key p.name))) ∙ q);
  held = λ p k. absurd (Contains-nil p (subst (λ (l : List Named). Contains l p) f k));
}

-- ---- the least name of an endpoint
module _ {X : Type 0} where
  passes : (p : X → Bool) (xs : List X) (x : X) → find p xs ≡ Some x → p x ≡ true
  passes p [] x e = absurd (cc)
  passes p (y ∷ ys) x e = by_test (p y) refl e (passes p ys x)
    where
      by_test : (b : Bool) → p y ≡ b → cond b (Some y) (find p ys) ≡ Some x → (find p ys ≡ Some x → p x ≡ true) → p x ≡ true
      by_test true q s rest = ap p (sym (same_Some y x s)) ∙ q
      by_test false q s rest = rest s

  among : (p : X → Bool) (xs : List X) (x : X) → find p xs ≡ Some x → In x xs
  among p [] x e = absurd (cc)
  among p (y ∷ ys) x e = by_test (p y) e (among p ys x)
    where
      by_test : (b : Bool) → cond b (Some y) (find p ys) ≡ Some x → (find p ys ≡ Some x → In x ys) → In x (y ∷ ys)
      by_test true s rest = inl (sym (same_Some y x s))
      by_test false s rest = inr (rest s)

  none_among : (p : X → Bool) (xs : List X) (x : X) → find p xs ≡ None → In x xs → p x ≡ true → ⊥
  none_among p [] x e h t = h
  none_among p (y ∷ ys) x e h t = by_test (p y) refl e h (λ s k. none_among p ys x s k t)
    where
      by_test : (b : Bool) → p y ≡ b → cond b (Some y) (find p ys) ≡ None → In x (y ∷ ys) → (find p ys ≡ None → In x ys → ⊥) → ⊥
      by_test true q s h rest = none_is (sym s)
      by_test false q s (inl r) rest = let no : true ≡ false = sym t ∙ ap p r ∙ q in absurd (cc)
      by_test false q s (inr k) rest = rest s k

  -- the first that passes comes before all others that do
  first_is_least : (R : X → X → Ordering) (p : X → Bool) (xs : List X) → IsStrictlySortedBy R xs → (x y : X) → find p xs ≡ Some x →
      In y xs → p y ≡ true → (x ≡ y) ⊎ (R x y ≡ Less)
  first_is_least R p [] s x y e h t = absurd h
  first_is_least R p (z ∷ zs) s x y e h t = by_test (p z) refl e h (λ f k. first_is_least R p zs (sorted_tail R z zs s) x y f k t)
    where
      by_test : (b : Bool) → p z ≡ b → cond b (Some z) (find p zs) ≡ Some x → In y (z ∷ zs) →
          (find p zs ≡ Some x → In y zs → (x ≡ y) ⊎ (R x y ≡ Less)) → (x ≡ y) ⊎ (R x y ≡ Less)
      by_test true q f (inl r) rest = inl (sym (same_Some z x f) ∙ sym r)
      by_test true q f (inr k) rest = inr (subst (λ w. R w y ≡ Less) (same_Some z x f)
          (from_along (λ w. R z w ≡ Less) zs y (sorted_head R z zs s) k))
      by_test false q f (inl r) rest = let no : true ≡ false = sym t ∙ ap p r ∙ q in absurd (cc)
      by_test false q f (inr k) rest = rest f k

-- Of two names, one isn't both before and after the other.
not_both : (a b : List ℕ) → name_cmp a b ≡ Less → name_cmp b a ≡ Less → ⊥
not_both a b l m = let no : Greater ≡ Less = sym (nat_list_cmp_total.antisymm b a ∙ ap ordering_reverse l) ∙ m in absurd (cc)

-- A value is the endpoint's label exactly if it has that endpoint.
value_holds : (e : EndpointRecord) (o : Option Value) → is_label_of e o ≡ true → option_and_then endpoint_of_value o ≡ Some e
value_holds e None h = absurd (cc)
value_holds e (Some (values.Label d)) h =
    let same = and_parts (d.generation == e.generation) (d.slot == e.slot) h in
    let generation : d.generation ≡ e.generation = eqb-true d.generation e.generation same.0 in
    let slot : d.slot ≡ e.slot = eqb-true d.slot e.slot same.1 in
    λ i. Some (record { generation = generation i; slot = slot i })
value_holds e (Some (values.U32 n)) h = absurd (cc)
value_holds e (Some (values.Str t)) h = absurd (cc)
value_holds e (Some (values.Mem b)) h = absurd (cc)

holds_value : (e : EndpointRecord) (o : Option Value) → option_and_then endpoint_of_value o ≡ Some e → is_label_of e o ≡ true
holds_value e None h = none_is h
holds_value e (Some (values.Label d)) h =
    let same : d ≡ e = same_Some d e h in
    and_from (d.generation == e.generation) (d.slot == e.slot)
    (eq-eqb d.generation e.generation (ap (λ (x : EndpointRecord). x.generation) same))
    (eq-eqb d.slot e.slot (ap (λ (x : EndpointRecord). x.slot) same))
holds_value e (Some (values.U32 n)) h = none_is h
holds_value e (Some (values.Str t)) h = none_is h
holds_value e (Some (values.Mem b)) h = none_is h

-- A value that leaves an endpoint is a label's.
label_kind : (e : EndpointRecord) (kind : Kind) (b : Body) → IsOfKind kind b → endpoint_in b ≡ Some e → kind ≡ Label
label_kind e kind (Put (values.Label d)) k h = sym k
label_kind e kind (Put (values.U32 n)) k h = none_is h
label_kind e kind (Put (values.Str t)) k h = none_is h
label_kind e kind (Put (values.Mem b)) k h = none_is h
label_kind e kind Gone k h = none_is h

module _ (changes : FinMap key_cmp ChangeRecord) (own : (key : Key) (c : ChangeRecord) → get changes key ≡ Some c → c.key ≡ key)
    (fit : All IsChange (values changes))
    (names : List Named) (sorted : IsStrictlySortedBy named_cmp names) (i : IsIndexed changes names) (e : EndpointRecord) where
  -- a held label of the endpoint is listed
  held_label : (c : ChangeRecord) → In c (values changes) → names_endpoint e c ≡ true → c.key ≡ label_key c.key.name
  held_label c k t =
      label_key_is c.key (label_kind e c.key.kind c.body
      (All-contains IsChange (values changes) c fit (Contains-from_In c (values changes) k)).kind (value_holds e (value_of c) t))

  held_listed : (c : ChangeRecord) → In c (values changes) → names_endpoint e c ≡ true → In (named_at (Some e) c.key.name) names
  held_listed c k t =
      In-from_Contains (named_at (Some e) c.key.name) names
      (i.listed (named_at (Some e) c.key.name)
      (ap (λ (key : Key). option_map endpoint_left (get changes key)) (sym (held_label c k t)) ∙
      ap (option_map endpoint_left) (held_at_key changes own c (Contains-from_In c (values changes) k)) ∙
      ap (λ o. Some o) (value_holds e (value_of c) t)))

  -- and a listed one of the endpoint is held
  pub record Holder (name : List ℕ) : Type 0 where
    pub change : ChangeRecord
    pub among : In change (values changes)
    pub holds : names_endpoint e change ≡ true
    pub key : change.key ≡ label_key name

  of_endpoint : (p : Named) → holds_endpoint e p ≡ true → p.endpoint ≡ Some e
  of_endpoint p t = same_holder p.endpoint (Some e) (equal_is (holder_cmp p.endpoint (Some e)) t)

  listed_held : (p : Named) → In p names → holds_endpoint e p ≡ true → Holder p.name
  listed_held p k t = by_held (get changes (label_key p.name)) refl
    where
      by_held : (o : Option ChangeRecord) → get changes (label_key p.name) ≡ o → Holder p.name
      by_held None q = none_is (sym (ap (option_map endpoint_left) q) ∙ i.held p (Contains-from_In p names k))
      by_held (Some c) q =
          let holds : endpoint_left c ≡ Some e =
          same_Some (endpoint_left c) (Some e) (sym (ap (option_map endpoint_left) q) ∙ i.held p (Contains-from_In p names k) ∙
          ap (λ o. Some o) (of_endpoint p t)) in
          record {
            change = c;
            among = In-from_Contains c (values changes) (Contains-held changes (label_key p.name) c q);
            holds =
                holds_value e (value_of c) holds;
            key = own (label_key p.name) c q;
          }

  is_of_itself : (name : List ℕ) → holds_endpoint e (named_at (Some e) name) ≡ true
  is_of_itself name = ap is_eq (tied_itself holders_total (Some e))

  name_before : (a b : List ℕ) → named_cmp (named_at (Some e) a) (named_at (Some e) b) ≡ Less → name_cmp a b ≡ Less
  name_before a b l = sym (ap (λ o. ordering_then o (name_cmp a b)) (tied_itself holders_total (Some e))) ∙ l

  key_before : (a b : List ℕ) → key_cmp (label_key a) (label_key b) ≡ Less → name_cmp a b ≡ Less
  key_before a b l = by_order (name_cmp a b) l
    where
      by_order : (o : Ordering) → ordering_then o (nat_cmp 0 0) ≡ Less → o ≡ Less
      by_order Less m = refl
      by_order Equal m = absurd (let no : Equal ≡ Less = m in cc)
      by_order Greater m = absurd (let no : Greater ≡ Less = m in cc)

  pub name_found : option_map (λ (p : Named). p.name) (find (holds_endpoint e) names) ≡ option_map (λ (c : ChangeRecord). c.key.name)
      (find (names_endpoint e) (values changes))
  name_found = by_found (find (holds_endpoint e) names) refl (find (names_endpoint e) (values changes)) refl
    where
      least : (p : Named) (c : ChangeRecord) → find (holds_endpoint e) names ≡ Some p → find (names_endpoint e) (values changes) ≡ Some c →
          (hold : Holder p.name) → In c (values changes) → names_endpoint e c ≡ true → p.endpoint ≡ Some e
          → (c ≡ hold.change) ⊎ (change_cmp c hold.change ≡ Less) →
          (p ≡ named_at (Some e) c.key.name) ⊎ (named_cmp p (named_at (Some e) c.key.name) ≡ Less) → p.name ≡ c.key.name
      least p c f g hold k t at (inl q) r = sym (ap (λ (x : ChangeRecord). x.key.name) q ∙ ap (λ (key : Key). key.name) hold.key)
      least p c f g hold k t at (inr l) (inl q) = ap (λ (x : Named). x.name) q
      least p c f g hold k t at (inr l) (inr m) =
          let first : key_cmp (label_key c.key.name) (label_key p.name) ≡ Less =
          ap (λ (key : Key). key_cmp key (label_key p.name)) (sym (held_label c k t)) ∙ ap (key_cmp c.key) (sym hold.key) ∙ l in
          let second : named_cmp (named_at (Some e) p.name) (named_at (Some e) c.key.name) ≡ Less =
          ap (λ o. named_cmp (named_at o p.name) (named_at (Some e) c.key.name)) (sym at) ∙ m in
          absurd (not_both c.key.name p.name (key_before c.key.name p.name first) (name_before p.name c.key.name second))

      by_found : (o : Option Named) → find (holds_endpoint e) names ≡ o → (r : Option ChangeRecord) →
          find (names_endpoint e) (values changes) ≡ r →
          option_map (λ (p : Named). p.name) o ≡ option_map (λ (c : ChangeRecord). c.key.name) r
      by_found None f None g = refl
      by_found None f (Some c) g =
          let k = among (names_endpoint e) (values changes) c g in
          let t = passes (names_endpoint e) (values changes) c g in
          absurd (none_among (holds_endpoint e) names (named_at (Some e) c.key.name) f (held_listed c k t) (is_of_itself c.key.name))
      by_found (Some p) f None g =
          let hold = listed_held p (among (holds_endpoint e) names p f) (passes (holds_endpoint e) names p f) in
          absurd (none_among (names_endpoint e) (values changes) hold.change g hold.among hold.holds)
      by_found (Some p) f (Some c) g =
          let hold = listed_held p (among (holds_endpoint e) names p f) (passes (holds_endpoint e) names p f) in
          let k = among (names_endpoint e) (values changes) c g in
          let t = passes (names_endpoint e) (values changes) c g in
          ap (λ n. Some n)
          (least p c f g hold k t (of_endpoint p (passes (holds_endpoint e) names p f))
          (first_is_least change_cmp (names_endpoint e) (values changes) (held_in_order changes own) c hold.change g hold.among hold.holds)
          (first_is_least named_cmp (holds_endpoint e) names sorted p (named_at (Some e) c.key.name) f (held_listed c k t)
          (is_of_itself c.key.name)))
