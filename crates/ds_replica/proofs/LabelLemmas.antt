-- Labels of what is held have the newest generation that is known.
use Rattle.std.proofs.Common.{◌≡◌, not, ℕ, ◌<◌, ◌≤◌, Bool, true, false, cond, List, [], ◌∷◌, Option, Some, None, refl, sym, ap, ◌∙◌, subst}
use Rattle.std.proofs.Common.{inl, inr, ◌⊎◌, arith}
use Rattle.std.specs.declared.cmp.Ordering.{Ordering}
use Rattle.std.specs.declared.cmp.Ordering.TheVariants.{Less, Equal, Greater}
use Rattle.std.specs.Ordering.{nat_cmp, eq_by_cmp, ordering_then, is_le, MatchOrdering}
use Rattle.std.proofs.lemmas.Cmp.{ranked, tied_itself}
use Rattle.std.specs.List.{Contains}
use Rattle.ds_names.specs.Endpoint.{EndpointRecord}
use Rattle.ds_names.specs.Key.{key_cmp, label_key}
use Rattle.ds_names.specs.declared.key.Key.{Key}
use Rattle.ds_names.specs.declared.kind.Kind.{Kind}
use Rattle.ds_names.specs.declared.kind.Kind.TheVariants as kinds
use Rattle.ds_names.specs.declared.version.Version.{Version}
use Rattle.ds_names.proofs.OrderLemmas.{keys_total}
use Rattle.ds_entry.specs.Change.{ChangeRecord, IsChange, IsLabelBody, IsLabelChange, KeepsRule}
use Rattle.ds_entry.specs.Covers.{is_at_most}
use Rattle.ds_entry.specs.Item.{item_cmp, IsItem}
use Rattle.ds_entry.specs.ItemCovers.{covers}
use Rattle.ds_entry.specs.Void.{voids_it, is_void}
use Rattle.ds_entry.specs.declared.body.Value.{Value}
use Rattle.ds_entry.specs.declared.body.Value.TheVariants as values
use Rattle.ds_entry.specs.declared.body.Body.{Body}
use Rattle.ds_entry.specs.declared.body.Body.TheVariants.{Put, Gone}
use Rattle.ds_entry.specs.declared.floor.Floor.{Floor}
use Rattle.ds_entry.specs.declared.item.Item.{Item}
use Rattle.ds_entry.specs.declared.item.Item.TheVariants.{Change as Changed, Floor as Floored}
use Rattle.ds_entry.proofs.Members.{Contains-nil, Contains-cons, Contains-head, Contains-tail, Contains-from_list_any, none_pass}
use Rattle.ds_entry.proofs.CoversLemmas.{same_key, same_key-refl, covers-key, covers-version}
use Rattle.ds_entry.proofs.OrderedLemmas.{tied_once}
use Rattle.ds_entry.proofs.ItemLemmas.{items_total, voids-is}
use Rattle.ds_join.specs.ItemTop.{IsTop}
use Rattle.ds_replica.specs.Labels.{NothingOlderIsHeld, NoOlderLabelIsHeld, label_in, IsLive, IsGone, IsNewest, LabelsAreNewest}
use Rattle.ds_replica.proofs.SentLemmas.{Contains-under, Contains-from_under}
use Rattle.ds_replica.proofs.HoldingLemmas.{top_under_query}
use Rattle.ds_names.specs.Kind.{is_label}
use Rattle.ds_entry.specs.Under.{under}
use Rattle.ds_entry.specs.Left.{endpoint_in}

-- ---- nothing older is held

-- Two held changes of one key are equal.
one_per_key : (known held : List Item) → IsTop held known → (c d : ChangeRecord) → Contains held (Changed c) → Contains held (Changed d) →
    c.key ≡ d.key → c ≡ d
one_per_key known held t c d h k e =
    let tied : item_cmp (Changed c) (Changed d) ≡ Equal = subst (λ (l : Key). key_cmp c.key l ≡ Equal) e (tied_itself keys_total c.key) in
    let same : Changed c ≡ Changed d = tied_once item_cmp items_total held (Changed c) (Changed d) t.in_order h k tied in
    cc

-- a change that isn't void is covered by a held change
covered_by_change : (known held : List Item) (c : ChangeRecord) → IsTop held known → Contains known (Changed c) → is_void known c ≡ false →
    (d : ChangeRecord) × Contains held (Changed d) × (covers (Changed d) (Changed c) ≡ true)
covered_by_change known held c t h v = let d = t.greatest (Changed c) h in over d.0 d.1 d.2
  where
    over : (d : Item) → Contains held d → covers d (Changed c) ≡ true →
        (d : ChangeRecord) × Contains held (Changed d) × (covers (Changed d) (Changed c) ≡ true)
    over (Changed d) k e = (d, k, e)
    over (Floored f) k e = let no : true ≡ false = sym e ∙ none_pass (voids_it c) known (Floored f) v (t.among (Floored f) k) in absurd (cc)

pub nothing_older : NothingOlderIsHeld
nothing_older known held c t h v =
    let d = covered_by_change known held c t h v in
    record {
      some = (d.0, d.1, sym (covers-key d.0 c d.2));
      each = λ e k q. subst (λ (z : ChangeRecord). is_at_most c.version z.version ≡ true)
          (one_per_key known held t d.0 e d.1 k (sym (covers-key d.0 c d.2) ∙ sym q)) (covers-version d.0 c d.2);
    }

-- No floor voids a label.
label_stays : (items : List Item) (c : ChangeRecord) → c.key.kind ≡ kinds.Label → is_void items c ≡ false
label_stays items c e = by_test (is_void items c) refl
  where
    by_item : (i : Item) → voids_it c i ≡ true → ⊥
    by_item (Changed d) k = cc
    by_item (Floored f) k =
        let kind : not (is_label c.key.kind) ≡ true = (voids-is f c k).kind in
        let no : false ≡ true = subst (λ (z : Kind). not (is_label z) ≡ true) e kind in
        cc

    by_test : (b : Bool) → is_void items c ≡ b → b ≡ false
    by_test false k = refl
    by_test true k = let i = Contains-from_list_any (voids_it c) items k in absurd (by_item i.0 i.2)

pub no_older_label : NoOlderLabelIsHeld
no_older_label known held c t h e = nothing_older known held c t h (label_stays known c e)

-- ---- which endpoint a label has

pub at_most-means : (v w : Version) → is_at_most v w ≡ true → (v.epoch < w.epoch) ⊎ ((v.epoch ≡ w.epoch) × (v.seq ≤ w.seq))
at_most-means v w h = by_order (nat_cmp v.epoch w.epoch) (nat_cmp v.seq w.seq) (ranked v.epoch w.epoch (nat_cmp v.epoch w.epoch) refl)
    (ranked v.seq w.seq (nat_cmp v.seq w.seq) refl) h
  where
    by_order : (o p : Ordering) → MatchOrdering o (v.epoch < w.epoch) (v.epoch ≡ w.epoch) (w.epoch < v.epoch) →
        MatchOrdering p (v.seq < w.seq) (v.seq ≡ w.seq) (w.seq < v.seq) →
        is_le (ordering_then o p) ≡ true → (v.epoch < w.epoch) ⊎ ((v.epoch ≡ w.epoch) × (v.seq ≤ w.seq))
    by_order Less p a b h = inl a
    by_order Equal Less a b h = inr (a, omega arith)
    by_order Equal Equal a b h = inr (a, omega arith)
    by_order Equal Greater a b h = cc
    by_order Greater p a b h = cc

-- The held change of the label, or that there is none.
data Finds (held : List Item) (name : List ℕ) (o : Option EndpointRecord) : Type 0 where
  found : (c : ChangeRecord) → Contains held (Changed c) → c.key ≡ label_key name → o ≡ endpoint_in c.body → Finds held name o
  missing : ((c : ChangeRecord) → Contains held (Changed c) → c.key ≡ label_key name → ⊥) → o ≡ None → Finds held name o

finds_floor : (f : Floor) (items : List Item) (name : List ℕ) (o : Option EndpointRecord) → Finds items name o →
    Finds (Floored f ∷ items) name o
finds_floor f items name o (found d h e q) = found d (Contains-tail (Floored f) items (Changed d) h) e q
finds_floor f items name o (missing g q) =
    missing (λ d h e. elim (Contains-cons (Floored f) items (Changed d) h)
    [ inl k ↦ absurd (let n : Changed d ≡ Floored f = k in cc) | inr k ↦ g d k e ]) q

label_finds : (held : List Item) (name : List ℕ) → Finds held name (label_in held name)
label_finds [] name = missing (λ c h e. Contains-nil (Changed c) h) refl
label_finds (Floored f ∷ items) name = finds_floor f items name (label_in items name) (label_finds items name)
label_finds (Changed c ∷ items) name = by_test (eq_by_cmp key_cmp c.key (label_key name)) refl (label_finds items name)
  where
    other : (d : ChangeRecord) → eq_by_cmp key_cmp c.key (label_key name) ≡ false → Changed d ≡ Changed c → d.key ≡ label_key name → ⊥
    other d b k e =
        let same : d ≡ c = cc in
        let t : eq_by_cmp key_cmp c.key (label_key name) ≡ true =
        same_key-refl c.key (label_key name) (subst (λ (z : ChangeRecord). z.key ≡ label_key name) same e) in
        let n : true ≡ false = sym t ∙ b in
        cc

    wider : (o : Option EndpointRecord) → eq_by_cmp key_cmp c.key (label_key name) ≡ false → Finds items name o →
        Finds (Changed c ∷ items) name o
    wider o b (found d h e q) = found d (Contains-tail (Changed c) items (Changed d) h) e q
    wider o b (missing f q) = missing (λ d h e.
        elim (Contains-cons (Changed c) items (Changed d) h) [ inl k ↦ other d b k e | inr k ↦ f d k e ]) q

    by_test : (b : Bool) → eq_by_cmp key_cmp c.key (label_key name) ≡ b → Finds items name (label_in items name) →
        Finds (Changed c ∷ items) name (cond b (endpoint_in c.body) (label_in items name))
    by_test true e rest = found c (Contains-head (Changed c) items) (same_key c.key (label_key name) e) refl
    by_test false e rest = wider (label_in items name) e rest

module _ (known held : List Item) (name : List ℕ) (t : IsTop held known) (valid : (i : Item) → Contains known i → IsItem i) where
  -- a known change of the label keeps the rule of labels
  label_body : (c : ChangeRecord) → Contains known (Changed c) → c.key ≡ label_key name → IsLabelBody c.version c.body
  label_body c h e =
      let change : IsChange c = valid (Changed c) h in
      let rule : IsLabelChange c = subst (λ (k : Key). KeepsRule k.kind c) e change.rule in
      rule.body

  -- A held change of the label isn't older than what is known.
  not_older : (c : ChangeRecord) → Contains held (Changed c) → c.key ≡ label_key name → (d : ChangeRecord) → Contains known (Changed d) →
      d.key ≡ label_key name →
      (d.version.epoch < c.version.epoch) ⊎ ((d.version.epoch ≡ c.version.epoch) × (d.version.seq ≤ c.version.seq))
  not_older c h e d k q = at_most-means d.version c.version
      ((no_older_label known held d t k (ap (λ (l : Key). l.kind) q)).each c h (e ∙ sym q))

  gone_newest : (c : ChangeRecord) → Contains held (Changed c) → c.key ≡ label_key name → c.body ≡ Gone → IsGone known name
  gone_newest c h e b d k q = (c, t.among (Changed c) h, e, b, by_epoch (not_older c h e d k q))
    where
      by_epoch : (d.version.epoch < c.version.epoch) ⊎ ((d.version.epoch ≡ c.version.epoch) × (d.version.seq ≤ c.version.seq)) →
          d.version.epoch ≤ c.version.epoch
      by_epoch (inl l) = omega arith
      by_epoch (inr l) = omega arith

  live_newest : (c : ChangeRecord) → Contains held (Changed c) → c.key ≡ label_key name → (p : EndpointRecord) →
      c.body ≡ Put (values.Label p) → IsLive known name p
  live_newest c h e p b =
      let rule : IsLabelBody c.version (Put (values.Label p)) =
      subst (λ (z : Body). IsLabelBody c.version z) b (label_body c (t.among (Changed c) h) e) in
      record {
        put = (c, t.among (Changed c) h, e, b);
        newest = λ d k q. newest d rule (not_older c h e d k q);
        not_gone = λ d k q g. not_gone d rule (subst (λ (z : Body). IsLabelBody d.version z) g (label_body d k q)) (not_older c h e d k q);
      }
    where
      newest : (d : ChangeRecord) → (c.version.seq ≡ 0) × (c.version.epoch ≡ p.generation) →
          (d.version.epoch < c.version.epoch) ⊎ ((d.version.epoch ≡ c.version.epoch) × (d.version.seq ≤ c.version.seq)) →
          d.version.epoch ≤ p.generation
      newest d r (inl l) = let g : c.version.epoch ≡ p.generation = r.1 in omega arith
      newest d r (inr l) = let g : c.version.epoch ≡ p.generation = r.1 in omega arith

      not_gone : (d : ChangeRecord) → (c.version.seq ≡ 0) × (c.version.epoch ≡ p.generation) → d.version.seq ≡ 1 →
          (d.version.epoch < c.version.epoch) ⊎ ((d.version.epoch ≡ c.version.epoch) × (d.version.seq ≤ c.version.seq)) →
          d.version.epoch < p.generation
      not_gone d r u (inl l) = let g : c.version.epoch ≡ p.generation = r.1 in omega arith
      not_gone d r u (inr l) = let s : c.version.seq ≡ 0 = r.0 in absurd (let m : d.version.seq ≤ c.version.seq = l.1 in omega arith)

  by_value : (c : ChangeRecord) → Contains held (Changed c) → c.key ≡ label_key name → (v : Value) → c.body ≡ Put v →
      IsLabelBody c.version (Put v) → IsNewest known name (endpoint_in (Put v))
  by_value c h e (values.Label p) q m = live_newest c h e p q
  by_value c h e (values.U32 n) q m = absurd m
  by_value c h e (values.Str s) q m = absurd m
  by_value c h e (values.Mem s) q m = absurd m

  by_body : (c : ChangeRecord) → Contains held (Changed c) → c.key ≡ label_key name → (b : Body) → c.body ≡ b → IsLabelBody c.version b →
      IsNewest known name (endpoint_in b)
  by_body c h e Gone q m = gone_newest c h e q
  by_body c h e (Put v) q m = by_value c h e v q m

  label_newest : IsNewest known name (label_in held name)
  label_newest = by_find (label_in held name) (label_finds held name)
    where
      by_find : (o : Option EndpointRecord) → Finds held name o → IsNewest known name o
      by_find o (found c h e q) = subst (λ (z : Option EndpointRecord). IsNewest known name z) (sym q)
          (by_body c h e c.body refl (label_body c (t.among (Changed c) h) e))
      by_find o (missing f q) =
          subst (λ (z : Option EndpointRecord). IsNewest known name z) (sym q)
          (λ d k r. let s = (no_older_label known held d t k (ap (λ (l : Key). l.kind) r)).some in absurd (f s.0 s.1 (s.2 ∙ r)))

-- what holds of all that is known under a query with the label holds of all that is known
newest-under : (query : Key → Bool) (known : List Item) (name : List ℕ) (o : Option EndpointRecord) → query (label_key name) ≡ true →
    IsNewest (under query known) name o → IsNewest known name o
newest-under query known name None p h =
    λ c k e.
    let d = h c (Contains-under query known (Changed c) k (ap query e ∙ p)) e in
    (d.0, (Contains-from_under query known (Changed d.0) d.1).0, d.2, d.3, d.4)
newest-under query known name (Some s) p h =
    record {
      put = let c = h.put in (c.0, (Contains-from_under query known (Changed c.0) c.1).0, c.2, c.3);
      newest = λ c k e. h.newest c (Contains-under query known (Changed c) k (ap query e ∙ p)) e;
      not_gone = λ c k e g. h.not_gone c (Contains-under query known (Changed c) k (ap query e ∙ p)) e g;
    }

-- A top of what is known under the query has it.
pub labels_of_a_top : (query : Key → Bool) (known held : List Item) (name : List ℕ) → ((i : Item) → Contains known i → IsItem i) →
    IsTop held (under query known) → query (label_key name) ≡ true → IsNewest known name (label_in held name)
labels_of_a_top query known held name valid t p =
    newest-under query known name (label_in held name) p
    (label_newest (under query known) held name t (λ i h. valid i (Contains-from_under query known i h).0))

pub labels_are_newest : LabelsAreNewest
labels_are_newest query known held name valid t p =
    labels_of_a_top query known (under query held) name valid (top_under_query query known held t) p
