-- A map's labels are no older than the changes that its takes cover.
use Rattle.std.proofs.Common.{◌≡◌, not, ℕ, ◌<◌, ◌≤◌, true, false, List, Option, Some, None, refl, sym, ap, ◌∙◌, subst, inl, inr, ◌⊎◌, arith}
use Rattle.std.proofs.Common.{Contains}
use Rattle.std.specs.Option.{option_and_then}
use Rattle.ds_names.specs.Endpoint.{EndpointRecord}
use Rattle.ds_names.specs.Key.{label_key}
use Rattle.ds_names.specs.Kind.{is_label}
use Rattle.ds_names.specs.declared.key.Key.{Key}
use Rattle.ds_entry.specs.Change.{ChangeRecord, IsChange, IsLabelBody, IsLabelChange, KeepsRule}
use Rattle.ds_entry.specs.Item.{IsItem}
use Rattle.ds_entry.specs.ItemCovers.{covers}
use Rattle.ds_entry.specs.Left.{endpoint_in, endpoint_of_value, value_of}
use Rattle.ds_entry.specs.declared.body.Value.{Value}
use Rattle.ds_entry.specs.declared.body.Value.TheVariants as values
use Rattle.ds_entry.specs.declared.body.Body.{Body}
use Rattle.ds_entry.specs.declared.body.Body.TheVariants.{Put, Gone}
use Rattle.ds_entry.specs.declared.item.Item.{Item}
use Rattle.ds_entry.specs.declared.item.Item.TheVariants.{Change as Changed, Floor as Floored}
use Rattle.ds_entry.proofs.CoversLemmas.{covers-key, covers-version}
use Rattle.ds_entry.proofs.ItemLemmas.{covers-trans, voids-is}
use Rattle.ds_join.specs.ItemTop.{CoversAll, IsTop}
use Rattle.ds_held.specs.Held.{held_for, held_items}
use Rattle.ds_held.proofs.HeldLemmas.{is_held, change_in}
use Rattle.ds_entry.specs.Under.{under}
use Rattle.ds_pattern.specs.Under.{is_under}
use Rattle.ds_replica.proofs.SentLemmas.{Contains-under}
use Rattle.ds_replica.proofs.LabelLemmas.{at_most-means}
use Rattle.ds_submap.specs.Map.{IsMap, SubMapRecord, endpoint_of_label}
use Rattle.holders.specs.Holding.{MapKnows}
use Rattle.holders.specs.NoOlder.{EachIsGone, LabelsAreNoOlder, NamesNoOlder, NoneIsNewer}
use Rattle.holders.proofs.KnownLemmas.{map_top}

module _ (map : SubMapRecord) (brought known : List Item) (name : List ℕ) (is_map : IsMap map) (knows : MapKnows map brought)
    (valid : (i : Item) → Contains brought i → IsItem i) (proper : (i : Item) → Contains known i → IsItem i)
    (cover : CoversAll brought (under (is_under map.query) known)) (under_query : is_under map.query (label_key name) ≡ true) where
  top : IsTop (held_items map.held) brought
  top = map_top map brought knows

  -- A change of the label keeps the rule of labels.
  label_body : (c : ChangeRecord) → IsChange c → c.key ≡ label_key name → IsLabelBody c.version c.body
  label_body c change e = let rule : IsLabelChange c = subst (λ (k : Key). KeepsRule k.kind c) e change.rule in rule.body

  -- The change that the map holds of the label covers each that is known.
  pub record HeldFor (c : ChangeRecord) : Type 0 where
    pub change : ChangeRecord
    pub there : held_for map.held (label_key name) ≡ Some change
    pub key : change.key ≡ label_key name
    pub here : Contains brought (Changed change)
    pub order : (c.version.epoch < change.version.epoch) ⊎ ((c.version.epoch ≡ change.version.epoch) × (c.version.seq ≤ change.version.seq))

  held_label : (c : ChangeRecord) → Contains known (Changed c) → c.key ≡ label_key name → HeldFor c
  held_label c h e =
      let d = cover (Changed c) (Contains-under (is_under map.query) known (Changed c) h (ap (is_under map.query) e ∙ under_query)) in
      let a = top.greatest d.0 d.1 in
      by_item a.0 a.1 (covers-trans a.0 d.0 (Changed c) a.2 d.2)
    where
      by_item : (a : Item) → Contains (held_items map.held) a → covers a (Changed c) ≡ true → HeldFor c
      by_item (Changed a) k q =
          let key : a.key ≡ label_key name = sym (covers-key a c q) ∙ e in
          record {
            change = a;
            there = ap (held_for map.held) (sym key) ∙ is_held map.held is_map.sound (Changed a) k;
            key = key;
            here = top.among (Changed a) k;
            order = at_most-means c.version a.version (covers-version a c q);
          }
      by_item (Floored f) k q =
          absurd
          (let kind : not (is_label c.key.kind) ≡ true = (voids-is f c q).kind in
          let no : false ≡ true = subst (λ (z : Key). not (is_label z.kind) ≡ true) e kind in
          cc)

  -- What the label names is what the held change leaves, if one is held.
  named : (a : ChangeRecord) → held_for map.held (label_key name) ≡ Some a → endpoint_of_label map.held name ≡ endpoint_in a.body
  named a e = ap (λ (o : Option ChangeRecord). option_and_then endpoint_of_value (option_and_then value_of o)) e

  pub labels : NamesNoOlder brought known name (endpoint_of_label map.held name)
  labels = by_held (held_for map.held (label_key name)) refl
    where
      -- without a held change, none is known
      nothing : held_for map.held (label_key name) ≡ None → (c : ChangeRecord) → Contains known (Changed c) → c.key ≡ label_key name → ⊥
      nothing e c h k = let a = held_label c h k in let n : None ≡ Some a.change = sym e ∙ a.there in cc

      same : (a : ChangeRecord) → held_for map.held (label_key name) ≡ Some a → (c : ChangeRecord) → (h : HeldFor c) → h.change ≡ a
      same a e c h = let s : Some h.change ≡ Some a = sym h.there ∙ e in cc

      order : (a : ChangeRecord) → held_for map.held (label_key name) ≡ Some a → (c : ChangeRecord) → Contains known (Changed c) →
          c.key ≡ label_key name →
          (c.version.epoch < a.version.epoch) ⊎ ((c.version.epoch ≡ a.version.epoch) × (c.version.seq ≤ a.version.seq))
      order a e c h k =
          let f = held_label c h k in
          subst (λ (x : ChangeRecord). (c.version.epoch < x.version.epoch) ⊎
          ((c.version.epoch ≡ x.version.epoch) × (c.version.seq ≤ x.version.seq))) (same a e c f) f.order

      gone : (a : ChangeRecord) → held_for map.held (label_key name) ≡ Some a → Contains brought (Changed a) → a.key ≡ label_key name →
          a.body ≡ Gone → EachIsGone brought known name
      gone a e t q b c h k = (a, t, q, b, by_order (order a e c h k))
        where
          by_order : (c.version.epoch < a.version.epoch) ⊎ ((c.version.epoch ≡ a.version.epoch) × (c.version.seq ≤ a.version.seq)) →
              c.version.epoch ≤ a.version.epoch
          by_order (inl l) = omega arith
          by_order (inr l) = omega arith

      live : (a : ChangeRecord) → held_for map.held (label_key name) ≡ Some a → (p : EndpointRecord) →
          (a.version.seq ≡ 0) × (a.version.epoch ≡ p.generation) → NoneIsNewer known name p
      live a e p rule = record {
        newest = λ c h k. newest c (order a e c h k);
        not_gone = λ c h k g. not_gone c (subst (λ (z : Body). IsLabelBody c.version z) g (label_body c (proper (Changed c) h) k))
            (order a e c h k);
      }
        where
          newest : (c : ChangeRecord) → (c.version.epoch < a.version.epoch) ⊎
              ((c.version.epoch ≡ a.version.epoch) × (c.version.seq ≤ a.version.seq)) → c.version.epoch ≤ p.generation
          newest c (inl l) = let g : a.version.epoch ≡ p.generation = rule.1 in omega arith
          newest c (inr l) = let g : a.version.epoch ≡ p.generation = rule.1 in let m : c.version.epoch ≡ a.version.epoch = l.0 in
              omega arith

          not_gone : (c : ChangeRecord) → c.version.seq ≡ 1 →
              (c.version.epoch < a.version.epoch) ⊎ ((c.version.epoch ≡ a.version.epoch) × (c.version.seq ≤ a.version.seq)) →
              c.version.epoch < p.generation
          not_gone c r (inl l) = let g : a.version.epoch ≡ p.generation = rule.1 in omega arith
          not_gone c r (inr l) = let s : a.version.seq ≡ 0 = rule.0 in absurd (let m : c.version.seq ≤ a.version.seq = l.1 in omega arith)

      by_value : (a : ChangeRecord) → held_for map.held (label_key name) ≡ Some a → (v : Value) → IsLabelBody a.version (Put v) →
          NamesNoOlder brought known name (endpoint_in (Put v))
      by_value a e (values.Label p) m = live a e p m
      by_value a e (values.U32 n) m = absurd m
      by_value a e (values.Str s) m = absurd m
      by_value a e (values.Mem s) m = absurd m

      by_body : (a : ChangeRecord) → held_for map.held (label_key name) ≡ Some a → Contains brought (Changed a) → a.key ≡ label_key name →
          (b : Body) → a.body ≡ b → IsLabelBody a.version b →
          NamesNoOlder brought known name (endpoint_in b)
      by_body a e t q Gone b m = gone a e t q b
      by_body a e t q (Put v) b m = by_value a e v m

      by_held : (o : Option ChangeRecord) → held_for map.held (label_key name) ≡ o →
          NamesNoOlder brought known name (endpoint_of_label map.held name)
      by_held None e =
          subst (NamesNoOlder brought known name)
          (sym (ap (λ (o : Option ChangeRecord). option_and_then endpoint_of_value (option_and_then value_of o)) e))
          (λ c h k. absurd (nothing e c h k))
      by_held (Some a) e =
          let key : a.key ≡ label_key name = is_map.sound.own (label_key name) a e in
          let mine : Contains brought (Changed a) = top.among (Changed a) (change_in map.held (label_key name) a e) in
          subst (NamesNoOlder brought known name) (sym (named a e))
          (by_body a e mine key a.body refl (label_body a (valid (Changed a) mine) key))

pub labels_are_no_older : LabelsAreNoOlder
labels_are_no_older map brought known name is_map knows valid proper cover under_query =
    labels map brought known name is_map knows valid proper cover under_query
