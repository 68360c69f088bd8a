-- What was made is single-numbered, and a store knows an instance by its service's name only.
use Rattle.std.proofs.Common.{◌≡◌, ◌==◌, ℕ, ◌<◌, Bool, true, false, not, cond, List, length, Option, Some, None, refl, ap, sym, ◌∙◌, subst}
use Rattle.std.proofs.Common.{inl, inr, arith, Contains}
use Rattle.std.specs.List.{find}
use Rattle.std.specs.Option.{option_map}
use Rattle.std.proofs.lemmas.Bool.{not-true, and_parts}
use Rattle.ds_names.specs.Endpoint.{EndpointRecord, is_same_endpoint, is_rs}
use Rattle.ds_names.specs.Kind.{is_label}
use Rattle.ds_names.specs.Name.{rs_name}
use Rattle.ds_names.specs.declared.key.Key.{Key}
use Rattle.ds_names.specs.declared.kind.Kind.{Kind}
use Rattle.ds_names.specs.declared.kind.Kind.TheVariants as kinds
use Rattle.ds_names.specs.declared.version.Version.{Version}
use Rattle.ds_names.proofs.Tests.{opposed}
use Rattle.ds_entry.specs.Change.{ChangeRecord, is_of_kind}
use Rattle.ds_entry.specs.Left.{value_in}
use Rattle.ds_entry.specs.SingleNumbered.{IsSingleNumbered}
use Rattle.ds_entry.specs.declared.body.Value.TheVariants as values
use Rattle.ds_entry.specs.declared.body.Body.{Body}
use Rattle.ds_entry.specs.declared.body.Body.TheVariants.{Put, Gone}
use Rattle.ds_entry.specs.declared.item.Item.{Item}
use Rattle.ds_entry.specs.declared.item.Item.TheVariants.{Change as Changed}
use Rattle.ds_join.specs.Label.{is_label_of, names_endpoint}
use Rattle.ds_machine.specs.Parts.{changes_in}
use Rattle.ds_machine.specs.State.{held}
use Rattle.ds_machine.specs.Asking.{name_of}
use Rattle.ds_machine.proofs.CauseLemmas.{left_of}
use Rattle.ds_machine.proofs.PartLemmas.{found, changes_in-from}
use Rattle.rs_settings.specs.declared.service.Service.{Service}
use Rattle.rs_settings.specs.Settings.{SettingsRecord, IsSettings}
use Rattle.rs_settings.specs.Shared.{has_name}
use Rattle.rs_settings.specs.Values.{is_same}
use Rattle.rs_settings.proofs.ApartLemmas.{services_apart}
use Rattle.rs_core.specs.declared.state.State.TheVariants.{Up}
use Rattle.rs_core.specs.declared.state.Running.{Running}
use Rattle.rs_core.specs.Action.{label_put, label_gone}
use Rattle.rs_core.specs.Numbering.{NumbererRecord}
use Rattle.rs_core.specs.State.{RsRecord, state_at, no_service}
use Rattle.driver_tables.proofs.TestLemmas.{equal_number, name_itself}
use Rattle.ds_replica.specs.declared.event.Side.{Side}
use Rattle.ds_replica.specs.World.{World}
use Rattle.ds_replica.specs.Known.{Account, store_of}
use Rattle.ds_replica.specs.Fits.{Fits}
use Rattle.ds_replica.proofs.FitLemmas.{own_fits}
use Rattle.ds_system.specs.Drawing.{is_declared}
use Rattle.ds_system.proofs.Kept.{service_in, label_of_service, IsLabelPut, IsLabelGone, IsEntry, IsMade, IsKept, AreAllMade}
use Rattle.ds_system.proofs.NumberLemmas.{by_order, one_number}

-- ---- services share nothing
-- two services of one label are the same
pub one_service : (settings : SettingsRecord) → IsSettings settings → (i j : ℕ) → i < length settings.services →
    j < length settings.services → label_of_service settings i ≡ label_of_service settings j → i ≡ j
one_service settings checked i j l m same = elim (by_order i j) [
  | inl k ↦ absurd (apart i j k m same)
  | inr h ↦ elim h [ inl e ↦ e | inr k ↦ absurd (apart j i k l (sym same)) ]
]
  where
    apart : (i j : ℕ) → i < j → j < length settings.services → label_of_service settings i ≡ label_of_service settings j → ⊥
    apart i j k m same =
        opposed (is_same (label_of_service settings j) (label_of_service settings i))
        (subst (λ (x : List ℕ). is_same (label_of_service settings j) x ≡ true) (sym same) (name_itself (label_of_service settings j)))
        ((services_apart settings checked).labels i j no_service k m)

-- two services that publish one name are the same
one_publisher : (settings : SettingsRecord) → IsSettings settings → (i j : ℕ) (name : List ℕ) → i < length settings.services →
    j < length settings.services
    → has_name (service_in settings i).publishes name ≡ true → has_name (service_in settings j).publishes name ≡ true → i ≡ j
one_publisher settings checked i j name l m here there = elim (by_order i j) [
  | inl k ↦ opposed (has_name (service_in settings j).publishes name) there
      ((services_apart settings checked).publishers i j no_service name k m here)
  | inr h ↦ elim h [
    | inl e ↦ e
    | inr k ↦ opposed (has_name (service_in settings i).publishes name) here
        ((services_apart settings checked).publishers j i no_service name k l there)
  ]
]

-- ---- the three sorts of changes
put_is_label : (settings : SettingsRecord) (next : ℕ) (c : ChangeRecord) → IsLabelPut settings next c → is_label c.key.kind ≡ true
put_is_label settings next c p = ap (λ (z : ChangeRecord). is_label z.key.kind) p.is

gone_is_label : (settings : SettingsRecord) (c : ChangeRecord) → IsLabelGone settings c → is_label c.key.kind ≡ true
gone_is_label settings c p = ap (λ (z : ChangeRecord). is_label z.key.kind) p.is

pub declared_no_label : (service : Service) (key : Key) → is_declared service key ≡ true → is_label key.kind ≡ false
declared_no_label service key e = not-true (is_label key.kind) (left_of (not (is_label key.kind)) (has_name service.publishes key.name) e)

pub entry_no_label : (settings : SettingsRecord) (numberers : List NumbererRecord) (c : ChangeRecord) → IsEntry settings numberers c →
    is_label c.key.kind ≡ false
entry_no_label settings numberers c h = declared_no_label (service_in settings h.place) c.key h.declared

pub not_both_numbers : (n : ℕ) → n ≡ 0 → n ≡ 1 → ⊥
not_both_numbers n e f = omega arith

-- an entry, among the changes that were made
pub entry_made : (settings : SettingsRecord) (next : ℕ) (numberers : List NumbererRecord) (c : ChangeRecord) →
    is_label c.key.kind ≡ false → IsMade settings next numberers c → IsEntry settings numberers c
entry_made settings next numberers c k (inl p) = opposed (is_label c.key.kind) (put_is_label settings next c p) k
entry_made settings next numberers c k (inr (inl p)) = opposed (is_label c.key.kind) (gone_is_label settings c p) k
entry_made settings next numberers c k (inr (inr h)) = h

-- ---- two changes of one key
module _ (rs : RsRecord) (numberers : List NumbererRecord) (made : List ChangeRecord) (k : IsKept rs numberers made) where
  abbrev PutIn : ChangeRecord → Type 0
  PutIn c = IsLabelPut rs.settings rs.next c

  abbrev GoneIn : ChangeRecord → Type 0
  GoneIn c = IsLabelGone rs.settings c

  abbrev EntryIn : ChangeRecord → Type 0
  EntryIn c = IsEntry rs.settings numberers c

  epochs : (c d x y : ChangeRecord) → c ≡ x → d ≡ y → c.version ≡ d.version → x.version.epoch ≡ y.version.epoch
  epochs c d x y p q v = sym (ap (λ (z : ChangeRecord). z.version.epoch) p) ∙ ap (λ (z : Version). z.epoch) v ∙
      ap (λ (z : ChangeRecord). z.version.epoch) q

  two_puts : (c d : ChangeRecord) → Contains made c → Contains made d → c.version ≡ d.version → PutIn c → PutIn d → c ≡ d
  two_puts c d i j v p q =
      p.is ∙ k.puts (label_of_service rs.settings p.place) (label_of_service rs.settings q.place) p.endpoint q.endpoint
      (subst (Contains made) p.is i) (subst (Contains made) q.is j) (epochs c d _ _ p.is q.is v) ∙ sym q.is

  two_gone : (c d : ChangeRecord) → c.key ≡ d.key → c.version ≡ d.version → GoneIn c → GoneIn d → c ≡ d
  two_gone c d key v p q =
      let name : label_of_service rs.settings p.place ≡ label_of_service rs.settings q.place =
      sym (ap (λ (z : ChangeRecord). z.key.name) p.is) ∙ ap (λ (z : Key). z.name) key ∙ ap (λ (z : ChangeRecord). z.key.name) q.is in
      p.is ∙ ap (λ (n : List ℕ). label_gone n p.generation) name ∙
      ap (label_gone (label_of_service rs.settings q.place)) (epochs c d _ _ p.is q.is v) ∙ sym q.is

  put_and_gone : {A : Type 0} (c d : ChangeRecord) → c.version ≡ d.version → PutIn c → GoneIn d → A
  put_and_gone c d v p q = absurd (not_both_numbers c.version.seq (ap (λ (z : ChangeRecord). z.version.seq) p.is)
      (ap (λ (z : Version). z.seq) v ∙ ap (λ (z : ChangeRecord). z.version.seq) q.is))

  label_and_entry : {A : Type 0} (c d : ChangeRecord) → c.key ≡ d.key → is_label c.key.kind ≡ true → EntryIn d → A
  label_and_entry c d key e h = opposed (is_label d.key.kind) (ap (λ (z : Key). is_label z.kind) (sym key) ∙ e)
      (entry_no_label rs.settings numberers d h)

  two_owners : (c d : ChangeRecord) → c.key ≡ d.key → EntryIn c → EntryIn d → c.owner ≡ d.owner
  two_owners c d key h g =
      let place : h.place ≡ g.place = one_publisher rs.settings k.settings h.place g.place d.key.name h.there g.there
      (subst (λ (z : Key). has_name (service_in rs.settings h.place).publishes z.name ≡ true) key
      (and_parts (not (is_label c.key.kind)) (has_name (service_in rs.settings h.place).publishes c.key.name) h.declared).1)
      (and_parts (not (is_label d.key.kind)) (has_name (service_in rs.settings g.place).publishes d.key.name) g.declared).1 in
      h.owner ∙ ap (label_of_service rs.settings) place ∙ sym g.owner

  one_change : (c d : ChangeRecord) → Contains made c → Contains made d → c.key ≡ d.key → c.version ≡ d.version → c ≡ d
  one_change c d i j key v = by (k.each c i) (k.each d j)
    where
      by : IsMade rs.settings rs.next numberers c → IsMade rs.settings rs.next numberers d → c ≡ d
      by (inl p) (inl q) = two_puts c d i j v p q
      by (inl p) (inr (inl q)) = put_and_gone c d v p q
      by (inr (inl p)) (inl q) = put_and_gone d c (sym v) q p
      by (inr (inl p)) (inr (inl q)) = two_gone c d key v p q
      by (inl p) (inr (inr q)) = label_and_entry c d key (put_is_label rs.settings rs.next c p) q
      by (inr (inl p)) (inr (inr q)) = label_and_entry c d key (gone_is_label rs.settings c p) q
      by (inr (inr p)) (inl q) = label_and_entry d c (sym key) (put_is_label rs.settings rs.next d q) p
      by (inr (inr p)) (inr (inl q)) = label_and_entry d c (sym key) (gone_is_label rs.settings d q) p
      by (inr (inr p)) (inr (inr q)) = one_number made c d k.drawn i j (entry_no_label rs.settings numberers c p)
          (entry_no_label rs.settings numberers d q) (two_owners c d key p q) v

  label_owner : (c : ChangeRecord) → Contains made c → is_label c.key.kind ≡ true → c.owner ≡ rs_name
  label_owner c i e = by (k.each c i)
    where
      by : IsMade rs.settings rs.next numberers c → c.owner ≡ rs_name
      by (inl p) = ap (λ (z : ChangeRecord). z.owner) p.is
      by (inr (inl p)) = ap (λ (z : ChangeRecord). z.owner) p.is
      by (inr (inr h)) = opposed (is_label c.key.kind) e (entry_no_label rs.settings numberers c h)

  one_owner : (c d : ChangeRecord) → Contains made c → Contains made d → c.key ≡ d.key → c.owner ≡ d.owner
  one_owner c d i j key = by (is_label c.key.kind) refl
    where
      by : (b : Bool) → is_label c.key.kind ≡ b → c.owner ≡ d.owner
      by true e = label_owner c i e ∙ sym (label_owner d j (ap (λ (z : Key). is_label z.kind) (sym key) ∙ e))
      by false e = two_owners c d key (entry_made rs.settings rs.next numberers c e (k.each c i))
          (entry_made rs.settings rs.next numberers d (ap (λ (z : Key). is_label z.kind) (sym key) ∙ e) (k.each d j))

  pub made_single : IsSingleNumbered made
  made_single = record { one_change = one_change; one_owner = one_owner }

  -- ---- the name of an instance
  -- an entry names no endpoint
  names_none : (e : EndpointRecord) (c : ChangeRecord) → EntryIn c → names_endpoint e c ≡ true → ⊥
  names_none e c h t = by c.body refl h.kind t
    where
      no_label_kind : (kind : Kind) (x : EndpointRecord) → is_of_kind kind (Put (values.Label x)) ≡ true → is_label kind ≡ false → ⊥
      no_label_kind kinds.Label x p q = cc
      no_label_kind kinds.U32 x p q = cc
      no_label_kind kinds.Str x p q = cc
      no_label_kind kinds.Mem x p q = cc

      by : (body : Body) → c.body ≡ body → is_of_kind c.key.kind body ≡ true → is_label_of e (value_in c.body) ≡ true → ⊥
      by (Put (values.Label x)) q p t = no_label_kind c.key.kind x p (entry_no_label rs.settings numberers c h)
      by (Put (values.U32 x)) q p t = let n : false ≡ true = sym (ap (λ (b : Body). is_label_of e (value_in b)) q) ∙ t in cc
      by (Put (values.Str x)) q p t = let n : false ≡ true = sym (ap (λ (b : Body). is_label_of e (value_in b)) q) ∙ t in cc
      by (Put (values.Mem x)) q p t = let n : false ≡ true = sym (ap (λ (b : Body). is_label_of e (value_in b)) q) ∙ t in cc
      by Gone q p t = let n : false ≡ true = sym (ap (λ (b : Body). is_label_of e (value_in b)) q) ∙ t in cc

  module _ (i : ℕ) (r : Running) (up : state_at rs i ≡ Up r) where
    -- its generation was handed out
    pub given : (0 < r.endpoint.generation) × (r.endpoint.generation < rs.next)
    given = by (k.each (label_put (label_of_service rs.settings i) r.endpoint) (k.runs i r up))
      where
        by : IsMade rs.settings rs.next numberers (label_put (label_of_service rs.settings i) r.endpoint) →
            (0 < r.endpoint.generation) × (r.endpoint.generation < rs.next)
        by (inl p) = let same : r.endpoint.generation ≡ p.endpoint.generation = ap (λ (z : ChangeRecord). z.version.epoch) p.is in let a =
            p.some in let b = p.below in (omega arith, omega arith)
        by (inr (inl p)) = absurd (not_both_numbers 0 refl (ap (λ (z : ChangeRecord). z.version.seq) p.is))
        by (inr (inr h)) = opposed true refl (entry_no_label rs.settings numberers (label_put (label_of_service rs.settings i) r.endpoint)
            h)

    -- a change that was made and names its endpoint is of its service's label
    named_by : (c : ChangeRecord) → Contains made c → names_endpoint r.endpoint c ≡ true → c.key.name ≡ label_of_service rs.settings i
    named_by c h t = by (k.each c h)
      where
        by : IsMade rs.settings rs.next numberers c → c.key.name ≡ label_of_service rs.settings i
        by (inl p) =
            let test : is_same_endpoint p.endpoint r.endpoint ≡ true = sym (ap (names_endpoint r.endpoint) p.is) ∙ t in
            let epoch : p.endpoint.generation ≡ r.endpoint.generation =
            equal_number p.endpoint.generation r.endpoint.generation
            (left_of (p.endpoint.generation == r.endpoint.generation) (p.endpoint.slot == r.endpoint.slot) test) in
            ap (λ (z : ChangeRecord). z.key.name) p.is
            ∙ ap (λ (z : ChangeRecord). z.key.name)
            (k.puts (label_of_service rs.settings p.place) (label_of_service rs.settings i) p.endpoint r.endpoint
            (subst (Contains made) p.is h) (k.runs i r up) epoch)
        by (inr (inl p)) = let n : false ≡ true = sym (ap (names_endpoint r.endpoint) p.is) ∙ t in cc
        by (inr (inr en)) = absurd (names_none r.endpoint c en t)

    -- so a store that knows only what was made knows the instance by that label, if at all
    pub instance_named : (account : Account) (w : World) → Fits account w → AreAllMade made account → (side : Side) (n : List ℕ) →
        name_of (held (store_of account side).state) r.endpoint ≡ Some n → n ≡ label_of_service rs.settings i
    instance_named account w f all side n e = by_rs (is_rs r.endpoint) refl e
      where
        items : List Item
        items = held (store_of account side).state

        same_name_of : (x y : List ℕ) → Some x ≡ Some y → y ≡ x
        same_name_of x y q = cc

        held_made : (c : ChangeRecord) → Contains items (Changed c) → Contains made c
        held_made c h = let own = own_fits account w side f in all c (own.within (Changed c) (own.top.among (Changed c) h))

        by_found : (o : Option ChangeRecord) → find (names_endpoint r.endpoint) (changes_in items) ≡ o →
            option_map (λ (c : ChangeRecord). c.key.name) o ≡ Some n → n ≡ label_of_service rs.settings i
        by_found None p h = cc
        by_found (Some c) p h =
            let at = found (names_endpoint r.endpoint) (changes_in items) c p in
            same_name_of c.key.name n h ∙ named_by c (held_made c (changes_in-from items c at.0)) at.1

        not_rs : is_rs r.endpoint ≡ true → ⊥
        not_rs q = let zero_is : r.endpoint.generation ≡ 0 =
            equal_number r.endpoint.generation 0 (left_of (r.endpoint.generation == 0) (r.endpoint.slot == 2) q) in let some = given.0 in
            omega arith

        by_rs : (b : Bool) → is_rs r.endpoint ≡ b →
            cond (is_rs r.endpoint) (Some rs_name) (option_map (λ (c : ChangeRecord). c.key.name)
            (find (names_endpoint r.endpoint) (changes_in items))) ≡ Some n → n ≡ label_of_service rs.settings i
        by_rs true q h = absurd (not_rs q)
        by_rs false q h =
            by_found (find (names_endpoint r.endpoint) (changes_in items)) refl
            (sym (ap (λ (b : Bool). cond b (Some rs_name)
            (option_map (λ (c : ChangeRecord). c.key.name) (find (names_endpoint r.endpoint) (changes_in items)))) q) ∙ h)
