-- RS continues with other settings: whatever runs keeps its state, so the slots fit the new states.
use Rattle.std.proofs.Common.{◌≡◌, ℕ, ◌<◌, ◌≤◌, ◌+◌, ◌==◌, ◌&&◌, ◌||◌, nat_lt, zero, suc, Bool, true, false, not, cond, List, [], ◌∷◌, ◌++◌}
use Rattle.std.proofs.Common.{map, get_or, length, drop, take, Option, Some, None}
use Rattle.std.proofs.Common.{refl, sym, ◌∙◌, ap, subst, inl, inr, eq-eqb, arith, add-one}
use Rattle.std.specs.Prelude.{count_by, option_map, unwrap_or, slice_get}
use Rattle.std.specs.Cmp.Lexicographic.{same_text}
use Rattle.std.proofs.lemmas.Bool.{cases_Bool, false≢true, or_parts, ltb-false}
use Rattle.std.proofs.lemmas.List.{drop_more, get_or-map, length-map, map_more}
use Rattle.std.proofs.lemmas.List.Folds.{list_any_none}
use Rattle.std.proofs.lemmas.List.Sums.{sum_by-cons}
use Rattle.std.proofs.lemmas.Option.{get_or_from_slice_get, none-some, same_Some}
use Rattle.rs_settings.specs.Values.{is_same}
use Rattle.rs_settings.specs.Shared.{share_label}
use Rattle.rs_settings.specs.Apart.{AreDistinct}
use Rattle.rs_settings.specs.Settings.{SettingsRecord, IsSettings}
use Rattle.rs_settings.proofs.ApartLemmas.{services_apart}
use Rattle.rs_settings.specs.declared.service.Service.{Service}
use Rattle.rs_core.specs.declared.fault.RenewFault.TheVariants.{FewerSlots, OutOfRange, StillUp}
use Rattle.rs_core.specs.declared.finding.Sought.{Sought}
use Rattle.rs_core.specs.declared.finding.Sought.TheVariants as sought
use Rattle.rs_core.specs.declared.state.State.{State}
use Rattle.rs_core.specs.declared.state.State.TheVariants.{Down, Up, Waiting, GaveUp}
use Rattle.rs_core.specs.Finding.{is_sought, first_sought}
use Rattle.rs_core.specs.Slots.{SlotsRecord}
use Rattle.rs_core.specs.State.{RsRecord, rs_of, state_at, no_service, is_up}
use Rattle.rs_core.specs.Says.{place_of_label}
use Rattle.rs_core.specs.Kept.{IsState, IsRs, is_at}
use Rattle.rs_core.specs.Renewal.{renewed, state_of_label, is_begun, has_label, is_left_out, first_left_out, renewal_fault}
use Rattle.rs_core.proofs.SaysLemmas.{labels_found}

abbrev one : Bool → ℕ
one b = cond b 1 0

-- ---- labels are the same

pub same_itself : (a : List ℕ) → is_same a a ≡ true
same_itself [] = refl
same_itself (x ∷ xs) = rw (eq-eqb x x refl) (same_itself xs)

same_back : (a b : List ℕ) → is_same a b ≡ is_same b a
same_back a b = elim (cases_Bool (is_same a b)) [
  | inl t ↦ (let e : a ≡ b = same_text a b (sym t) in subst (λ (z : List ℕ). is_same a z ≡ is_same z a) e refl)
  | inr f ↦ elim (cases_Bool (is_same b a)) [
    | inl t ↦ (let e : b ≡ a = same_text b a (sym t) in subst (λ (z : List ℕ). is_same z b ≡ is_same b z) e refl)
    | inr g ↦ f ∙ sym g
  ]
]

-- ---- the state of a label, among these services and states

abbrev among : List Service → List State → List ℕ → State
among ss ts label = unwrap_or (option_map (λ i. get_or ts i Down) (first_sought (sought.Label label) 0 ss ts)) Down

-- a search that begins one further finds one further
shifted : (what : Sought) (k : ℕ) (ss : List Service) (ts : List State) →
    first_sought what (k + 1) ss ts ≡ option_map (λ i. i + 1) (first_sought what k ss ts)
shifted what k [] ts = refl
shifted what k (s ∷ ss) [] = refl
shifted what k (s ∷ ss) (t ∷ ts) = by (is_sought what s t) (shifted what (k + 1) ss ts)
  where
    by : (b : Bool) → first_sought what (k + 1 + 1) ss ts ≡ option_map (λ i. i + 1) (first_sought what (k + 1) ss ts) →
        cond b (Some (k + 1)) (first_sought what (k + 1 + 1) ss ts) ≡ option_map (λ i. i + 1)
        (cond b (Some k) (first_sought what (k + 1) ss ts))
    by true rest = refl
    by false rest = rest

among_more : (s : Service) (ss : List Service) (t : State) (ts : List State) (label : List ℕ) →
    among (s ∷ ss) (t ∷ ts) label ≡ cond (is_same s.label label) t (among ss ts label)
among_more s ss t ts label = by (is_same s.label label)
  where
    later : (o : Option ℕ) → unwrap_or (option_map (λ i. get_or (t ∷ ts) i Down) (option_map (λ i. i + 1) o)) Down ≡ unwrap_or
        (option_map (λ i. get_or ts i Down) o) Down
    later None = refl
    later (Some i) = rw (add-one i) refl

    by : (b : Bool) → unwrap_or (option_map (λ i. get_or (t ∷ ts) i Down)
        (cond b (Some 0) (first_sought (sought.Label label) (0 + 1) ss ts))) Down ≡ cond b t (among ss ts label)
    by true = refl
    by false = ap (λ (o : Option ℕ). unwrap_or (option_map (λ i. get_or (t ∷ ts) i Down) o) Down) (shifted (sought.Label label) 0 ss ts) ∙
        later (first_sought (sought.Label label) 0 ss ts)

among_none : (ss : List Service) (ts : List State) (label : List ℕ) → has_label ss label ≡ false → among ss ts label ≡ Down
among_none [] ts label h = refl
among_none (s ∷ ss) [] label h = refl
among_none (s ∷ ss) (t ∷ ts) label h =
    let p = or_parts (is_same s.label label) (has_label ss label) h in
    among_more s ss t ts label ∙ ap (λ b. cond b t (among ss ts label)) p.0 ∙ among_none ss ts label p.1

-- ---- labels that differ

abbrev Apart : List Service → Type 0
Apart [] = Unit {0}
Apart (s ∷ ss) = (has_label ss s.label ≡ false) × Apart ss

apart_from : (ss : List Service) → AreDistinct share_label ss → Apart ss
apart_from [] h = tt
apart_from (s ∷ ss) h = (
  list_any_none (λ (n : Service). is_same n.label s.label) ss (λ j d l. h 0 (suc j) d (omega arith) (omega (arith, l))),
  apart_from ss (λ i j d below l. h (suc i) (suc j) d (omega (arith, below)) (omega (arith, l))),
)

-- how many of the services have the label
abbrev with_label : List ℕ → List Service → ℕ
with_label label ns = count_by (λ (n : Service). is_same label n.label) ns

none_with : (label : List ℕ) (ns : List Service) → has_label ns label ≡ false → with_label label ns ≡ 0
none_with label [] h = refl
none_with label (n ∷ ns) h =
    let p = or_parts (is_same n.label label) (has_label ns label) h in
    let here : one (is_same label n.label) ≡ 0 = ap one (same_back label n.label ∙ p.0) in
    omega (arith, here, none_with label ns p.1, sum_by-cons (λ (m : Service). one (is_same label m.label)) n ns)

one_with : (label : List ℕ) (ns : List Service) → Apart ns → has_label ns label ≡ true → with_label label ns ≡ 1
one_with label [] a h = absurd (false≢true h)
one_with label (n ∷ ns) a h = elim (cases_Bool (is_same n.label label)) [
  | inl t ↦ (
      let here : one (is_same label n.label) ≡ 1 = ap one (same_back label n.label ∙ t) in
      let rest : has_label ns label ≡ false = subst (λ (l : List ℕ). has_label ns l ≡ false) (same_text n.label label (sym t)) a.0 in
      omega (arith, here, none_with label ns rest, sum_by-cons (λ (m : Service). one (is_same label m.label)) n ns))
  | inr f ↦ (
      let here : one (is_same label n.label) ≡ 0 = ap one (same_back label n.label ∙ f) in
      omega (arith, here, one_with label ns a.1 (rw f at h), sum_by-cons (λ (m : Service). one (is_same label m.label)) n ns))
]

-- ---- counts over the new services are those over the old ones

module _ (q : State → Bool) (down : q Down ≡ false) where
  -- how many states of the new services pass the test
  abbrev over : List Service → List State → List Service → ℕ
  over ss ts ns = count_by q (map (λ (n : Service). among ss ts n.label) ns)

  over_none : (ts : List State) (ns : List Service) → over [] ts ns ≡ 0
  over_none ts [] = refl
  over_none ts (n ∷ ns) =
      let here : one (q Down) ≡ 0 = ap one down in
      omega (arith, here, over_none ts ns, sum_by-cons (λ t. one (q t)) Down (map (λ (n : Service). among [] ts n.label) ns))

  -- the state of a label, with one more service
  one_more : (s : Service) (ss : List Service) (t : State) (ts : List State) (label : List ℕ) → has_label ss s.label ≡ false →
      one (q (among (s ∷ ss) (t ∷ ts) label)) ≡ one (q (among ss ts label)) + cond (is_same s.label label) (one (q t)) 0
  one_more s ss t ts label apart = elim (cases_Bool (is_same s.label label)) [
    | inl e ↦ (
        let here : among (s ∷ ss) (t ∷ ts) label ≡ t = among_more s ss t ts label ∙ ap (λ b. cond b t (among ss ts label)) e in
        let none : among ss ts label ≡ Down = subst (λ (l : List ℕ). among ss ts l ≡ Down) (same_text s.label label (sym e))
        (among_none ss ts s.label apart) in
        let nil : one (q Down) ≡ 0 = ap one down in
        rw (here, none, e) (omega (arith, nil)))
    | inr f ↦ (
        let here : among (s ∷ ss) (t ∷ ts) label ≡ among ss ts label =
        among_more s ss t ts label ∙ ap (λ b. cond b t (among ss ts label)) f in
        rw (here, f) (omega arith))
  ]

  more_passing : (s : Service) (ss : List Service) (t : State) (ts : List State) (ns : List Service) → has_label ss s.label ≡ false →
      q t ≡ true →
      over (s ∷ ss) (t ∷ ts) ns ≡ over ss ts ns + with_label s.label ns
  more_passing s ss t ts [] apart p = refl
  more_passing s ss t ts (n ∷ ns) apart p =
      let here : one (q (among (s ∷ ss) (t ∷ ts) n.label)) ≡ one (q (among ss ts n.label)) + one (is_same s.label n.label) =
      subst (λ b. one (q (among (s ∷ ss) (t ∷ ts) n.label)) ≡ one (q (among ss ts n.label)) + cond (is_same s.label n.label) (one b) 0) p
      (one_more s ss t ts n.label apart) in
      omega (
        arith,
        here,
        more_passing s ss t ts ns apart p,
        sum_by-cons (λ z. one (q z)) (among (s ∷ ss) (t ∷ ts) n.label) (map (λ (n : Service). among (s ∷ ss) (t ∷ ts) n.label) ns),
        sum_by-cons (λ z. one (q z)) (among ss ts n.label) (map (λ (n : Service). among ss ts n.label) ns),
        sum_by-cons (λ (m : Service). one (is_same s.label m.label)) n ns,
      )

  nothing : (b : Bool) → ◌≡◌ {A = ℕ} (cond b 0 0) 0
  nothing true = refl
  nothing false = refl

  none_passing : (s : Service) (ss : List Service) (t : State) (ts : List State) (ns : List Service) → has_label ss s.label ≡ false →
      q t ≡ false →
      over (s ∷ ss) (t ∷ ts) ns ≡ over ss ts ns
  none_passing s ss t ts [] apart p = refl
  none_passing s ss t ts (n ∷ ns) apart p =
      let here : one (q (among (s ∷ ss) (t ∷ ts) n.label)) ≡ one (q (among ss ts n.label)) + cond (is_same s.label n.label) 0 0 =
      subst (λ b. one (q (among (s ∷ ss) (t ∷ ts) n.label)) ≡ one (q (among ss ts n.label)) + cond (is_same s.label n.label) (one b) 0) p
      (one_more s ss t ts n.label apart) in
      omega (
        arith,
        here,
        nothing (is_same s.label n.label),
        none_passing s ss t ts ns apart p,
        sum_by-cons (λ z. one (q z)) (among (s ∷ ss) (t ∷ ts) n.label) (map (λ (n : Service). among (s ∷ ss) (t ∷ ts) n.label) ns),
        sum_by-cons (λ z. one (q z)) (among ss ts n.label) (map (λ (n : Service). among ss ts n.label) ns),
      )

  -- each service whose state passes has a label of the new ones
  abbrev AllStay : List Service → List Service → List State → Type 0
  AllStay ns (s ∷ ss) (t ∷ ts) = (q t ≡ true → has_label ns s.label ≡ true) × AllStay ns ss ts
  AllStay ns _ _ = Unit {0}

  stay : (new : List Service) (k : ℕ) (ss : List Service) (ts : List State) → ((t : State) → q t ≡ true → is_begun t ≡ true) →
      first_left_out new k ss ts ≡ None → AllStay new ss ts
  stay new k [] ts begun h = tt
  stay new k (s ∷ ss) [] begun h = tt
  stay new k (s ∷ ss) (t ∷ ts) begun h = by (is_begun t) refl (has_label new s.label) refl h (stay new (k + 1) ss ts begun)
    where
      by : (b : Bool) → is_begun t ≡ b → (a : Bool) → has_label new s.label ≡ a →
          cond (b && not a) (Some k) (first_left_out new (k + 1) ss ts) ≡ None
          → (first_left_out new (k + 1) ss ts ≡ None → AllStay new ss ts) → AllStay new (s ∷ ss) (t ∷ ts)
      by true e true f h rest = ((λ p. f), rest h)
      by true e false f h rest = absurd (let n : Some k ≡ None = h in cc)
      by false e a f h rest = ((λ p. absurd (false≢true (sym e ∙ begun t p))), rest h)

  same_count : (ss : List Service) (ts : List State) (ns : List Service) → length ts ≡ length ss → Apart ss → Apart ns → AllStay ns ss ts →
      over ss ts ns ≡ count_by q ts
  same_count [] [] ns e a n h = over_none [] ns
  same_count [] (t ∷ ts) ns e a n h = absurd (omega (arith, e))
  same_count (s ∷ ss) [] ns e a n h = absurd (omega (arith, e))
  same_count (s ∷ ss) (t ∷ ts) ns e a n h = elim (cases_Bool (q t)) [
    | inl p ↦ (
        let here : one (q t) ≡ 1 = ap one p in
        omega (
          arith,
          here,
          more_passing s ss t ts ns a.0 p,
          one_with s.label ns n (h.0 p),
          same_count ss ts ns (omega (arith, e)) a.1 n h.1,
          sum_by-cons (λ z. one (q z)) t ts,
        ))
    | inr p ↦ (
        let here : one (q t) ≡ 0 = ap one p in
        omega
        (arith, here, none_passing s ss t ts ns a.0 p, same_count ss ts ns (omega (arith, e)) a.1 n h.1, sum_by-cons (λ z. one (q z)) t ts))
  ]

-- ---- what RS keeps

up_begun : (t : State) → is_up t ≡ true → is_begun t ≡ true
up_begun (Up r) h = refl
up_begun (Waiting p) h = refl
up_begun Down h = absurd (false≢true h)
up_begun GaveUp h = absurd (false≢true h)

at_begun : (first key : ℕ) (t : State) → is_at first key t ≡ true → is_begun t ≡ true
at_begun first key (Up r) h = refl
at_begun first key (Waiting p) h = refl
at_begun first key Down h = absurd (false≢true h)
at_begun first key GaveUp h = absurd (false≢true h)

-- the settings have no fault: the slots, the range, and that nothing is left out
no_fault : (s : RsRecord) (new : SettingsRecord) → renewal_fault s new ≡ None →
    (nat_lt new.slots s.settings.slots ≡ false) × (nat_lt 1024 (s.slots.first + new.slots) ≡ false) ×
    (first_left_out new.services 0 s.settings.services s.states ≡ None)
no_fault s new h = by (nat_lt new.slots s.settings.slots) refl (nat_lt 1024 (s.slots.first + new.slots)) refl
    (first_left_out new.services 0 s.settings.services s.states) refl h
  where
    by : (a : Bool) → nat_lt new.slots s.settings.slots ≡ a → (b : Bool) → nat_lt 1024 (s.slots.first + new.slots) ≡ b → (o : Option ℕ) →
        first_left_out new.services 0 s.settings.services s.states ≡ o
        → cond a (Some FewerSlots) (cond b (Some OutOfRange) (option_map StillUp o)) ≡ None
        → (nat_lt new.slots s.settings.slots ≡ false) × (nat_lt 1024 (s.slots.first + new.slots) ≡ false) ×
        (first_left_out new.services 0 s.settings.services s.states ≡ None)
    by true e b f o g h = absurd (let n : Some FewerSlots ≡ None = h in cc)
    by false e true f o g h = absurd (let n : Some OutOfRange ≡ None = h in cc)
    by false e false f (Some i) g h = absurd (let n : Some (StillUp i) ≡ None = h in cc)
    by false e false f None g h = (e, f, g)

-- a state that a label has is in its range
label_keeps : (s : RsRecord) (label : List ℕ) → length s.states ≡ length s.settings.services →
    ((i : ℕ) → i < length s.states → IsState s.slots.first s.next (get_or s.states i Down)) →
    IsState s.slots.first s.next (state_of_label s label)
label_keeps s label count each = by (place_of_label s label) refl
  where
    by : (o : Option ℕ) → place_of_label s label ≡ o → IsState s.slots.first s.next (unwrap_or (option_map (state_at s) o) Down)
    by None e = tt
    by (Some i) e = each i (omega (arith, count, (labels_found s label i e).0))

pub kept_by_renewal : (settings new : SettingsRecord) (states : List State) (tick next : ℕ) (slots : SlotsRecord) →
    IsRs settings states tick next slots → IsSettings new → renewal_fault (rs_of settings states tick next slots) new ≡ None →
    IsRs new (map (λ (n : Service). state_of_label (rs_of settings states tick next slots) n.label) new.services) tick next slots
kept_by_renewal settings new states tick next slots kept checked free = record {
  checked = checked;
  count = length-map new.services f;
  worn = kept.worn;
  some = kept.some;
  spent = kept.spent;
  each = λ i l. subst (IsState slots.first next)
      (sym (get_or-map f new.services i no_service Down (omega (arith, l, length-map new.services f))))
      (label_keeps s (get_or new.services i no_service).label kept.count kept.each);
  fit = record {
    once = λ key. ap (λ n. count_by (λ k. k == key) slots.freed + n) (same (is_at slots.first key) refl (at_begun slots.first key)) ∙
        kept.fit.once key;
    taken = ap (λ n. length slots.freed + n) (same is_up refl up_begun) ∙ kept.fit.taken;
    few = kept.fit.few;
  };
  own = omega (arith, kept.own, not_less);
  low = kept.low;
  high = in_range;
}
  where
    s : RsRecord
    s = rs_of settings states tick next slots

    f : Service → State
    f n = state_of_label s n.label

    parts : (nat_lt new.slots settings.slots ≡ false) × (nat_lt 1024 (slots.first + new.slots) ≡ false) ×
        (first_left_out new.services 0 settings.services states ≡ None)
    parts = no_fault s new free

    not_less : settings.slots ≤ new.slots
    not_less = ltb-false new.slots settings.slots parts.0

    in_range : slots.first + new.slots ≤ 1024
    in_range = ltb-false 1024 (slots.first + new.slots) parts.1

    same : (q : State → Bool) → q Down ≡ false → ((t : State) → q t ≡ true → is_begun t ≡ true) →
        count_by q (map f new.services) ≡ count_by q states
    same q down begun = same_count q down settings.services states new.services kept.count
        (apart_from settings.services (services_apart settings kept.checked).labels)
        (apart_from new.services (services_apart new checked).labels) (stay q down new.services 0 settings.services states begun parts.2)

-- ---- the loops

pub has_label-step : (ss : List Service) (label : List ℕ) (i : ℕ) (service : Service) → slice_get ss i ≡ Some service → i < length ss →
    has_label (drop i ss) label ≡ is_same service.label label || has_label (drop (i + 1) ss) label
has_label-step ss label i service at l =
    let e : get_or ss i service ≡ service = get_or_from_slice_get ss i service service at in
    rw (drop_more ss i service l, e) refl

pub left_out-step : (new ss : List Service) (ts : List State) (i : ℕ) (service : Service) (state : State) → i < length ss → i < length ts →
    slice_get ss i ≡ Some service → state ≡ get_or ts i state →
    first_left_out new i (drop i ss) (drop i ts) ≡ cond (is_left_out new service state) (Some i)
    (first_left_out new (i + 1) (drop (i + 1) ss) (drop (i + 1) ts))
left_out-step new ss ts i service state h k at here =
    let e : get_or ss i service ≡ service = get_or_from_slice_get ss i service service at in
    rw (drop_more ss i service h, drop_more ts i state k, e, ← here) refl

pub states-step : (s : RsRecord) (ns : List Service) (i : ℕ) (service : Service) → slice_get ns i ≡ Some service → i < length ns →
    map (λ (n : Service). state_of_label s n.label) (take (i + 1) ns) ≡ map (λ (n : Service). state_of_label s n.label) (take i ns) ++
    state_of_label s service.label ∷ []
states-step s ns i service at l =
    let e : get_or ns i service ≡ service = get_or_from_slice_get ns i service service at in
    map_more (λ (n : Service). state_of_label s n.label) ns i service l ∙
    ap (λ (n : Service). map (λ (n : Service). state_of_label s n.label) (take i ns) ++ state_of_label s n.label ∷ []) e

-- ---- a search by a name reads no states

same_search : (name : List ℕ) (k : ℕ) (ss : List Service) (ts us : List State) → length ts ≡ length us →
    first_sought (sought.Label name) k ss ts ≡ first_sought (sought.Label name) k ss us
same_search name k [] ts us e = refl
same_search name k (s ∷ ss) [] [] e = refl
same_search name k (s ∷ ss) [] (u ∷ us) e = absurd (omega (arith, e))
same_search name k (s ∷ ss) (t ∷ ts) [] e = absurd (omega (arith, e))
same_search name k (s ∷ ss) (t ∷ ts) (u ∷ us) e =
    ap (λ (o : Option ℕ). cond (is_same s.label name) (Some k) o) (same_search name (k + 1) ss ts us (omega (arith, e)))

pub same_names : (rs after : RsRecord) (name : List ℕ) → after.settings ≡ rs.settings → length after.states ≡ length rs.states →
    place_of_label after name ≡ place_of_label rs name
same_names rs after name e f =
    ap (λ (x : SettingsRecord). first_sought (sought.Label name) 0 x.services after.states) e ∙
    same_search name 0 rs.settings.services after.states rs.states f

found_by_name : (name : List ℕ) (i : ℕ) (ss : List Service) (ts : List State) (m : ℕ) (n : Service) → length ts ≡ length ss →
    slice_get ss m ≡ Some n → is_same n.label name ≡ true → (k : ℕ) × (first_sought (sought.Label name) i ss ts ≡ Some k)
found_by_name name i [] ts m n e at same = absurd (none-some n at)
found_by_name name i (s ∷ ss) [] m n e at same = absurd (omega (arith, e))
found_by_name name i (s ∷ ss) (t ∷ ts) m n e at same =
    by_test (is_same s.label name) refl m at (λ j f. found_by_name name (i + 1) ss ts j n (omega (arith, e)) f same)
  where
    by_test : (b : Bool) → is_same s.label name ≡ b → (m : ℕ) → slice_get (s ∷ ss) m ≡ Some n →
        ((j : ℕ) → slice_get ss j ≡ Some n → (k : ℕ) × (first_sought (sought.Label name) (i + 1) ss ts ≡ Some k)) →
        (k : ℕ) × (cond b (Some i) (first_sought (sought.Label name) (i + 1) ss ts) ≡ Some k)
    by_test true f m at rest = (i, refl)
    by_test false f zero at rest = absurd (false≢true (sym f ∙ ap (λ (x : Service). is_same x.label name) (same_Some s n at) ∙ same))
    by_test false f (suc m) at rest = rest m at

pub renewed_name : (rs : RsRecord) (settings : SettingsRecord) (name : List ℕ) (m : ℕ) (n : Service) →
    slice_get settings.services m ≡ Some n →
    n.label ≡ name → (k : ℕ) × (place_of_label (renewed rs settings) name ≡ Some k)
renewed_name rs settings name m n at same =
    found_by_name name 0 settings.services (renewed rs settings).states m n
    (length-map settings.services (λ (s : Service). state_of_label rs s.label)) at
    (subst (λ (a : List ℕ). is_same n.label a ≡ true) same (same_itself n.label))
