-- Other settings: states and processes are found by their labels' names.
use Rattle.std.proofs.Common.{◌≡◌, ◌≢◌, ◌<◌, ◌≤◌, ◌+◌, ◌++◌, take, ℕ, zero, suc, true, false, List, [], ◌∷◌, map, length, get_or}
use Rattle.std.proofs.Common.{Option, Some, None, option_map, unwrap_or, refl, sym, ap, ◌∙◌, subst, inl, inr, arith}
use Rattle.std.specs.List.{slice_get}
use Rattle.std.proofs.lemmas.Bool.{cases_lt, false≢true}
use Rattle.std.proofs.lemmas.List.{length-map, map_more}
use Rattle.std.proofs.lemmas.Option.{same_Some, none-some, slice_get_within, get_or_from_slice_get}
use Rattle.process_keeper.specs.Following.{wanted}
use Rattle.process_keeper.specs.Renewal.{lifecycle_from, new_lifecycle}
use Rattle.process_keeper.specs.declared.lifecycle.Lifecycle.{Lifecycle}
use Rattle.rs_core.specs.declared.fault.RenewFault.{RenewFault}
use Rattle.rs_core.specs.declared.fault.RenewFault.TheVariants.{FewerSlots, OutOfRange, StillUp, NoRoom}
use Rattle.rs_core.specs.declared.state.State.{State}
use Rattle.rs_core.specs.declared.state.State.TheVariants.{Down}
use Rattle.rs_core.specs.Late.{in_force, AreSingle}
use Rattle.rs_core.specs.Renewal.{renewed, state_of_label}
use Rattle.rs_core.specs.Says.{label_at, place_of_label}
use Rattle.rs_core.specs.State.{RsRecord, state_at}
use Rattle.rs_core.proofs.LateLemmas.{counted_within}
use Rattle.rs_core.proofs.RenewalLemmas.{same_itself}
use Rattle.rs_core.proofs.SaysLemmas.{labels_found}
use Rattle.rs_settings.specs.Apart.{AreDistinct}
use Rattle.rs_settings.specs.Settings.{IsSettings, SettingsRecord}
use Rattle.rs_settings.specs.Shared.{share_label}
use Rattle.rs_settings.specs.Values.{is_same}
use Rattle.rs_settings.specs.declared.service.Service.{Service}
use Rattle.rs_settings.proofs.ApartLemmas.{services_apart}
use Rattle.supervisor.specs.Renewal.{renewed_labels, sources_of}
use Rattle.supervisor.proofs.FollowLemmas.{IsAlone, is_within}

-- ---- lists
pub map_at : {X Y : Type 0} (f : X → Y) (xs : List X) (k : ℕ) (y : Y) → slice_get (map f xs) k ≡ Some y →
    (x : X) × (slice_get xs k ≡ Some x) × (y ≡ f x)
map_at f [] k y e = absurd (none-some y e)
map_at f (x ∷ xs) zero y e = (x, refl, sym (same_Some (f x) y e))
map_at f (x ∷ xs) (suc k) y e = map_at f xs k y e

pub map_here : {X Y : Type 0} (f : X → Y) (xs : List X) (k : ℕ) (x : X) → slice_get xs k ≡ Some x → slice_get (map f xs) k ≡ Some (f x)
map_here f [] k x e = absurd (none-some x e)
map_here f (y ∷ xs) zero x e = ap (λ z. Some (f z)) (same_Some y x e)
map_here f (y ∷ xs) (suc k) x e = map_here f xs k x e

past : {X : Type 0} (xs : List X) (k : ℕ) (d : X) → length xs ≤ k → get_or xs k d ≡ d
past [] k d l = refl
past (x ∷ xs) zero d l = absurd (omega (arith, l))
past (x ∷ xs) (suc k) d l = past xs k d (omega (arith, l))

-- ---- processes that a label takes over
any_wants : (labels : List Lifecycle) (states : List State) (i : ℕ) → length labels ≡ length states →
    ((k : ℕ) (p : Lifecycle) → slice_get labels k ≡ Some p → wanted p ≡ in_force (get_or states k Down)) →
    wanted (get_or labels i new_lifecycle) ≡ in_force (get_or states i Down)
any_wants labels states i count h = elim (cases_lt i (length labels)) [
  | inl l ↦ (
      let x = is_within labels i l in
      ap (λ (p : Lifecycle). wanted p) (get_or_from_slice_get labels i x.0 new_lifecycle x.1) ∙ h i x.0 x.1)
  | inr m ↦ (
      ap (λ (p : Lifecycle). wanted p) (past labels i new_lifecycle m) ∙
      sym (ap (λ (s : State). in_force s) (past states i Down (omega (arith, m, count)))))
]

wants_from : (rs : RsRecord) (labels : List Lifecycle) (o : Option ℕ) → length labels ≡ length rs.states →
    ((k : ℕ) (p : Lifecycle) → slice_get labels k ≡ Some p → wanted p ≡ in_force (state_at rs k)) →
    wanted (lifecycle_from labels o) ≡ in_force (unwrap_or (option_map (state_at rs) o) Down)
wants_from rs labels None count h = refl
wants_from rs labels (Some i) count h = any_wants labels rs.states i count h

-- the service with a label's new number, and its processes
pub at_service : (rs : RsRecord) (labels : List Lifecycle) (services : List Service) (k : ℕ) (p : Lifecycle) →
    slice_get (renewed_labels rs labels services) k ≡ Some p →
    (n : Service) × (slice_get services k ≡ Some n) × (p ≡ lifecycle_from labels (place_of_label rs n.label))
at_service rs labels services k p at =
    let a = map_at (lifecycle_from labels) (sources_of rs services) k p at in
    let b = map_at (λ (n : Service). place_of_label rs n.label) services k a.0 a.1 in
    (b.0, b.1, a.2 ∙ ap (λ (o : Option ℕ). lifecycle_from labels o) b.2)

state_here : (rs : RsRecord) (services : List Service) (k : ℕ) (n : Service) → slice_get services k ≡ Some n →
    get_or (map (λ (s : Service). state_of_label rs s.label) services) k Down ≡ state_of_label rs n.label
state_here rs services k n at =
    let f : Service → State = λ s. state_of_label rs s.label in
    get_or_from_slice_get (map f services) k (f n) Down (map_here f services k n at)

pub renewed_wants : (rs : RsRecord) (labels : List Lifecycle) (services : List Service) → length labels ≡ length rs.states →
    ((k : ℕ) (p : Lifecycle) → slice_get labels k ≡ Some p → wanted p ≡ in_force (state_at rs k)) → (k : ℕ) (p : Lifecycle) →
    slice_get (renewed_labels rs labels services) k ≡ Some p →
    wanted p ≡ in_force (get_or (map (λ (s : Service). state_of_label rs s.label) services) k Down)
renewed_wants rs labels services count h k p at =
    let n = at_service rs labels services k p at in
    ap (λ (q : Lifecycle). wanted q) n.2 ∙ wants_from rs labels (place_of_label rs n.0.label) count h ∙
    sym (ap (λ (s : State). in_force s) (state_here rs services k n.0 n.1))

alone_from : (labels : List Lifecycle) (o : Option ℕ) → ((k : ℕ) (p : Lifecycle) → slice_get labels k ≡ Some p → IsAlone p) →
    IsAlone (lifecycle_from labels o)
alone_from labels None h = λ e. absurd (false≢true e)
alone_from labels (Some i) h = elim (cases_lt i (length labels)) [
  | inl l ↦ (
      let x = is_within labels i l in
      subst IsAlone (sym (get_or_from_slice_get labels i x.0 new_lifecycle x.1)) (h i x.0 x.1))
  | inr m ↦ subst IsAlone (sym (past labels i new_lifecycle m)) (λ e. absurd (false≢true e))
]

pub renewed_alone : (rs : RsRecord) (labels : List Lifecycle) (services : List Service) →
    ((k : ℕ) (p : Lifecycle) → slice_get labels k ≡ Some p → IsAlone p) → (k : ℕ) (p : Lifecycle) →
    slice_get (renewed_labels rs labels services) k ≡ Some p → IsAlone p
renewed_alone rs labels services h k p at =
    let n = at_service rs labels services k p at in
    subst IsAlone (sym n.2) (alone_from labels (place_of_label rs n.0.label) h)

pub renewed_count : (rs : RsRecord) (labels : List Lifecycle) (services : List Service) →
    length (renewed_labels rs labels services) ≡ length (map (λ (s : Service). state_of_label rs s.label) services)
renewed_count rs labels services =
    length-map (sources_of rs services) (lifecycle_from labels) ∙ length-map services (λ (n : Service). place_of_label rs n.label) ∙
    sym (length-map services (λ (s : Service). state_of_label rs s.label))

-- ---- generations
pub same_place : (services : List Service) (j k : ℕ) (n m : Service) → AreDistinct share_label services → slice_get services j ≡ Some n →
    slice_get services k ≡ Some m → n.label ≡ m.label → j ≡ k
same_place services j k n m apart at there same = elim (cases_lt j k) [
  | inl l ↦ absurd (two services j k n m apart at there same l)
  | inr o ↦ elim (cases_lt k j) [
    | inl l ↦ absurd (two services k j m n apart there at (sym same) l)
    | inr q ↦ omega (arith, o, q)
  ]
]
  where
    two : (services : List Service) (j k : ℕ) (n m : Service) → AreDistinct share_label services → slice_get services j ≡ Some n →
        slice_get services k ≡ Some m → n.label ≡ m.label → j < k → ⊥
    two services j k n m apart at there same l =
        let e : share_label (get_or services k n) (get_or services j n) ≡ false = apart j k n l (slice_get_within services k m there) in
        let one : get_or services j n ≡ n = get_or_from_slice_get services j n n at in
        let other : get_or services k n ≡ m = get_or_from_slice_get services k m n there in
        let f : is_same m.label n.label ≡ false =
        sym (ap (λ (x : Service). is_same x.label n.label) other) ∙
        sym (ap (λ (x : Service). is_same (get_or services k n).label x.label) one) ∙ e in
        false≢true (sym f ∙ subst (λ (a : List ℕ). is_same m.label a ≡ true) (sym same) (same_itself m.label))

counted_from : (rs : RsRecord) (o : Option ℕ) (g : ℕ) → in_force (unwrap_or (option_map (state_at rs) o) Down) ≡ Some g →
    (i : ℕ) × (o ≡ Some i) × (in_force (state_at rs i) ≡ Some g)
counted_from rs None g e = absurd (none-some g e)
counted_from rs (Some i) g e = (i, refl, e)

-- The service of a generation after other settings, and its number before them.
record Counted (rs : RsRecord) (services : List Service) (k g : ℕ) : Type 0 where
  service : Service
  here : slice_get services k ≡ Some service
  place : ℕ
  was : place_of_label rs service.label ≡ Some place
  counts : in_force (state_at rs place) ≡ Some g

counted : (rs : RsRecord) (services : List Service) (k g : ℕ) →
    in_force (get_or (map (λ (s : Service). state_of_label rs s.label) services) k Down) ≡ Some g → Counted rs services k g
counted rs services k g c =
    let f : Service → State = λ s. state_of_label rs s.label in
    let l = counted_within (map f services) k g c in
    let n = is_within services k (subst (λ (m : ℕ). k < m) (length-map services f) l) in
    let o = counted_from rs (place_of_label rs n.0.label) g (sym (ap (λ (s : State). in_force s) (state_here rs services k n.0 n.1)) ∙ c) in
    record { service = n.0; here = n.1; place = o.0; was = o.1; counts = o.2 }

pub renewed_single : (rs : RsRecord) (settings : SettingsRecord) → IsSettings settings → AreSingle rs → AreSingle (renewed rs settings)
renewed_single rs settings checked h =
    record {
      below = λ k g c. (let a = counted rs settings.services k g c in h.below a.place g a.counts);
      single = λ j k g c d. (
          let a = counted rs settings.services j g c in
          let b = counted rs settings.services k g d in
          let same : a.place ≡ b.place = h.single a.place b.place g a.counts b.counts in
          let labels : a.service.label ≡ b.service.label =
          sym (labels_found rs a.service.label a.place a.was).1 ∙ ap (λ (i : ℕ). label_at rs i) same ∙
          (labels_found rs b.service.label b.place b.was).1 in
          same_place settings.services j k a.service b.service (services_apart settings checked).labels a.here b.here labels);
    }

-- ---- RS's refusal, once no fault applies
pub only_room : (o : Option RenewFault) (fault : RenewFault) → (fault ≢ NoRoom → o ≡ Some fault) → o ≡ None → fault ≡ NoRoom
only_room o FewerSlots h e = absurd (none-some FewerSlots (sym e ∙ h (λ (d : FewerSlots ≡ NoRoom). cc)))
only_room o OutOfRange h e = absurd (none-some OutOfRange (sym e ∙ h (λ (d : OutOfRange ≡ NoRoom). cc)))
only_room o (StillUp i) h e = absurd (none-some (StillUp i) (sym e ∙ h (λ (d : StillUp i ≡ NoRoom). cc)))
only_room o NoRoom h e = refl

-- ---- the walk
pub sources_step : (rs : RsRecord) (ns : List Service) (i : ℕ) (service : Service) → slice_get ns i ≡ Some service → i < length ns →
    sources_of rs (take (i + 1) ns) ≡ sources_of rs (take i ns) ++ place_of_label rs service.label ∷ []
sources_step rs ns i service at l =
    let f : Service → Option ℕ = λ n. place_of_label rs n.label in
    let e : get_or ns i service ≡ service = get_or_from_slice_get ns i service service at in
    map_more f ns i service l ∙ ap (λ (n : Service). map f (take i ns) ++ place_of_label rs n.label ∷ []) e
