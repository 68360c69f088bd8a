-- A running instance is ahead of all labels of its service that were made before it.
use Rattle.std.proofs.Common.{◌≡◌, ℕ, zero, suc, ◌+◌, ◌<◌, ◌≤◌, nat_lt, Bool, true, false, cond, List, [], ◌∷◌, ◌++◌, get_or, length}
use Rattle.std.proofs.Common.{replicate, Option, Some, None, refl, ap, sym, ◌∙◌, subst, inl, inr, ◌⊎◌, arith, Contains}
use Rattle.std.proofs.lemmas.List.{length-replicate, get_or-set_same}
use Rattle.std.proofs.lemmas.Bool.{cases_lt}
use Rattle.std.proofs.lemmas.List.Elements.{Contains-append_cases}
use Rattle.ds_names.specs.Endpoint.{EndpointRecord}
use Rattle.ds_names.specs.Key.{label_key}
use Rattle.ds_names.specs.Kind.{is_label}
use Rattle.ds_names.specs.declared.key.Key.{Key}
use Rattle.ds_entry.specs.Change.{ChangeRecord}
use Rattle.ds_entry.proofs.Members.{Contains-nil, Contains-cons}
use Rattle.rs_settings.specs.declared.service.Service.{Service}
use Rattle.rs_settings.specs.Settings.{SettingsRecord, IsSettings}
use Rattle.rs_core.specs.declared.action.Action.{Action}
use Rattle.rs_core.specs.declared.event.Event.{Event}
use Rattle.rs_core.specs.declared.deed.Deed.{Deed}
use Rattle.rs_core.specs.declared.deed.Deed.TheVariants.{Begin, Resume, Halt, Replace, Lose, Forget, Hear, Ping}
use Rattle.rs_core.specs.declared.state.State.{State}
use Rattle.rs_core.specs.declared.state.State.TheVariants.{Down, Up, Waiting, GaveUp}
use Rattle.rs_core.specs.declared.state.Running.{Running}
use Rattle.rs_core.specs.declared.state.Pause.{Pause}
use Rattle.rs_core.specs.Action.{label_put, label_gone, start_actions, stop_actions}
use Rattle.rs_core.specs.Machine.{failed, failures_left, state_after, actions_of}
use Rattle.rs_core.specs.Machine.{started_at, new_endpoint, same_slot}
use Rattle.rs_core.specs.Numbering.{NumbererRecord}
use Rattle.rs_core.specs.Run.{offers}
use Rattle.rs_core.specs.Says.{Begun, begun_at, IsNextAfter, IsPutOf, RanOrBegan, StepSays}
use Rattle.rs_core.specs.State.{RsRecord, state_at, service_at, no_service}
use Rattle.rs_core.specs.Step.{RsStep}
use Rattle.rs_core.proofs.SaysLemmas.{steps_say}
use Rattle.ds_system.proofs.Kept.{label_of_service, IsKept}
use Rattle.ds_system.proofs.SingleLemmas.{one_service, given}

-- ---- the services' labels
-- no service past the end has a name for its label
label_within : (settings : SettingsRecord) → IsSettings settings → (i j : ℕ) → i < length settings.services →
    label_of_service settings i ≡ label_of_service settings j → j < length settings.services
label_within settings checked i j l e = elim (cases_lt j (length settings.services)) [
  | inl low ↦ low
  | inr high ↦
      (let name = (checked.each i no_service l).label.some in
      let none : label_of_service settings i ≡ [] = e ∙ ap (λ (s : Service). s.label) (past settings.services j high) in
      absurd (let n : length (label_of_service settings i) ≡ 0 = ap (λ (x : List ℕ). length x) none in omega arith))
]
  where
    past : (services : List Service) (j : ℕ) → length services ≤ j → get_or services j no_service ≡ no_service
    past [] j h = refl
    past (x ∷ xs) zero h = absurd (omega arith)
    past (x ∷ xs) (suc j) h = past xs j (omega arith)

-- ---- what a deed offers
-- each offered change is of the service's label; where the service runs afterwards, it is the label of that instance, or of
-- an earlier one
record IsOffered (label : List ℕ) (after : State) (c : ChangeRecord) : Type 0 where
  key : c.key ≡ label_key label
  ahead : (r : Running) → after ≡ Up r → (c.version.epoch < r.endpoint.generation) ⊎ (c ≡ label_put label r.endpoint)

abbrev AreOffered : List ℕ → List Action → State → Type 0
AreOffered label actions after = (c : ChangeRecord) → Contains (offers actions) c → IsOffered label after c

up_endpoint : (q r : Running) → Up q ≡ Up r → q.endpoint ≡ r.endpoint
up_endpoint q r e = let same : q ≡ r = cc in ap (λ (z : Running). z.endpoint) same

none_offered : (label : List ℕ) (after : State) → AreOffered label [] after
none_offered label after c h = absurd (Contains-nil c h)

is_put : (label : List ℕ) (e : EndpointRecord) (after : State) (c : ChangeRecord) → ((r : Running) → after ≡ Up r → e ≡ r.endpoint) →
    c ≡ label_put label e → IsOffered label after c
is_put label e after c own same = record {
  key = ap (λ (z : ChangeRecord). z.key) same;
  ahead = λ r up. inr (same ∙ ap (label_put label) (own r up));
}

is_gone : (label : List ℕ) (g : ℕ) (after : State) (c : ChangeRecord) → ((r : Running) → after ≡ Up r → g < r.endpoint.generation) →
    c ≡ label_gone label g → IsOffered label after c
is_gone label g after c low same = record {
  key = ap (λ (z : ChangeRecord). z.key) same;
  ahead = λ r up. inl (let e : c.version.epoch ≡ g = ap (λ (z : ChangeRecord). z.version.epoch) same in let l = low r up in omega arith);
}

only_one : (x c : ChangeRecord) → Contains (x ∷ []) c → c ≡ x
only_one x c h = elim (Contains-cons x [] c h) [ inl e ↦ e | inr k ↦ absurd (Contains-nil c k) ]

start_offered : (label : List ℕ) (e : EndpointRecord) (tick startup failures : ℕ) →
    AreOffered label (start_actions label e) (started_at e tick startup failures)
start_offered label e tick startup failures c h =
    is_put label e (started_at e tick startup failures) c (λ r up. up_endpoint _ r up) (only_one (label_put label e) c h)

stop_offers : (kill : Bool) (label : List ℕ) (e : EndpointRecord) (c : ChangeRecord) → Contains (offers (stop_actions kill label e)) c →
    c ≡ label_gone label e.generation
stop_offers true label e c h = only_one (label_gone label e.generation) c h
stop_offers false label e c h = only_one (label_gone label e.generation) c h

-- an instance that stops leaves none
stop_offered : (kill : Bool) (label : List ℕ) (e : EndpointRecord) (after : State) → ((r : Running) → after ≡ Up r → ⊥) →
    AreOffered label (stop_actions kill label e) after
stop_offered kill label e after none c h =
    is_gone label e.generation after c (λ r up. absurd (none r up)) (stop_offers kill label e c h)

replace_offered : (label : List ℕ) (old e : EndpointRecord) (tick startup failures : ℕ) → old.generation < e.generation →
    AreOffered label (stop_actions true label old ++ start_actions label e) (started_at e tick startup failures)
replace_offered label old e tick startup failures l c h =
    elim (Contains-cons (label_gone label old.generation) (label_put label e ∷ []) c h) [
      | inl same ↦ is_gone label old.generation (started_at e tick startup failures) c
          (λ r up. subst (λ (z : EndpointRecord). old.generation < z.generation) (up_endpoint _ r up) l) same
      | inr k ↦ is_put label e (started_at e tick startup failures) c (λ r up. up_endpoint _ r up) (only_one (label_put label e) c k)
    ]

failed_is_not_up : (limit tick failures : ℕ) (r : Running) → failed limit tick failures ≡ Up r → ⊥
failed_is_not_up limit tick failures r = by (nat_lt limit failures) (record { until = _; failures = failures })
  where
    by : (b : Bool) (p : Pause) → cond b GaveUp (Waiting p) ≡ Up r → ⊥
    by true p e = cc
    by false p e = cc

deed_offers : (s : RsRecord) (service : Service) (tick : ℕ) (state : State) (deed : Deed) →
    ((q : Running) → state ≡ Up q → q.endpoint.generation < s.next) →
    AreOffered service.label (actions_of s service state deed) (state_after s tick service state deed)
deed_offers s service tick Down Begin low = start_offered service.label (new_endpoint s) tick service.startup 0
deed_offers s service tick GaveUp Begin low = start_offered service.label (new_endpoint s) tick service.startup 0
deed_offers s service tick (Waiting p) Resume low = start_offered service.label (new_endpoint s) tick service.startup p.failures
deed_offers s service tick (Up q) Replace low =
    replace_offered service.label q.endpoint (same_slot s q) tick service.startup (failures_left service.forget tick q) (low q refl)
deed_offers s service tick (Up q) (Lose kill) low =
    stop_offered kill service.label q.endpoint _
    (failed_is_not_up service.limit tick (failures_left service.forget tick q + 1))
deed_offers s service tick (Up q) Halt low = stop_offered true service.label q.endpoint Down (λ r up. cc)
deed_offers s service tick (Up q) Hear low = λ c h. absurd (Contains-nil c h)
deed_offers s service tick (Up q) Ping low = λ c h. absurd (Contains-nil c h)
deed_offers s service tick (Waiting p) Forget low = λ c h. absurd (Contains-nil c h)
deed_offers s service tick Down deed low = none_offered service.label Down
deed_offers s service tick (Up q) deed low = none_offered service.label (Up q)
deed_offers s service tick (Waiting p) deed low = none_offered service.label (Waiting p)
deed_offers s service tick GaveUp deed low = none_offered service.label GaveUp

-- ---- the invariant
-- each label that was made is of a generation before the next one; and of a running service's label, each change is of an
-- earlier generation than the instance's, or puts the instance's own
pub record IsAhead (rs : RsRecord) (made : List ChangeRecord) : Type 0 where
  pub count : length rs.states ≡ length rs.settings.services
  pub low : (c : ChangeRecord) → Contains made c → is_label c.key.kind ≡ true → c.version.epoch < rs.next
  pub ahead : (i : ℕ) (r : Running) → state_at rs i ≡ Up r → (c : ChangeRecord) → Contains made c →
      c.key ≡ label_key (label_of_service rs.settings i) →
      (c.version.epoch < r.endpoint.generation) ⊎ (c ≡ label_put (label_of_service rs.settings i) r.endpoint)

-- what is up is one of the settings' services
pub up_within : (rs : RsRecord) (i : ℕ) (r : Running) → length rs.states ≡ length rs.settings.services → state_at rs i ≡ Up r →
    i < length rs.settings.services
up_within rs i r e up = let l = within rs.states i up in omega (arith, l, e)
  where
    within : (states : List State) (i : ℕ) → get_or states i Down ≡ Up r → i < length states
    within [] i h = cc
    within (x ∷ xs) zero h = omega arith
    within (x ∷ xs) (suc i) h = let l : i < length xs = within xs i h in omega arith

-- nothing was made in the beginning
pub new_ahead : (rs : RsRecord) → rs.states ≡ replicate (length rs.settings.services) Down → IsAhead rs []
new_ahead rs e = record {
  count = ap (λ (l : List State). length l) e ∙ length-replicate (length rs.settings.services) Down;
  low = λ c h. absurd (Contains-nil c h);
  ahead = λ i r up c h. absurd (Contains-nil c h);
}

module _ (rs after : RsRecord) (numberers : List NumbererRecord) (made : List ChangeRecord) (k : IsKept rs numberers made)
    (a : IsAhead rs made) (event : Event) (tick : ℕ) (acts : List Action) (step : RsStep rs event tick acts after) where
  says : StepSays rs acts after
  says = steps_say rs after event tick acts step

  label_same : (i : ℕ) → label_of_service after.settings i ≡ label_of_service rs.settings i
  label_same i = ap (λ (z : SettingsRecord). label_of_service z i) says.settings

  next_rises : rs.next ≤ after.next
  next_rises = by says.begun says.next
    where
      by : (b : Option Begun) → IsNextAfter rs.next b after.next → rs.next ≤ after.next
      by None h = omega arith
      by (Some b) h = let e : after.next ≡ rs.next + 1 = h.1 in omega arith

  generation_low : (i : ℕ) (q : Running) → state_at rs i ≡ Up q → q.endpoint.generation < rs.next
  generation_low i q up = (given rs numberers made k i q up).1

  offered_low : (c : ChangeRecord) → Contains (offers acts) c → c.version.epoch < after.next
  offered_low c h = elim (says.offered c h) [
    | inl p ↦ put says.begun says.next p
    | inr g ↦
        (let e : c.version.epoch ≡ g.1.endpoint.generation = ap (λ (z : ChangeRecord). z.version.epoch) g.3 in
        let l = generation_low g.0 g.1 g.2 in omega (arith, next_rises))
  ]
    where
      put : (b : Option Begun) → IsNextAfter rs.next b after.next → IsPutOf rs b c → c.version.epoch < after.next
      put None n p = absurd p
      put (Some b) n p =
          let e : c.version.epoch ≡ b.endpoint.generation = ap (λ (z : ChangeRecord). z.version.epoch) p in
          let g : b.endpoint.generation ≡ rs.next = n.0 in
          let m : after.next ≡ rs.next + 1 = n.1 in
          omega arith

  abbrev AheadOf : List ℕ → Running → ChangeRecord → Type 0
  AheadOf label r c = (c.version.epoch < r.endpoint.generation) ⊎ (c ≡ label_put label r.endpoint)

  label_kind : (c : ChangeRecord) (l : List ℕ) → c.key ≡ label_key l → is_label c.key.kind ≡ true
  label_kind c l e = ap (λ (z : Key). is_label z.kind) e

  -- what was made before
  old_ahead : (i : ℕ) (r : Running) → state_at after i ≡ Up r → (c : ChangeRecord) → Contains made c →
      c.key ≡ label_key (label_of_service rs.settings i) → AheadOf (label_of_service rs.settings i) r c
  old_ahead i r up c h e = by (says.runs i r up)
    where
      next_of : (b : Option Begun) → IsNextAfter rs.next b after.next → b ≡ Some (begun_at i r.endpoint) → r.endpoint.generation ≡ rs.next
      next_of None n q = cc
      next_of (Some b) n q = let s : b ≡ begun_at i r.endpoint = cc in ap (λ (z : Begun). z.endpoint.generation) (sym s) ∙ n.0

      by : RanOrBegan (state_at rs i) says.begun i r.endpoint → AheadOf (label_of_service rs.settings i) r c
      by (inl (q, ran, same)) = subst
          (λ (z : EndpointRecord). (c.version.epoch < z.generation) ⊎ (c ≡ label_put (label_of_service rs.settings i) z)) same
          (a.ahead i q ran c h e)
      by (inr began) =
          let g = next_of says.begun says.next began in
          let l = a.low c h (label_kind c (label_of_service rs.settings i) e) in
          inl (omega arith)

  -- what is offered now
  new_label_ahead : (i : ℕ) (r : Running) → state_at after i ≡ Up r → (c : ChangeRecord) → Contains (offers acts) c →
      c.key ≡ label_key (label_of_service rs.settings i) → AheadOf (label_of_service rs.settings i) r c
  new_label_ahead i r up c h e = by step
    where
      within : i < length rs.settings.services
      within = subst (λ (z : SettingsRecord). i < length z.services) says.settings
          (up_within after i r (says.count ∙ a.count ∙ ap (λ (z : SettingsRecord). length z.services) (sym says.settings)) up)

      by : RsStep rs event tick acts after → AheadOf (label_of_service rs.settings i) r c
      by (None, free, is, d) = absurd (Contains-nil c (subst (λ (z : List Action). Contains (offers z) c) d.done h))
      by (Some p, free, is, d) =
          subst (λ (l : List ℕ). AheadOf l r c) (ap (label_of_service rs.settings) (sym place)) (o.ahead r here)
        where
          x : State
          x = state_after rs tick (service_at rs p.place) (state_at rs p.place) p.deed

          o : IsOffered (label_of_service rs.settings p.place) x c
          o = deed_offers rs (service_at rs p.place) tick (state_at rs p.place) p.deed (generation_low p.place) c
              (subst (λ (z : List Action). Contains (offers z) c) d.done h)

          labels_same : label_of_service rs.settings i ≡ label_of_service rs.settings p.place
          labels_same = ap (λ (z : Key). z.name) (sym e) ∙ ap (λ (z : Key). z.name) o.key

          in_range : p.place < length rs.settings.services
          in_range = label_within rs.settings k.settings i p.place within labels_same

          place : i ≡ p.place
          place = one_service rs.settings k.settings i p.place within in_range labels_same

          lt : p.place < length rs.states
          lt = let n = a.count in omega (arith, in_range)

          here : x ≡ Up r
          here = sym (get_or-set_same rs.states p.place x Down lt) ∙
              (ap (λ (z : RsRecord). state_at z p.place) (sym d.after) ∙ subst (λ (j : ℕ). state_at after j ≡ Up r) place up)

  pub act_ahead : IsAhead after (made ++ offers acts)
  act_ahead = record {
    count = says.count ∙ a.count ∙ ap (λ (z : SettingsRecord). length z.services) (sym says.settings);
    low = λ c h e. elim (Contains-append_cases made (offers acts) c h) [
      | inl i ↦ (let l = a.low c i e in omega (arith, next_rises))
      | inr i ↦ offered_low c i
    ];
    ahead = λ i r up c h e.
        let q : c.key ≡ label_key (label_of_service rs.settings i) = e ∙ ap label_key (label_same i) in
        subst (λ (l : List ℕ). AheadOf l r c) (sym (label_same i)) (elim (Contains-append_cases made (offers acts) c h)
        [ inl j ↦ old_ahead i r up c j q | inr j ↦ new_label_ahead i r up c j q ]);
  }
