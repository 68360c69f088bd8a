-- What one step of the restart machine says of instances and of their labels.
use Rattle.std.proofs.Common.{◌≡◌, ℕ, zero, suc, ◌+◌, ◌≤◌, ◌<◌, nat_lt, Bool, true, false, ◌&&◌, cond, List, [], ◌∷◌, ◌++◌, length, get_or}
use Rattle.std.proofs.Common.{Option, Some, None, Ok, Result, refl, sym, ap, ◌∙◌, subst, arith, inl, inr, ◌⊎◌}
use Rattle.std.specs.List.{Contains, find, AllByRecursion}
use Rattle.std.proofs.Math.ListN.{set, length-set}
use Rattle.std.specs.Cmp.Lexicographic.{same_text}
use Rattle.std.proofs.lemmas.Bool.Decides.{nat_tests}
use Rattle.ds_names.specs.Endpoint.{EndpointRecord}
use Rattle.ds_entry.specs.Change.{ChangeRecord}
use Rattle.ds_entry.proofs.Members.{In, In-from_Contains, Contains-from_In, Contains-nil}
use Rattle.rs_settings.specs.Values.{is_same}
use Rattle.rs_settings.specs.declared.service.Service.{Service}
use Rattle.rs_core.specs.declared.action.Action.{Action}
use Rattle.rs_core.specs.declared.event.Event.{Event}
use Rattle.rs_core.specs.declared.fault.RsFault.{RsFault}
use Rattle.rs_core.specs.declared.fault.RsFault.TheVariants.{GenerationsSpent}
use Rattle.rs_core.specs.declared.state.State.{State}
use Rattle.rs_core.specs.declared.state.State.TheVariants.{Down, Up, Waiting, GaveUp}
use Rattle.rs_core.specs.declared.state.Running.{Running}
use Rattle.rs_core.specs.declared.state.Pause.{Pause}
use Rattle.rs_core.specs.declared.deed.Deed.{Deed}
use Rattle.rs_core.specs.declared.deed.Deed.TheVariants.{Begin, Resume, Halt, Replace, Lose, Forget, Hear, Ping}
use Rattle.rs_core.specs.declared.deed.Task.{Task}
use Rattle.rs_core.specs.declared.finding.Sought.TheVariants as sought
use Rattle.rs_core.specs.Action.{IsActionInPlace, label_put, start_actions, stop_actions}
use Rattle.rs_core.specs.State.{RsRecord, state_at, service_at, no_service}
use Rattle.rs_core.specs.Finding.{first_sought}
use Rattle.rs_core.specs.Machine.{asked, failed, failures_left, state_after, actions_of, next_after, new_endpoint, same_slot, started_at}
use Rattle.rs_core.specs.Judging.{order, against, refusal, takes_generation, has_actions, asks}
use Rattle.rs_core.specs.Run.{offers}
use Rattle.rs_core.specs.Says.{Begun, begun_at, label_at, IsNextAfter, IsPutOf, IsGoneOf, RanOrBegan, StepsSay, QuietStepsAreEmpty}
use Rattle.rs_core.specs.Says.{LabelsAreFound}

up_is : (r q : Running) → Up r ≡ Up q → r ≡ q
up_is r q e = cc

-- ---- what is done to a service

-- what a deed to the service with this index says about these actions, the next generation, and its state after it
record DeedSays (s : RsRecord) (place : ℕ) (state : State) (actions : List Action) (next : ℕ) (after : State) : Type 0 where
  few : length actions ≤ 5
  in_place : AllByRecursion IsActionInPlace actions
  begun : Option Begun
  next_is : IsNextAfter s.next begun next
  put : (b : Begun) → begun ≡ Some b → In (label_put (label_at s b.place) b.endpoint) (offers actions)
  offered : (c : ChangeRecord) → In c (offers actions) → IsPutOf s begun c ⊎ IsGoneOf s c
  runs : (r : Running) → after ≡ Up r → RanOrBegan state begun place r.endpoint

module _ (s : RsRecord) (place : ℕ) where
  -- an instance begins under this endpoint
  begins : (state : State) (actions : List Action) (e : EndpointRecord) (tick startup failures : ℕ) → length actions ≤ 5 →
      AllByRecursion IsActionInPlace actions → e.generation ≡ s.next → s.next ≤ 2097151
      → In (label_put (label_at s place) e) (offers actions) →
      ((c : ChangeRecord) → In c (offers actions) → (c ≡ label_put (label_at s place) e) ⊎ IsGoneOf s c)
      → DeedSays s place state actions (s.next + 1) (started_at e tick startup failures)
  begins state actions e tick startup failures few own g left there all = record {
    few = few;
    in_place = own;
    begun = Some (begun_at place e);
    next_is = (g, refl, left);
    put = λ b same. put_of b (let k : begun_at place e ≡ b = cc in k);
    offered = all;
    runs = λ r up. inr (ap (λ (q : Running). Some (begun_at place q.endpoint)) (up_is _ r up));
  }
    where
      put_of : (b : Begun) → begun_at place e ≡ b → In (label_put (label_at s b.place) b.endpoint) (offers actions)
      put_of b same = subst (λ (z : Begun). In (label_put (label_at s z.place) z.endpoint) (offers actions)) same there

  -- none begins
  rests : (state : State) (actions : List Action) (after : State) → length actions ≤ 5 → AllByRecursion IsActionInPlace actions →
      ((c : ChangeRecord) → In c (offers actions) → IsGoneOf s c)
      → ((r : Running) → after ≡ Up r → (q : Running) × (state ≡ Up q) × (q.endpoint ≡ r.endpoint)) →
      DeedSays s place state actions s.next after
  rests state actions after few own all runs = record {
    few = few;
    in_place = own;
    begun = None;
    next_is = refl;
    put = λ b same. absurd (let n : None ≡ Some b = same in cc);
    offered = λ c h. inr (all c h);
    runs = λ r up. inl (runs r up);
  }

  -- nothing is done
  stays : (state : State) → DeedSays s place state [] s.next state
  stays state = rests state [] state (omega arith) tt (λ c h. absurd h) (λ r up. (r, up, refl))

  only_put : (e : EndpointRecord) (c : ChangeRecord) → In c (offers (start_actions (label_at s place) e)) →
      (c ≡ label_put (label_at s place) e) ⊎ IsGoneOf s c
  only_put e c (inl same) = inl same
  only_put e c (inr h) = absurd h

  only_gone : (kill : Bool) (r : Running) → state_at s place ≡ Up r → (c : ChangeRecord) →
      In c (offers (stop_actions kill (label_at s place) r.endpoint)) → IsGoneOf s c
  only_gone true r here c (inl same) = (place, r, here, same)
  only_gone true r here c (inr h) = absurd h
  only_gone false r here c (inl same) = (place, r, here, same)
  only_gone false r here c (inr h) = absurd h

  gone_and_put : (r : Running) (e : EndpointRecord) → state_at s place ≡ Up r → (c : ChangeRecord) →
      In c (offers (stop_actions true (label_at s place) r.endpoint ++ start_actions (label_at s place) e))
      → (c ≡ label_put (label_at s place) e) ⊎ IsGoneOf s c
  gone_and_put r e here c (inl same) = inr (place, r, here, same)
  gone_and_put r e here c (inr (inl same)) = inl same
  gone_and_put r e here c (inr (inr h)) = absurd h

  few_stops : (kill : Bool) (label : List ℕ) (e : EndpointRecord) → length (stop_actions kill label e) ≤ 5
  few_stops true label e = omega arith
  few_stops false label e = omega arith

  own_stops : (kill : Bool) (label : List ℕ) (e : EndpointRecord) → AllByRecursion IsActionInPlace (stop_actions kill label e)
  own_stops true label e = (tt, (tt, (tt, tt)))
  own_stops false label e = (tt, (tt, tt))

  -- a failure leaves no instance
  none_runs : (limit tick failures : ℕ) (r : Running) → failed limit tick failures ≡ Up r → ⊥
  none_runs limit tick failures r = by (nat_lt limit failures) (record { until = _; failures = failures })
    where
      by : (b : Bool) (p : Pause) → cond b GaveUp (Waiting p) ≡ Up r → ⊥
      by true p e = let n : GaveUp ≡ Up r = e in cc
      by false p e = let n : Waiting p ≡ Up r = e in cc

  deed_says : (tick : ℕ) (state : State) → state_at s place ≡ state → (deed : Deed) → (takes_generation deed ≡ true → s.next ≤ 2097151)
      → DeedSays s place state (actions_of s (service_at s place) state deed) (next_after s state deed)
      (state_after s tick (service_at s place) state deed)
  deed_says tick Down here Begin left = begins Down _ (new_endpoint s) tick (service_at s place).startup 0 (omega arith) (tt, (tt, tt))
      refl (left refl) (inl refl) (only_put (new_endpoint s))
  deed_says tick GaveUp here Begin left = begins GaveUp _ (new_endpoint s) tick (service_at s place).startup 0 (omega arith) (tt, (tt, tt))
      refl (left refl) (inl refl) (only_put (new_endpoint s))
  deed_says tick (Waiting p) here Resume left =
      begins (Waiting p) _ (new_endpoint s) tick (service_at s place).startup p.failures (omega arith) (tt, (tt, tt)) refl (left refl)
      (inl refl) (only_put (new_endpoint s))
  deed_says tick (Up r) here Replace left =
      begins (Up r) _ (same_slot s r) tick (service_at s place).startup (failures_left (service_at s place).forget tick r) (omega arith)
      (tt, (tt, (tt, (tt, (tt, tt))))) refl (left refl) (inr (inl refl)) (gone_and_put r (same_slot s r) here)
  deed_says tick (Up r) here (Lose kill) left =
      rests (Up r) (stop_actions kill (label_at s place) r.endpoint) _ (few_stops kill (label_at s place) r.endpoint)
      (own_stops kill (label_at s place) r.endpoint) (only_gone kill r here)
      (λ q up. absurd (none_runs (service_at s place).limit tick (failures_left (service_at s place).forget tick r + 1) q up))
  deed_says tick (Up r) here Halt left =
      rests (Up r) (stop_actions true (label_at s place) r.endpoint) _ (omega arith) (tt, (tt, (tt, tt))) (only_gone true r here)
      (λ q up. absurd (let n : Down ≡ Up q = up in cc))
  deed_says tick (Up r) here Hear left = rests (Up r) [] _ (omega arith) tt (λ c h. absurd h)
      (λ q up. (r, refl, ap (λ (z : Running). z.endpoint) (up_is _ q up)))
  deed_says tick (Up r) here Ping left = rests (Up r) _ _ (omega arith) (tt, tt) (λ c h. absurd h)
      (λ q up. (r, refl, ap (λ (z : Running). z.endpoint) (up_is _ q up)))
  deed_says tick (Waiting p) here Forget left =
      rests (Waiting p) [] Down (omega arith) tt (λ c h. absurd h) (λ q up. absurd (let n : Down ≡ Up q = up in cc))
  deed_says tick Down here deed left = stays Down
  deed_says tick (Up r) here deed left = stays (Up r)
  deed_says tick (Waiting p) here deed left = stays (Waiting p)
  deed_says tick GaveUp here deed left = stays GaveUp

-- ---- a step

-- none of a list applies
none_stands : {X : Type 0} (p : X → Bool) (xs : List X) (x : X) → find p xs ≡ None → In x xs → p x ≡ false
none_stands p [] x e h = absurd h
none_stands p (y ∷ ys) x e h = by (p y) refl e h (none_stands p ys x)
  where
    by : (b : Bool) → p y ≡ b → cond b (Some y) (find p ys) ≡ None → (x ≡ y) ⊎ In x ys → (find p ys ≡ None → In x ys → p x ≡ false) →
        p x ≡ false
    by true q f k rest = absurd (let n : Some y ≡ None = f in cc)
    by false q f (inl same) rest = ap p same ∙ q
    by false q f (inr k) rest = rest f k

second_false : (a b : Bool) → a && b ≡ false → a ≡ true → b ≡ false
second_false true b e q = e
second_false false b e q = absurd (let n : false ≡ true = q in cc)

-- a deed that takes a generation finds one left, if no fault applies to the event
generation_left : (s : RsRecord) (event : Event) (tick : ℕ) (p : Task) → refusal s event tick ≡ None → asked s event tick ≡ Ok (Some p) →
    takes_generation p.deed ≡ true → s.next ≤ 2097151
generation_left s event tick p free is takes =
    let spent : asks takes_generation (asked s event tick) && nat_lt 2097151 s.next ≡ false =
    none_stands (against s event tick) order GenerationsSpent free (inr (inr (inr (inr (inr (inr (inr (inl refl)))))))) in
    let here : takes_generation p.deed && nat_lt 2097151 s.next ≡ false =
    subst (λ (z : Result (Option Task) RsFault). asks takes_generation z && nat_lt 2097151 s.next ≡ false) is spent in
    let q : nat_lt 2097151 s.next ≡ false = second_false (takes_generation p.deed) (nat_lt 2097151 s.next) here takes in
    grind (arith, nat_tests)

-- what is read of a list where one place was written
pub written : (xs : List State) (at i : ℕ) (x : State) →
    (get_or (set xs at x) i Down ≡ get_or xs i Down) ⊎ ((i ≡ at) × (get_or (set xs at x) i Down ≡ x))
written [] at i x = inl refl
written (y ∷ ys) zero zero x = inr (refl, refl)
written (y ∷ ys) zero (suc i) x = inl refl
written (y ∷ ys) (suc at) zero x = inl refl
written (y ∷ ys) (suc at) (suc i) x = elim (written ys at i x) [ inl same ↦ inl same | inr here ↦ inr (ap suc here.0, here.1) ]

pub steps_say : StepsSay
steps_say s t event tick actions (None, free, is, h) = record {
  settings = ap (λ (z : RsRecord). z.settings) h.after;
  count = ap (λ (z : RsRecord). length z.states) h.after;
  few = subst (λ (z : List Action). length z ≤ 5) (sym h.done) (omega arith);
  in_place = subst (AllByRecursion IsActionInPlace) (sym h.done) tt;
  begun = None;
  next = ap (λ (z : RsRecord). z.next) h.after;
  put = λ b same. absurd (let n : None ≡ Some b = same in cc);
  offered = λ c k. absurd (Contains-nil c (subst (λ (z : List Action). Contains (offers z) c) h.done k));
  runs = λ i r up. inl (r, sym (ap (λ (z : RsRecord). state_at z i) h.after) ∙ up, refl);
}
steps_say s t event tick actions (Some p, free, is, h) = record {
  settings = ap (λ (z : RsRecord). z.settings) h.after;
  count = ap (λ (z : RsRecord). length z.states) h.after ∙ length-set s.states p.place after;
  few = subst (λ (z : List Action). length z ≤ 5) (sym h.done) says.few;
  in_place = subst (AllByRecursion IsActionInPlace) (sym h.done) says.in_place;
  begun = says.begun;
  next = subst (IsNextAfter s.next says.begun) (sym (ap (λ (z : RsRecord). z.next) h.after)) says.next_is;
  put = λ b same. subst (λ (z : List Action). Contains (offers z) (label_put (label_at s b.place) b.endpoint)) (sym h.done)
      (Contains-from_In _ _ (says.put b same));
  offered = λ c k. says.offered c (In-from_Contains c _ (subst (λ (z : List Action). Contains (offers z) c) h.done k));
  runs = λ i r up. by i r (written s.states p.place i after) (sym (ap (λ (z : RsRecord). state_at z i) h.after) ∙ up);
}
  where
    after : State
    after = state_after s tick (service_at s p.place) (state_at s p.place) p.deed

    says : DeedSays s p.place (state_at s p.place) (actions_of s (service_at s p.place) (state_at s p.place) p.deed)
        (next_after s (state_at s p.place) p.deed) after
    says = deed_says s p.place tick (state_at s p.place) refl p.deed (generation_left s event tick p free is)

    by : (i : ℕ) (r : Running) → (get_or (set s.states p.place after) i Down ≡ get_or s.states i Down) ⊎
        ((i ≡ p.place) × (get_or (set s.states p.place after) i Down ≡ after)) → get_or (set s.states p.place after) i Down ≡ Up r
        → RanOrBegan (state_at s i) says.begun i r.endpoint
    by i r (inl same) up = inl (r, sym same ∙ up, refl)
    by i r (inr here) up = subst (λ k. RanOrBegan (state_at s k) says.begun k r.endpoint) (sym here.0) (says.runs r (sym here.1 ∙ up))

-- ---- steps without actions

-- a deed without actions does nothing to a service in any state
quiet_deed : (s : RsRecord) (service : Service) (state : State) (deed : Deed) → has_actions deed ≡ false →
    actions_of s service state deed ≡ []
quiet_deed s service Down Forget e = refl
quiet_deed s service (Up r) Forget e = refl
quiet_deed s service (Waiting p) Forget e = refl
quiet_deed s service GaveUp Forget e = refl
quiet_deed s service Down Hear e = refl
quiet_deed s service (Up r) Hear e = refl
quiet_deed s service (Waiting p) Hear e = refl
quiet_deed s service GaveUp Hear e = refl
quiet_deed s service state Begin e = absurd (let n : true ≡ false = e in cc)
quiet_deed s service state Resume e = absurd (let n : true ≡ false = e in cc)
quiet_deed s service state Halt e = absurd (let n : true ≡ false = e in cc)
quiet_deed s service state Replace e = absurd (let n : true ≡ false = e in cc)
quiet_deed s service state (Lose kill) e = absurd (let n : true ≡ false = e in cc)
quiet_deed s service state Ping e = absurd (let n : true ≡ false = e in cc)

pub quiet_steps : QuietStepsAreEmpty
quiet_steps s t event tick actions (None, free, is, h) quiet = h.done
quiet_steps s t event tick actions (Some p, free, is, h) quiet =
    let none : has_actions p.deed ≡ false = subst (λ (z : Result (Option Task) RsFault). asks has_actions z ≡ false) is quiet in
    h.done ∙ quiet_deed s (service_at s p.place) (state_at s p.place) p.deed none

-- ---- labels
found_label : (label : List ℕ) (k : ℕ) (services : List Service) (states : List State) (i : ℕ) →
    first_sought (sought.Label label) k services states ≡ Some i
    → (j : ℕ) × (i ≡ k + j) × (j < length services) × ((get_or services j no_service).label ≡ label)
found_label label k [] states i e = absurd (let n : None ≡ Some i = e in cc)
found_label label k (x ∷ xs) [] i e = absurd (let n : None ≡ Some i = e in cc)
found_label label k (x ∷ xs) (y ∷ ys) i e = by (is_same x.label label) refl e (found_label label (k + 1) xs ys i)
  where
    some : (m n : ℕ) → Some m ≡ Some n → m ≡ n
    some m n q = cc

    by : (b : Bool) → is_same x.label label ≡ b → cond b (Some k) (first_sought (sought.Label label) (k + 1) xs ys) ≡ Some i
        → (first_sought (sought.Label label) (k + 1) xs ys ≡ Some i →
        (j : ℕ) × (i ≡ k + 1 + j) × (j < length xs) × ((get_or xs j no_service).label ≡ label))
        → (j : ℕ) × (i ≡ k + j) × (j < length (x ∷ xs)) × ((get_or (x ∷ xs) j no_service).label ≡ label)
    by true q h rest = (0, (let n : k ≡ i = some k i h in omega arith), omega arith, same_text x.label label (sym q))
    by false q h rest = let r = rest h in
        (suc r.0, (let n : i ≡ k + 1 + r.0 = r.1 in omega arith), (let n : r.0 < length xs = r.2 in omega arith), r.3)

pub labels_found : LabelsAreFound
labels_found s label i e =
    let at = found_label label 0 s.settings.services s.states i e in
    let place : at.0 ≡ i = (let q : i ≡ 0 + at.0 = at.1 in omega arith) in
    (subst (λ (n : ℕ). n < length s.settings.services) place at.2, subst (λ (n : ℕ). label_at s n ≡ label) place at.3)
