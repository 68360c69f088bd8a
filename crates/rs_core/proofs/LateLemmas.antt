-- What a step of RS counts as up, and which instances it refuses.
use Rattle.std.proofs.Common.{◌≡◌, ◌⊎◌, ◌+◌, ◌-◌, ◌*◌, ◌<◌, ◌≤◌, ◌==◌, ◌&&◌, nat_le, nat_lt, ℕ, zero, suc, Bool, true, false, cond, List}
use Rattle.std.proofs.Common.{[], ◌∷◌, get_or, length, Option, Some, None, Ok, refl, sym, ap, ◌∙◌, subst, inl, inr, arith}
use Rattle.std.proofs.lemmas.Bool.{and_left, and_parts, and_right, eqb-true, lt-leb, ltb-true, false≢true, true≢false}
use Rattle.std.proofs.lemmas.Option.{same_Some, none-some}
use Rattle.std.proofs.Math.ListN.{set}
use Rattle.ds_names.specs.Endpoint.{EndpointRecord, is_same_endpoint}
use Rattle.rs_settings.specs.declared.service.Service.{Service}
use Rattle.rs_core.specs.declared.action.Action.{Action}
use Rattle.rs_core.specs.declared.deed.Deed.{Deed}
use Rattle.rs_core.specs.declared.deed.Deed.TheVariants.{Begin, Resume, Halt, Replace, Lose, Forget, Hear, Ping}
use Rattle.rs_core.specs.declared.deed.Task.{Task}
use Rattle.rs_core.specs.declared.event.Event.TheVariants.{Beat, Death}
use Rattle.rs_core.specs.declared.finding.Sought.TheVariants as sought
use Rattle.rs_core.specs.declared.state.State.{State}
use Rattle.rs_core.specs.declared.state.State.TheVariants.{Down, Up, Waiting, GaveUp}
use Rattle.rs_core.specs.declared.state.Running.{Running}
use Rattle.rs_core.specs.Finding.{first_sought, is_sought, service_place}
use Rattle.rs_core.specs.Judging.{asks, takes_generation}
use Rattle.rs_core.specs.Machine.{asked, failed, failures_left, next_after, of_instance, pause, state_after, task}
use Rattle.rs_core.specs.Late.{endpoint_in_force, in_force, AreSingle, IsUncounted, IsLate, BeatIsNoted, BeatsAreNoted, DeadAreUncounted}
use Rattle.rs_core.specs.Late.{HeardAreNotMissed, OtherPlansKeepNext, SingleStays, UncountedStayLate}
use Rattle.rs_core.specs.Says.{Begun, begun_at, IsNextAfter, RanOrBegan, StepSays}
use Rattle.rs_core.specs.State.{RsRecord, state_at, service_at}
use Rattle.rs_core.specs.Step.{IsCarriedOut, RsStep}
use Rattle.rs_core.specs.Table.{on_death}
use Rattle.rs_core.proofs.ReadingLemmas.{same_asked}
use Rattle.rs_core.proofs.SaysLemmas.{steps_say, written}

-- ---- an instance that is in_force
pub counted_up : (st : State) (g : ℕ) → in_force st ≡ Some g → (r : Running) × (st ≡ Up r) × (r.endpoint.generation ≡ g)
counted_up (Up r) g e = (r, refl, same_Some r.endpoint.generation g e)
counted_up (Waiting p) g e = absurd (none-some g e)
counted_up Down g e = absurd (none-some g e)
counted_up GaveUp g e = absurd (none-some g e)

pub up_counted : (st : State) (r : Running) → st ≡ Up r → in_force st ≡ Some r.endpoint.generation
up_counted st r e = ap in_force e

-- What RS counts as up after a step was in_force before, or began in it.
abbrev pub BeganAs : (s t : RsRecord) → Option Begun → ℕ → ℕ → Type 0
BeganAs s t begun k g = (e : EndpointRecord) × (begun ≡ Some (begun_at k e)) × (g ≡ s.next) × (t.next ≡ s.next + 1)

next_of_begun : (next after k : ℕ) (e : EndpointRecord) (b : Option Begun) → b ≡ Some (begun_at k e) → IsNextAfter next b after →
    (e.generation ≡ next) × (after ≡ next + 1)
next_of_begun next after k e b is h =
    let n = subst (λ (x : Option Begun). IsNextAfter next x after) is h in (n.0, n.1)

pub counted_before : (s t : RsRecord) (actions : List Action) (h : StepSays s actions t) (k g : ℕ) → in_force (state_at t k) ≡ Some g →
    (in_force (state_at s k) ≡ Some g) ⊎ BeganAs s t h.begun k g
counted_before s t actions h k g c = by (h.runs k u.0 u.1)
  where
    u : (r : Running) × (state_at t k ≡ Up r) × (r.endpoint.generation ≡ g)
    u = counted_up (state_at t k) g c

    by : RanOrBegan (state_at s k) h.begun k u.0.endpoint → (in_force (state_at s k) ≡ Some g) ⊎ BeganAs s t h.begun k g
    by (inl (q, a, e)) = inl (up_counted (state_at s k) q a ∙ ap (λ (x : EndpointRecord). Some x.generation) e ∙ ap (λ (n : ℕ). Some n) u.2)
    by (inr b) =
        let n = next_of_begun s.next t.next k u.0.endpoint h.begun b h.next in
        inr (u.0.endpoint, b, sym u.2 ∙ n.0, n.1)

pub next_grows : (next after : ℕ) (b : Option Begun) → IsNextAfter next b after → next ≤ after
next_grows next after None h = omega (arith, h)
next_grows next after (Some b) h = omega (arith, h.1)

pub next_is : (next after : ℕ) (b : Option Begun) → IsNextAfter next b after → (after ≡ next) ⊎ (after ≡ next + 1)
next_is next after None h = inl h
next_is next after (Some b) h = inr h.1

-- ---- a plan that starts nothing
quiet_deed : (s : RsRecord) (state : State) (deed : Deed) → takes_generation deed ≡ false → next_after s state deed ≡ s.next
quiet_deed s state Begin e = absurd (true≢false e)
quiet_deed s state Resume e = absurd (true≢false e)
quiet_deed s state Replace e = absurd (true≢false e)
quiet_deed s Down Halt e = refl
quiet_deed s (Up r) Halt e = refl
quiet_deed s (Waiting p) Halt e = refl
quiet_deed s GaveUp Halt e = refl
quiet_deed s Down (Lose kill) e = refl
quiet_deed s (Up r) (Lose kill) e = refl
quiet_deed s (Waiting p) (Lose kill) e = refl
quiet_deed s GaveUp (Lose kill) e = refl
quiet_deed s Down Forget e = refl
quiet_deed s (Up r) Forget e = refl
quiet_deed s (Waiting p) Forget e = refl
quiet_deed s GaveUp Forget e = refl
quiet_deed s Down Hear e = refl
quiet_deed s (Up r) Hear e = refl
quiet_deed s (Waiting p) Hear e = refl
quiet_deed s GaveUp Hear e = refl
quiet_deed s Down Ping e = refl
quiet_deed s (Up r) Ping e = refl
quiet_deed s (Waiting p) Ping e = refl
quiet_deed s GaveUp Ping e = refl

pub other_plans_keep_next : OtherPlansKeepNext
other_plans_keep_next s t event tick actions p (None, free, is, h) m e = ap (λ (z : RsRecord). z.next) h.after
other_plans_keep_next s t event tick actions p (Some it, free, is, h) m e =
    ap (λ (z : RsRecord). z.next) h.after ∙
    quiet_deed s (state_at s it.place) it.deed
    (subst (λ (o : Option Task). asks takes_generation (Ok o) ≡ false) (same_asked p.task (Some it) (asked s event tick) m.called is) e)

-- ---- an instance that isn't in_force
not_same : (e : EndpointRecord) (st : State) → (in_force st ≡ Some e.generation → ⊥) → (service : Service) →
    is_sought (sought.Instance e) service st ≡ false
not_same e Down n service = refl
not_same e (Waiting p) n service = refl
not_same e GaveUp n service = refl
not_same e (Up r) n service = by (is_same_endpoint r.endpoint e) refl
  where
    by : (b : Bool) → is_same_endpoint r.endpoint e ≡ b → is_same_endpoint r.endpoint e ≡ false
    by false h = h
    by true h = absurd (n (ap (λ (k : ℕ). Some k) (same_generation r.endpoint e h)))
      where
        same_generation : (a b : EndpointRecord) → is_same_endpoint a b ≡ true → a.generation ≡ b.generation
        same_generation a b t = eqb-true a.generation b.generation (and_parts (a.generation == b.generation) (a.slot == b.slot) t).0

not_found : (e : EndpointRecord) (i : ℕ) (services : List Service) (states : List State) →
    ((k : ℕ) → in_force (get_or states k Down) ≡ Some e.generation → ⊥) → first_sought (sought.Instance e) i services states ≡ None
not_found e i [] states n = refl
not_found e i (service ∷ services) [] n = refl
not_found e i (service ∷ services) (st ∷ states) n =
    ap (λ (b : Bool). cond b (Some i) (first_sought (sought.Instance e) (i + 1) services states)) (not_same e st (n 0) service) ∙
    not_found e (i + 1) services states (λ k. n (suc k))

pub gone_is_late : (s : RsRecord) (e : EndpointRecord) (tick : ℕ) → IsUncounted s e → IsLate s e tick
gone_is_late s e tick h =
    let none : service_place s (sought.Instance e) ≡ None = not_found e 0 s.settings.services s.states h.none in
    record {
      beat = ap (λ (o : Option ℕ). of_instance Hear o) none;
      death = λ cause. ap (λ (o : Option ℕ). of_instance (on_death cause) o) none;
    }

pub gone_stays : (s t : RsRecord) (actions : List Action) (e : EndpointRecord) → StepSays s actions t → IsUncounted s e → IsUncounted t e
gone_stays s t actions e h g =
    record {
      given = omega (arith, g.given, next_grows s.next t.next h.begun h.next);
      none = λ k c.
          by k (counted_before s t actions h k e.generation c);
    }
  where
    by : (k : ℕ) → (in_force (state_at s k) ≡ Some e.generation) ⊎ BeganAs s t h.begun k e.generation → ⊥
    by k (inl c) = g.none k c
    by k (inr b) = omega (arith, g.given, b.2)

pub uncounted_stay_late : UncountedStayLate
uncounted_stay_late s t [] e tick g run = subst (λ (z : RsRecord). IsLate z e tick) run (gone_is_late s e tick g)
uncounted_stay_late s t (actions ∷ rest) e tick g (m, (event, at, step), run) =
    uncounted_stay_late m t rest e tick (gone_stays s m actions e (steps_say s m event at actions step) g) run

-- ---- a death
-- The service that is found by an endpoint runs under it.
found_runs : (e : EndpointRecord) (i : ℕ) (services : List Service) (states : List State) (j : ℕ) →
    first_sought (sought.Instance e) i services states ≡ Some j →
    (k : ℕ) × (j ≡ i + k) × (in_force (get_or states k Down) ≡ Some e.generation)
found_runs e i [] states j f = absurd (none-some j f)
found_runs e i (service ∷ services) [] j f = absurd (none-some j f)
found_runs e i (service ∷ services) (st ∷ states) j f =
    by (is_sought (sought.Instance e) service st) refl (λ g. found_runs e (i + 1) services states j g)
  where
    Found : Type 0
    Found = (k : ℕ) × (j ≡ i + k) × (in_force (get_or (st ∷ states) k Down) ≡ Some e.generation)

    seen : (b : Bool) → is_sought (sought.Instance e) service st ≡ b →
        cond b (Some i) (first_sought (sought.Instance e) (i + 1) services states) ≡ Some j
    seen b h = sym (ap (λ (x : Bool). cond x (Some i) (first_sought (sought.Instance e) (i + 1) services states)) h) ∙ f

    runs : (z : State) → is_sought (sought.Instance e) service z ≡ true → in_force z ≡ Some e.generation
    runs Down h = absurd (false≢true h)
    runs (Waiting p) h = absurd (false≢true h)
    runs GaveUp h = absurd (false≢true h)
    runs (Up r) h =
        ap (λ (k : ℕ). Some k)
        (eqb-true r.endpoint.generation e.generation (and_parts (r.endpoint.generation == e.generation) (r.endpoint.slot == e.slot) h).0)

    later : ((k : ℕ) × (j ≡ (i + 1) + k) × (in_force (get_or states k Down) ≡ Some e.generation)) → Found
    later (k, a, c) = (suc k, omega (arith, a), c)

    by : (b : Bool) → is_sought (sought.Instance e) service st ≡ b →
        (first_sought (sought.Instance e) (i + 1) services states ≡ Some j →
        (k : ℕ) × (j ≡ (i + 1) + k) × (in_force (get_or states k Down) ≡ Some e.generation)) → Found
    by true h rest = (0, sum (same_Some i j (seen true h)), runs st h)
      where
        sum : i ≡ j → j ≡ i + 0
        sum d = omega (arith, d)
    by false h rest = later (rest (seen false h))

-- After a death the service has no instance, or one of the next generation.
failed_not_counted : (limit tick k g : ℕ) → in_force (failed limit tick k) ≡ Some g → ⊥
failed_not_counted limit tick k g = by (nat_lt limit k)
  where
    by : (b : Bool) → in_force (cond b GaveUp (Waiting (record { until = tick + pause k; failures = k }))) ≡ Some g → ⊥
    by true c = none-some g c
    by false c = none-some g c

death_ends : (s : RsRecord) (tick cause : ℕ) (service : Service) (r : Running) (g : ℕ) → in_force
    (state_after s tick service (Up r) (on_death cause)) ≡ Some g → g ≡ s.next
death_ends s tick cause service r g = by (cause == 6)
  where
    by : (b : Bool) → in_force (state_after s tick service (Up r) (cond b Replace (Lose (nat_le 4 cause)))) ≡ Some g → g ≡ s.next
    by true c = sym (same_Some s.next g c)
    by false c = absurd (failed_not_counted service.limit tick (failures_left service.forget tick r + 1) g c)

death_task : (deed : Deed) (o : Option ℕ) (p : Option Task) → of_instance deed o ≡ Ok p → (j : ℕ) × (o ≡ Some j) × (p ≡ Some (task deed j))
death_task deed None p e = absurd (let n : of_instance deed None ≡ Ok p = e in cc)
death_task deed (Some j) p e = (j, refl, same_asked p (Some (task deed j)) (of_instance deed (Some j)) e refl)

counted_set : (states : List State) (k g : ℕ) (y : State) → in_force (get_or states k Down) ≡ Some g → get_or (set states k y) k Down ≡ y
counted_set [] k g y c = absurd (none-some g c)
counted_set (x ∷ xs) zero g y c = refl
counted_set (x ∷ xs) (suc k) g y c = counted_set xs k g y c

pub counted_within : (states : List State) (k g : ℕ) → in_force (get_or states k Down) ≡ Some g → k < length states
counted_within [] k g c = absurd (none-some g c)
counted_within (x ∷ xs) zero g c = omega arith
counted_within (x ∷ xs) (suc k) g c = let l = counted_within xs k g c in omega (arith, l)

pub step_single : (s t : RsRecord) (actions : List Action) → StepSays s actions t → AreSingle s → AreSingle t
step_single s t actions h a =
    record {
      below = λ k g c. is_below k g (counted_before s t actions h k g c);
      single = λ j k g c d. is_single j k g (counted_before s t actions h j g c) (counted_before s t actions h k g d);
    }
  where
    is_below : (k g : ℕ) → (in_force (state_at s k) ≡ Some g) ⊎ BeganAs s t h.begun k g → g < t.next
    is_below k g (inl c) = let b = a.below k g c in omega (arith, b, next_grows s.next t.next h.begun h.next)
    is_below k g (inr b) = omega (arith, b.2, b.3)

    both : (j k : ℕ) (e f : EndpointRecord) → h.begun ≡ Some (begun_at j e) → h.begun ≡ Some (begun_at k f) → j ≡ k
    both j k e f x y = ap (λ (b : Begun). b.place) (same_Some (begun_at j e) (begun_at k f) (sym x ∙ y))

    is_single : (j k g : ℕ) → (in_force (state_at s j) ≡ Some g) ⊎ BeganAs s t h.begun j g →
        (in_force (state_at s k) ≡ Some g) ⊎ BeganAs s t h.begun k g → j ≡ k
    is_single j k g (inl c) (inl d) = a.single j k g c d
    is_single j k g (inl c) (inr y) = let b = a.below j g c in absurd (omega (arith, b, y.2))
    is_single j k g (inr x) (inl d) = let b = a.below k g d in absurd (omega (arith, b, x.2))
    is_single j k g (inr x) (inr y) = both j k x.0 y.0 x.1 y.1

pub single_stays : SingleStays
single_stays s t event tick actions step a = step_single s t actions (steps_say s t event tick actions step) a

death_is_final : (s t : RsRecord) (k cause tick : ℕ) (actions : List Action) (r : Running) → AreSingle s → state_at s k ≡ Up r →
    RsStep s (Death r.endpoint cause) tick actions t → IsUncounted t r.endpoint
death_is_final s t k cause tick actions r a up (p, free, is, h) =
    record {
      given = omega (arith, a.below k g here, next_grows s.next t.next says.begun says.next);
      none = λ j c.
          by j c (counted_before s t actions says j g c);
    }
  where
    g : ℕ
    g = r.endpoint.generation

    here : in_force (state_at s k) ≡ Some r.endpoint.generation
    here = up_counted (state_at s k) r up

    says : StepSays s actions t
    says = steps_say s t (Death r.endpoint cause) tick actions (p, free, is, h)

    called : (j : ℕ) × (service_place s (sought.Instance r.endpoint) ≡ Some j) × (p ≡ Some (task (on_death cause) j))
    called = death_task (on_death cause) (service_place s (sought.Instance r.endpoint)) p is

    found : (i : ℕ) × (called.0 ≡ 0 + i) × (in_force (get_or s.states i Down) ≡ Some r.endpoint.generation)
    found = found_runs r.endpoint 0 s.settings.services s.states called.0 called.1

    place : called.0 ≡ k
    place = let i = a.single found.0 k g found.2 here in omega (arith, i, found.1)

    done : IsCarriedOut s tick (Some (task (on_death cause) called.0)) actions t
    done = subst (λ (o : Option Task). IsCarriedOut s tick o actions t) called.2 h

    after : State
    after = state_after s tick (service_at s called.0) (state_at s called.0) (on_death cause)

    there : in_force (state_at s called.0) ≡ Some r.endpoint.generation
    there = subst (λ (x : ℕ). in_force (state_at s x) ≡ Some r.endpoint.generation) (sym place) here

    now_there : state_at t called.0 ≡ after
    now_there = ap (λ (z : RsRecord). state_at z called.0) done.after ∙ counted_set s.states called.0 g after there

    ended : in_force (state_at t k) ≡ Some r.endpoint.generation → r.endpoint.generation ≡ s.next
    ended c =
        let c1 : in_force (state_at t called.0) ≡ Some r.endpoint.generation =
        subst (λ (x : ℕ). in_force (state_at t x) ≡ Some r.endpoint.generation) (sym place) c in
        let c2 : in_force after ≡ Some r.endpoint.generation = ap in_force (sym now_there) ∙ c1 in
        let was : state_at s called.0 ≡ Up r = ap (λ (x : ℕ). state_at s x) place ∙ up in
        death_ends s tick cause (service_at s called.0) r r.endpoint.generation
        (subst (λ (z : State). in_force (state_after s tick (service_at s called.0) z (on_death cause)) ≡ Some r.endpoint.generation) was
        c2)

    by : (j : ℕ) → in_force (state_at t j) ≡ Some r.endpoint.generation →
        (in_force (state_at s j) ≡ Some r.endpoint.generation) ⊎ BeganAs s t says.begun j r.endpoint.generation → ⊥
    by j c (inl old) =
        let e = ended (subst (λ (x : ℕ). in_force (state_at t x) ≡ Some r.endpoint.generation) (a.single j k g old here) c) in
        let b = a.below k g here in
        omega (arith, e, b)
    by j c (inr b) = let l = a.below k g here in omega (arith, l, b.2)

pub endpoint_up : (st : State) (e : EndpointRecord) → endpoint_in_force st ≡ Some e → (r : Running) × (st ≡ Up r) × (r.endpoint ≡ e)
endpoint_up (Up r) e h = (r, refl, same_Some r.endpoint e h)
endpoint_up (Waiting p) e h = absurd (none-some e h)
endpoint_up Down e h = absurd (none-some e h)
endpoint_up GaveUp e h = absurd (none-some e h)

pub dead_are_uncounted : DeadAreUncounted
dead_are_uncounted s t k cause tick actions e a up step =
    let u = endpoint_up (state_at s k) e up in
    subst (λ (x : EndpointRecord). IsUncounted t x) u.2
    (death_is_final s t k cause tick actions u.0 a u.1
    (subst (λ (x : EndpointRecord). RsStep s (Death x cause) tick actions t) (sym u.2) step))

-- ---- a heartbeat
hear_same : (s : RsRecord) (tick : ℕ) (service : Service) (st : State) →
    endpoint_in_force (state_after s tick service st Hear) ≡ endpoint_in_force st
hear_same s tick service Down = refl
hear_same s tick service (Up r) = refl
hear_same s tick service (Waiting p) = refl
hear_same s tick service GaveUp = refl

hear_next : (s : RsRecord) (st : State) → next_after s st Hear ≡ s.next
hear_next s Down = refl
hear_next s (Up r) = refl
hear_next s (Waiting p) = refl
hear_next s GaveUp = refl

beat_is_noted : (s t : RsRecord) (k tick : ℕ) (actions : List Action) (r : Running) → AreSingle s → state_at s k ≡ Up r →
    RsStep s (Beat r.endpoint) tick actions t → BeatIsNoted s t k tick r.endpoint
beat_is_noted s t k tick actions r a up (p, free, is, h) =
    record {
      heard = (record r { beat = tick }, now_here, refl, refl);
      same = λ j. by j (written s.states called.0 j after);
      next =
          ap (λ (z : RsRecord). z.next) done.after ∙ hear_next s (state_at s called.0);
    }
  where
    here : in_force (state_at s k) ≡ Some r.endpoint.generation
    here = up_counted (state_at s k) r up

    called : (j : ℕ) × (service_place s (sought.Instance r.endpoint) ≡ Some j) × (p ≡ Some (task Hear j))
    called = death_task Hear (service_place s (sought.Instance r.endpoint)) p is

    found : (i : ℕ) × (called.0 ≡ 0 + i) × (in_force (get_or s.states i Down) ≡ Some r.endpoint.generation)
    found = found_runs r.endpoint 0 s.settings.services s.states called.0 called.1

    place : called.0 ≡ k
    place = let i = a.single found.0 k r.endpoint.generation found.2 here in omega (arith, i, found.1)

    done : IsCarriedOut s tick (Some (task Hear called.0)) actions t
    done = subst (λ (o : Option Task). IsCarriedOut s tick o actions t) called.2 h

    after : State
    after = state_after s tick (service_at s called.0) (state_at s called.0) Hear

    there : in_force (state_at s called.0) ≡ Some r.endpoint.generation
    there = subst (λ (x : ℕ). in_force (state_at s x) ≡ Some r.endpoint.generation) (sym place) here

    was : state_at s called.0 ≡ Up r
    was = ap (λ (x : ℕ). state_at s x) place ∙ up

    now_there : state_at t called.0 ≡ Up (record r { beat = tick })
    now_there =
        ap (λ (z : RsRecord). state_at z called.0) done.after ∙ counted_set s.states called.0 r.endpoint.generation after there ∙
        ap (λ (z : State). state_after s tick (service_at s called.0) z Hear) was

    now_here : state_at t k ≡ Up (record r { beat = tick })
    now_here = subst (λ (x : ℕ). state_at t x ≡ Up (record r { beat = tick })) place now_there

    by : (j : ℕ) → (get_or (set s.states called.0 after) j Down ≡ get_or s.states j Down) ⊎
        ((j ≡ called.0) × (get_or (set s.states called.0 after) j Down ≡ after)) →
        endpoint_in_force (state_at t j) ≡ endpoint_in_force (state_at s j)
    by j (inl same) = ap (λ (z : RsRecord). endpoint_in_force (state_at z j)) done.after ∙ ap endpoint_in_force same
    by j (inr it) =
        ap (λ (z : RsRecord). endpoint_in_force (state_at z j)) done.after ∙ ap endpoint_in_force it.1 ∙
        hear_same s tick (service_at s called.0) (state_at s called.0) ∙ ap (λ (x : ℕ). endpoint_in_force (state_at s x)) (sym it.0)

pub beats_are_noted : BeatsAreNoted
beats_are_noted s t k tick actions e a up step =
    let u = endpoint_up (state_at s k) e up in
    subst (λ (x : EndpointRecord). BeatIsNoted s t k tick x) u.2
    (beat_is_noted s t k tick actions u.0 a u.1 (subst (λ (x : EndpointRecord). RsStep s (Beat x) tick actions t) (sym u.2) step))

pub heard_are_not_missed : HeardAreNotMissed
heard_are_not_missed service r tick e = by (nat_lt 0 service.period) refl
  where
    late : 0 < service.period → tick - r.beat < 2 * service.period
    late l = omega (arith, l, e)

    by : (b : Bool) → nat_lt 0 service.period ≡ b → nat_lt 0 service.period && nat_le (2 * service.period) (tick - r.beat) ≡ false
    by false h = and_left (nat_lt 0 service.period) (nat_le (2 * service.period) (tick - r.beat)) h
    by true h = and_right (nat_lt 0 service.period) (nat_le (2 * service.period) (tick - r.beat))
        (lt-leb (2 * service.period) (tick - r.beat) (late (ltb-true 0 service.period h)))
