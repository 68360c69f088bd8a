-- What is due, what a tick does then, and which service a step gives up.
use Rattle.std.proofs.Common.{◌≡◌, ◌≢◌, ℕ, zero, suc, ◌+◌, ◌-◌, ◌*◌, ◌≤◌, ◌<◌, nat_lt, nat_le, Bool, true, false, ◌&&◌, cond, List, [], ◌∷◌}
use Rattle.std.proofs.Common.{length, get_or, drop, Option, Some, None, Ok, Result}
use Rattle.std.proofs.Common.{refl, sym, ap, ◌∙◌, subst, arith, inl, inr, ◌⊎◌}
use Rattle.std.specs.Prelude.{◌||◌, is_some, option_map}
use Rattle.std.specs.List.{slice_get}
use Rattle.std.specs.Option.{option_or}
use Rattle.std.proofs.Math.ListN.{set}
use Rattle.std.proofs.lemmas.Bool.{cases_lt, le-leb, lt-leb}
use Rattle.std.proofs.lemmas.List.{drop_more, drop_all, get_or-set_same}
use Rattle.std.proofs.lemmas.Option.{get_or_from_slice_get, same_Some}
use Rattle.rs_settings.specs.declared.service.Service.{Service}
use Rattle.rs_core.specs.declared.deed.Deed.{Deed}
use Rattle.rs_core.specs.declared.deed.Deed.TheVariants.{Begin, Resume, Halt, Replace, Lose, Forget, Hear, Ping}
use Rattle.rs_core.specs.declared.deed.Task.{Task}
use Rattle.rs_core.specs.declared.event.Event.TheVariants.{Tick}
use Rattle.rs_core.specs.declared.fault.RsFault.{RsFault}
use Rattle.rs_core.specs.declared.finding.Sought.{Sought}
use Rattle.rs_core.specs.declared.finding.Sought.TheVariants as sought
use Rattle.rs_core.specs.declared.state.State.{State}
use Rattle.rs_core.specs.declared.state.State.TheVariants.{Down, Up, Waiting, GaveUp}
use Rattle.rs_core.specs.declared.state.Running.{Running}
use Rattle.rs_core.specs.declared.state.Pause.{Pause}
use Rattle.rs_core.specs.State.{RsRecord, state_at, service_at, no_service}
use Rattle.rs_core.specs.Finding.{is_sought, first_sought, service_place, when_up, when_waiting}
use Rattle.rs_core.specs.Machine.{asked, due, failed, failures_left, task, state_after, actions_of}
use Rattle.rs_core.specs.Reading.{is_due, any_due, TicksActWhenDue, gives_up, given_up, given_up_in, StepsGiveUp}
use Rattle.rs_core.proofs.SaysLemmas.{written}

-- ---- or

pub or_false : (a : Bool) → (a || false) ≡ a
or_false true = refl
or_false false = refl

pub or_assoc : (a b c : Bool) → ((a || b) || c) ≡ (a || (b || c))
or_assoc true b c = refl
or_assoc false b c = refl

or_swap : (a b c d : Bool) → ((a || b) || (c || d)) ≡ ((a || c) || (b || d))
or_swap true b c d = refl
or_swap false true true d = refl
or_swap false true false d = refl
or_swap false false c d = refl

-- ---- the first tick

pub is_from-later : (wait tick : ℕ) → 0 < wait → (t : ℕ) → nat_le wait (t - tick) ≡ nat_le (tick + wait) t
is_from-later wait tick some t = elim (cases_lt t (tick + wait)) [
  | inl low ↦ lt-leb wait (t - tick) (omega (arith, low, some)) ∙ sym (lt-leb (tick + wait) t low)
  | inr high ↦ le-leb wait (t - tick) (omega (arith, high)) ∙ sym (le-leb (tick + wait) t high)
]

-- ---- one step of the search

pub any_due-step : (tick i : ℕ) (ss : List Service) (ts : List State) (service : Service) (state : State) → i < length ss → i < length ts
    → slice_get ss i ≡ Some service → state ≡ get_or ts i state
    → any_due tick (drop i ss) (drop i ts) ≡ (is_due tick service state || any_due tick (drop (i + 1) ss) (drop (i + 1) ts))
any_due-step tick i ss ts service state h k at here =
    let s : get_or ss i service ≡ service = get_or_from_slice_get ss i service service at in
    rw (drop_more ss i service h, drop_more ts i state k, s, ← here) refl

pub any_due-end : (tick i : ℕ) (ss : List Service) (ts : List State) → length ss ≤ i → length ts ≤ i →
    any_due tick (drop i ss) (drop i ts) ≡ false
any_due-end tick i ss ts h k = ap (λ (l : List Service). any_due tick l (drop i ts)) (drop_all i ss h) ∙
    ap (λ (l : List State). any_due tick [] l) (drop_all i ts k)

-- ---- what is due

-- of three things that may be there, one is
some_of_three : {X : Type 0} (f g h : ℕ → X) (m n o : Option ℕ)
    → is_some (option_or (option_map f m) (option_or (option_map g n) (option_map h o))) ≡ (is_some m || (is_some n || is_some o))
some_of_three f g h (Some i) n o = refl
some_of_three f g h None (Some i) o = refl
some_of_three f g h None None (Some i) = refl
some_of_three f g h None None None = refl

abbrev is_found : Sought → ℕ → List Service → List State → Bool
is_found what i ss ts = is_some (first_sought what i ss ts)

found_first : (what : Sought) (i : ℕ) (s : Service) (ss : List Service) (t : State) (ts : List State)
    → is_found what i (s ∷ ss) (t ∷ ts) ≡ (is_sought what s t || is_found what (i + 1) ss ts)
found_first what i s ss t ts = by (is_sought what s t) refl
  where
    by : (b : Bool) → is_sought what s t ≡ b → is_found what i (s ∷ ss) (t ∷ ts) ≡ (is_sought what s t || is_found what (i + 1) ss ts)
    by true q = rw q refl
    by false q = rw q refl

found_due : (tick i : ℕ) (ss : List Service) (ts : List State)
    → (is_found (sought.Missed tick) i ss ts || (is_found (sought.Silent tick) i ss ts || is_found (sought.Rested tick) i ss ts)) ≡ any_due
    tick ss ts
found_due tick i [] ts = refl
found_due tick i (s ∷ ss) [] = refl
found_due tick i (s ∷ ss) (t ∷ ts) =
    let m = is_sought (sought.Missed tick) s t in
    let n = is_sought (sought.Silent tick) s t in
    let o = is_sought (sought.Rested tick) s t in
    let mm = is_found (sought.Missed tick) (i + 1) ss ts in
    let nn = is_found (sought.Silent tick) (i + 1) ss ts in
    let oo = is_found (sought.Rested tick) (i + 1) ss ts in
    rw (
      found_first (sought.Missed tick) i s ss t ts,
      found_first (sought.Silent tick) i s ss t ts,
      found_first (sought.Rested tick) i s ss
          t ts,
    )
    (ap (λ (b : Bool). (m || mm) || b) (or_swap n nn o oo)
    ∙ or_swap m mm (n || o) (nn || oo)
    ∙ ap (λ (b : Bool). (m || (n || o)) || b) (found_due tick (i + 1) ss ts))

pub due_is_any : (s : RsRecord) (tick : ℕ) → is_some (due s tick) ≡ any_due tick s.settings.services s.states
due_is_any s tick =
    some_of_three (task (Lose true)) (task Ping) (task Resume) (service_place s (sought.Missed tick))
    (service_place s (sought.Silent tick)) (service_place s (sought.Rested tick))
    ∙ found_due tick 0 s.settings.services s.states

-- ---- what a tick does

found_at : (what : Sought) (k : ℕ) (services : List Service) (states : List State) (i : ℕ) → first_sought what k services states ≡ Some i
    → (j : ℕ) × (i ≡ k + j) × (is_sought what (get_or services j no_service) (get_or states j Down) ≡ true)
found_at what k [] states i e = absurd (let n : None ≡ Some i = e in cc)
found_at what k (x ∷ xs) [] i e = absurd (let n : None ≡ Some i = e in cc)
found_at what k (x ∷ xs) (y ∷ ys) i e = by (is_sought what x y) refl e (found_at what (k + 1) xs ys i)
  where
    some : (m n : ℕ) → Some m ≡ Some n → m ≡ n
    some m n q = cc

    by : (b : Bool) → is_sought what x y ≡ b → cond b (Some k) (first_sought what (k + 1) xs ys) ≡ Some i
        → (first_sought what (k + 1) xs ys ≡ Some i →
        (j : ℕ) × (i ≡ k + 1 + j) × (is_sought what (get_or xs j no_service) (get_or ys j Down) ≡ true))
        → (j : ℕ) × (i ≡ k + j) × (is_sought what (get_or (x ∷ xs) j no_service) (get_or (y ∷ ys) j Down) ≡ true)
    by true q h rest = (0, (let n : k ≡ i = some k i h in omega arith), q)
    by false q h rest = let r = rest h in (suc r.0, (let n : i ≡ k + 1 + r.0 = r.1 in omega arith), r.2)

is_there : (s : RsRecord) (what : Sought) (i : ℕ) → service_place s what ≡ Some i → is_sought what (service_at s i) (state_at s i) ≡ true
is_there s what i e =
    let at = found_at what 0 s.settings.services s.states i e in
    let place : at.0 ≡ i = (let q : i ≡ 0 + at.0 = at.1 in omega arith) in
    subst (λ (n : ℕ). is_sought what (service_at s n) (state_at s n) ≡ true) place at.2

pub false_true : {P : Type 0} → false ≡ true → P
false_true e = absurd (let n : false ≡ true = e in cc)

-- an instance runs where a test of one holds
abbrev pub Runs : State → Type 0
Runs state = (r : Running) × (state ≡ Up r)

runs_when : (test : Running → Bool) (state : State) → when_up test state ≡ true → Runs state
runs_when test (Up r) e = (r, refl)
runs_when test Down e = false_true e
runs_when test (Waiting p) e = false_true e
runs_when test GaveUp e = false_true e

-- also where it is tested beside another test
pub runs_also : (b : Bool) (test : Running → Bool) (state : State) → b && when_up test state ≡ true → Runs state
runs_also true test state e = runs_when test state e
runs_also false test state e = false_true e

pub waits_when : (test : Pause → Bool) (state : State) → when_waiting test state ≡ true → (p : Pause) × (state ≡ Waiting p)
waits_when test (Waiting p) e = (p, refl)
waits_when test Down e = false_true e
waits_when test (Up r) e = false_true e
waits_when test GaveUp e = false_true e

-- what is due at a tick has actions
abbrev ActsAt : RsRecord → ℕ → Deed → Type 0
ActsAt s place deed = actions_of s (service_at s place) (state_at s place) deed ≢ []

cons_not : {X : Type 0} (x : X) (xs : List X) → x ∷ xs ≢ []
cons_not x xs = λ e. let n : x ∷ xs ≡ [] = e in cc

lose_acts : (s : RsRecord) (tick place : ℕ) → service_place s (sought.Missed tick) ≡ Some place → ActsAt s place (Lose true)
lose_acts s tick place e =
    let is = runs_also (nat_lt 0 (service_at s place).period) (λ r. nat_le (2 * (service_at s place).period) (tick - r.beat))
    (state_at s place) (is_there s (sought.Missed tick) place e) in
    subst (λ (z : State). actions_of s (service_at s place) z (Lose true) ≢ []) (sym is.1) (cons_not _ _)

ping_acts : (s : RsRecord) (tick place : ℕ) → service_place s (sought.Silent tick) ≡ Some place → ActsAt s place Ping
ping_acts s tick place e =
    let is = runs_also (nat_lt 0 (service_at s place).period) (λ r. nat_le (service_at s place).period (tick - r.ping)) (state_at s place)
    (is_there s (sought.Silent tick) place e) in
    subst (λ (z : State). actions_of s (service_at s place) z Ping ≢ []) (sym is.1) (cons_not _ _)

start_acts : (s : RsRecord) (tick place : ℕ) → service_place s (sought.Rested tick) ≡ Some place → ActsAt s place Resume
start_acts s tick place e =
    let is = waits_when (λ p. nat_le p.until tick) (state_at s place) (is_there s (sought.Rested tick) place e) in
    subst (λ (z : State). actions_of s (service_at s place) z Resume ≢ []) (sym is.1) (cons_not _ _)

pub same_task : (p q : Task) → Some p ≡ Some q → p ≡ q
same_task p q e = cc

due_acts : (s : RsRecord) (tick : ℕ) (p : Task) → due s tick ≡ Some p → ActsAt s p.place p.deed
due_acts s tick p e = by (service_place s (sought.Missed tick)) refl (service_place s (sought.Silent tick)) refl
    (service_place s (sought.Rested tick)) refl e
  where
    one : (deed : Deed) (place : ℕ) → Some (task deed place) ≡ Some p → ActsAt s place deed → ActsAt s p.place p.deed
    one deed place q acts = subst (λ (z : Task). ActsAt s z.place z.deed) (same_task (task deed place) p q) acts

    by : (m : Option ℕ) → service_place s (sought.Missed tick) ≡ m → (n : Option ℕ) → service_place s (sought.Silent tick) ≡ n →
        (o : Option ℕ) → service_place s (sought.Rested tick) ≡ o
        → option_or (option_map (task (Lose true)) m) (option_or (option_map (task Ping) n) (option_map (task Resume) o)) ≡ Some p →
        ActsAt s p.place p.deed
    by (Some i) f n g o h q = one (Lose true) i q (lose_acts s tick i f)
    by None f (Some i) g o h q = one Ping i q (ping_acts s tick i g)
    by None f None g (Some i) h q = one Resume i q (start_acts s tick i h)
    by None f None g None h q = absurd (let n : None ≡ Some p = q in cc)

-- a result is of one task
pub same_asked : (a b : Option Task) (x : Result (Option Task) RsFault) → x ≡ Ok a → x ≡ Ok b → a ≡ b
same_asked a b x e f = cc

pub ticks_act : TicksActWhenDue
ticks_act s t tick actions (None, free, is, h) = (λ e. false_true (sym (ap is_some none) ∙ e), λ some. absurd (some h.done))
  where
    none : due s tick ≡ None
    none = same_asked (due s tick) None (asked s Tick tick) refl is
ticks_act s t tick actions (Some p, free, is, h) = (λ e. λ q. due_acts s tick p there (sym h.done ∙ q), λ some. ap is_some there)
  where
    there : due s tick ≡ Some p
    there = same_asked (due s tick) (Some p) (asked s Tick tick) refl is

-- ---- a service that is given up

failed_gives_up : (limit tick k : ℕ) → nat_lt limit k ≡ true → failed limit tick k ≡ GaveUp
failed_gives_up limit tick k e = rw e refl

gave_up_failed : (limit tick k : ℕ) → failed limit tick k ≡ GaveUp → nat_lt limit k ≡ true
gave_up_failed limit tick k e = by (nat_lt limit k) refl _ e
  where
    by : (b : Bool) → nat_lt limit k ≡ b → (p : Pause) → cond b GaveUp (Waiting p) ≡ GaveUp → nat_lt limit k ≡ true
    by true q p f = q
    by false q p f = absurd (let n : Waiting p ≡ GaveUp = f in cc)

-- a state after a deed in which the service is given up was one before, or the deed gives it up
gives_up_then : (s : RsRecord) (tick : ℕ) (service : Service) (state : State) (deed : Deed) →
    state_after s tick service state deed ≡ GaveUp → (state ≡ GaveUp) ⊎ (gives_up tick deed service state ≡ true)
gives_up_then s tick service GaveUp deed e = inl refl
gives_up_then s tick service Down Begin e = absurd (let n : Up _ ≡ GaveUp = e in cc)
gives_up_then s tick service Down deed e = absurd (let n : Down ≡ GaveUp = e in cc)
gives_up_then s tick service (Waiting p) Resume e = absurd (let n : Up _ ≡ GaveUp = e in cc)
gives_up_then s tick service (Waiting p) Forget e = absurd (let n : Down ≡ GaveUp = e in cc)
gives_up_then s tick service (Waiting p) deed e = absurd (let n : Waiting p ≡ GaveUp = e in cc)
gives_up_then s tick service (Up r) Replace e = absurd (let n : Up _ ≡ GaveUp = e in cc)
gives_up_then s tick service (Up r) (Lose kill) e = inr (gave_up_failed service.limit tick (failures_left service.forget tick r + 1) e)
gives_up_then s tick service (Up r) Hear e = absurd (let n : Up _ ≡ GaveUp = e in cc)
gives_up_then s tick service (Up r) Ping e = absurd (let n : Up _ ≡ GaveUp = e in cc)
gives_up_then s tick service (Up r) Halt e = absurd (let n : Down ≡ GaveUp = e in cc)
gives_up_then s tick service (Up r) deed e = absurd (let n : Up r ≡ GaveUp = e in cc)

-- the deed gives up a service whose instance runs
gives_up_now : (s : RsRecord) (tick : ℕ) (service : Service) (state : State) (deed : Deed) → gives_up tick deed service state ≡ true →
    Runs state × (state_after s tick service state deed ≡ GaveUp)
gives_up_now s tick service (Up r) (Lose kill) e =
    ((r, refl), failed_gives_up service.limit tick (failures_left service.forget tick r + 1) e)
gives_up_now s tick service Down (Lose kill) e = false_true e
gives_up_now s tick service (Waiting p) (Lose kill) e = false_true e
gives_up_now s tick service GaveUp (Lose kill) e = false_true e
gives_up_now s tick service state Begin e = false_true e
gives_up_now s tick service state Resume e = false_true e
gives_up_now s tick service state Halt e = false_true e
gives_up_now s tick service state Replace e = false_true e
gives_up_now s tick service state Forget e = false_true e
gives_up_now s tick service state Hear e = false_true e
gives_up_now s tick service state Ping e = false_true e

runs_within : (states : List State) (i : ℕ) (r : Running) → get_or states i Down ≡ Up r → i < length states
runs_within [] i r e = absurd (let n : Down ≡ Up r = e in cc)
runs_within (x ∷ xs) zero r e = omega arith
runs_within (x ∷ xs) (suc i) r e = let n : i < length xs = runs_within xs i r e in omega arith

up_not_given_up : (r : Running) (state : State) → state ≡ Up r → state ≢ GaveUp
up_not_given_up r state e = λ f. absurd (let n : Up r ≡ GaveUp = sym e ∙ f in cc)

pub steps_give_up : StepsGiveUp
steps_give_up s t event tick actions (None, free, is, h) i = (
  λ e. absurd (let n : None ≡ Some i = sym (ap (given_up_in s tick) is) ∙ e in cc),
  λ gone.
      absurd (gone.1 (sym (ap (λ (z : RsRecord). state_at z i) h.after) ∙ gone.0)),
)
steps_give_up s t event tick actions (Some p, free, is, h) i = (onward, back)
  where
    service : Service
    service = service_at s p.place

    after : State
    after = state_after s tick service (state_at s p.place) p.deed

    then_at : (k : ℕ) → state_at t k ≡ get_or (set s.states p.place after) k Down
    then_at k = ap (λ (z : RsRecord). state_at z k) h.after

    given : given_up s event tick ≡ cond (gives_up tick p.deed service (state_at s p.place)) (Some p.place) None
    given = ap (given_up_in s tick) is

    tested : (b : Bool) → gives_up tick p.deed service (state_at s p.place) ≡ b → cond b (Some p.place) None ≡ Some i →
        (p.place ≡ i) × (gives_up tick p.deed service (state_at s p.place) ≡ true)
    tested true q e = (same_Some p.place i e, q)
    tested false q e = absurd (let n : None ≡ Some i = e in cc)

    onward : given_up s event tick ≡ Some i → (state_at t i ≡ GaveUp) × (state_at s i ≢ GaveUp)
    onward e =
        let test = tested (gives_up tick p.deed service (state_at s p.place)) refl (sym given ∙ e) in
        let now = gives_up_now s tick service (state_at s p.place) p.deed test.1 in
        let within = runs_within s.states p.place now.0.0 now.0.1 in
        let gone : state_at t p.place ≡ GaveUp = then_at p.place ∙ get_or-set_same s.states p.place after Down within ∙ now.1 in
        subst (λ (k : ℕ). (state_at t k ≡ GaveUp) × (state_at s k ≢ GaveUp)) test.0
        (gone, up_not_given_up now.0.0 (state_at s p.place) now.0.1)

    back : (state_at t i ≡ GaveUp) × (state_at s i ≢ GaveUp) → given_up s event tick ≡ Some i
    back gone = elim (written s.states p.place i after) [
      | inl same ↦ absurd (gone.1 (sym same ∙ sym (then_at i) ∙ gone.0))
      | inr here ↦ by here.0 (gives_up_then s tick service (state_at s p.place) p.deed (sym here.1 ∙ sym (then_at i) ∙ gone.0))
    ]
      where
        by : i ≡ p.place → (state_at s p.place ≡ GaveUp) ⊎ (gives_up tick p.deed service (state_at s p.place) ≡ true) →
            given_up s event tick ≡ Some i
        by e (inl was) = absurd (gone.1 (ap (state_at s) e ∙ was))
        by e (inr does) = given ∙ ap (λ (b : Bool). cond b (Some p.place) None) does ∙ ap (λ (k : ℕ). Some k) (sym e)
