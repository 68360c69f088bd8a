-- A tick that is reported until RS has no action settles: each report serves one service, for which nothing is due then.
use Rattle.std.proofs.Common.{◌≡◌, ◌≢◌, ℕ, zero, suc, ◌+◌, ◌-◌, ◌*◌, ◌^◌, ◌≤◌, ◌<◌, nat_lt, nat_le, Bool, true, false, ◌&&◌, cond, List, []}
use Rattle.std.proofs.Common.{◌∷◌, ◌++◌, length, get_or, Option, Some, None, Ok}
use Rattle.std.proofs.Common.{refl, sym, ap, ◌∙◌, subst, arith, inl, inr, ◌⊎◌}
use Rattle.std.specs.Prelude.{◌||◌, is_some, option_map}
use Rattle.std.specs.Option.{option_or}
use Rattle.std.specs.List.{flat_map}
use Rattle.std.proofs.Math.ListN.{set, length-set}
use Rattle.std.proofs.lemmas.Bool.{cases_lt, le-leb, lt-leb, le-ltb, leb-true}
use Rattle.std.proofs.lemmas.Nat.{pow_pos}
use Rattle.ds_names.specs.Endpoint.{EndpointRecord}
use Rattle.rs_settings.specs.Settings.{SettingsRecord}
use Rattle.rs_settings.specs.declared.service.Service.{Service}
use Rattle.rs_core.specs.declared.action.Action.{Action}
use Rattle.rs_core.specs.declared.deed.Deed.{Deed}
use Rattle.rs_core.specs.declared.deed.Deed.TheVariants.{Begin, Resume, Halt, Replace, Lose, Forget, Hear, Ping}
use Rattle.rs_core.specs.declared.deed.Task.{Task}
use Rattle.rs_core.specs.declared.event.Event.{Event}
use Rattle.rs_core.specs.declared.event.Event.TheVariants.{Tick}
use Rattle.rs_core.specs.declared.finding.Sought.{Sought}
use Rattle.rs_core.specs.declared.finding.Sought.TheVariants as sought
use Rattle.rs_core.specs.declared.state.State.{State}
use Rattle.rs_core.specs.declared.state.State.TheVariants.{Down, Up, Waiting, GaveUp}
use Rattle.rs_core.specs.declared.state.Running.{Running}
use Rattle.rs_core.specs.declared.state.Pause.{Pause}
use Rattle.rs_core.specs.State.{RsRecord, rs_of, state_at, service_at, no_service, is_up, up_count}
use Rattle.rs_core.specs.Judging.{asks, takes_generation, takes_slot, is_full, refusal}
use Rattle.rs_core.specs.Slots.{SlotsRecord}
use Rattle.rs_core.specs.Finding.{is_sought, first_sought, service_place}
use Rattle.rs_core.specs.Machine.{asked, due, failed, failures_left, new_endpoint, pause, task, started_at, state_after, actions_of}
use Rattle.rs_core.specs.Machine.{next_after, slots_after}
use Rattle.rs_core.specs.Reading.{is_due, any_due}
use Rattle.rs_core.specs.Run.{AreRising, starts}
use Rattle.rs_core.specs.Step.{RsStep, done_to}
use Rattle.rs_core.specs.Settling.{Ticks, AllAct, ReportsSettle, service_count, due_count, start_count, IsStarted, TicksSettle}
use Rattle.rs_core.specs.Settling.{TicksCanSettle}
use Rattle.rs_core.specs.Settling.{PausesAreShort, ServicesRecover}
use Rattle.rs_core.proofs.KeptLemmas.{fewer_up}
use Rattle.rs_core.proofs.ReadingLemmas.{false_true, due_is_any, ticks_act, same_asked, runs_also, waits_when, same_task}
use Rattle.rs_core.proofs.SaysLemmas.{written}
use Rattle.rs_core.proofs.RunLemmas as runs

-- ---- tests

or_parts : (a b : Bool) → (a || b) ≡ false → (a ≡ false) × (b ≡ false)
or_parts false b e = (refl, e)
or_parts true b e = absurd (let no : true ≡ false = e in cc)

and_false : (b : Bool) → (b && false) ≡ false
and_false true = refl
and_false false = refl

three_false : (a b c : Bool) → a ≡ false → b ≡ false → c ≡ false → (a || (b || c)) ≡ false
three_false a b c e f g = rw (e, f, g) refl

-- a heartbeat or a ping that isn't due
in_time : (period wait span : ℕ) → (0 < period → span < wait) → (nat_lt 0 period && nat_le wait span) ≡ false
in_time period wait span h = elim (cases_lt 0 period) [
  | inl some ↦ ap (λ b. nat_lt 0 period && b) (lt-leb wait span (h some)) ∙ and_false (nat_lt 0 period)
  | inr none ↦ ap (λ b. b && nat_le wait span) (le-ltb 0 period none)
]

pause_some : (k : ℕ) → (1 ≤ pause k) × (pause k ≤ 32)
pause_some k = let e : 0 < 2 ^ (k - 1) = pow_pos (k - 1) in (omega (arith, e), omega arith)

-- ---- what isn't due after a deed

resting : (tick : ℕ) (service : Service) (b : Bool) → b ≡ false →
    ((nat_lt 0 service.period && false) || ((nat_lt 0 service.period && false) || b)) ≡ false
resting tick service b e = three_false _ _ b (and_false (nat_lt 0 service.period)) (and_false (nat_lt 0 service.period)) e

pub down_quiet : (tick : ℕ) (service : Service) → is_due tick service Down ≡ false
down_quiet tick service = resting tick service false refl

gave_up_quiet : (tick : ℕ) (service : Service) → is_due tick service GaveUp ≡ false
gave_up_quiet tick service = resting tick service false refl

waiting_quiet : (tick : ℕ) (service : Service) (p : Pause) → tick < p.until → is_due tick service (Waiting p) ≡ false
waiting_quiet tick service p later = resting tick service (nat_le p.until tick) (lt-leb p.until tick later)

started_quiet : (tick : ℕ) (service : Service) (e : EndpointRecord) (failures : ℕ) →
    is_due tick service (started_at e tick service.startup failures) ≡ false
started_quiet tick service e failures = three_false _ _ false
    (in_time service.period (2 * service.period) (tick - (tick + service.startup)) (λ some. omega (arith, some)))
    (in_time service.period service.period (tick - tick) (λ some. omega (arith, some)))
    refl

pinged_quiet : (tick : ℕ) (service : Service) (r : Running) → is_sought (sought.Missed tick) service (Up r) ≡ false
    → is_due tick service (Up (record r { ping = tick })) ≡ false
pinged_quiet tick service r e = three_false _ _ false e (in_time service.period service.period (tick - tick) (λ some. omega (arith, some)))
    refl

failed_quiet : (tick limit k : ℕ) (service : Service) → is_due tick service (failed limit tick k) ≡ false
failed_quiet tick limit k service = by (nat_lt limit k)
  where
    until : ℕ
    until = tick + pause k

    by : (b : Bool) → is_due tick service (cond b GaveUp (Waiting (record { until = tick + pause k; failures = k }))) ≡ false
    by true = gave_up_quiet tick service
    by false = waiting_quiet tick service (record { until = tick + pause k; failures = k }) (omega (arith, (pause_some k).0))

-- ---- the search

found_within : (what : Sought) (k : ℕ) (services : List Service) (states : List State) (i : ℕ) →
    first_sought what k services states ≡ Some i
    → (j : ℕ) × (i ≡ k + j) × (j < length services) × (j < length states) ×
    (is_sought what (get_or services j no_service) (get_or states j Down) ≡ true)
found_within what k [] states i e = absurd (let n : None ≡ Some i = e in cc)
found_within what k (x ∷ xs) [] i e = absurd (let n : None ≡ Some i = e in cc)
found_within what k (x ∷ xs) (y ∷ ys) i e = by (is_sought what x y) refl e (found_within what (k + 1) xs ys i)
  where
    some : (m n : ℕ) → Some m ≡ Some n → m ≡ n
    some m n q = cc

    by : (b : Bool) → is_sought what x y ≡ b → cond b (Some k) (first_sought what (k + 1) xs ys) ≡ Some i
        → (first_sought what (k + 1) xs ys ≡ Some i →
        (j : ℕ) × (i ≡ k + 1 + j) × (j < length xs) × (j < length ys) × (is_sought what (get_or xs j no_service) (get_or ys j Down) ≡ true))
        → (j : ℕ) × (i ≡ k + j) × (j < suc (length xs)) × (j < suc (length ys)) ×
        (is_sought what (get_or (x ∷ xs) j no_service) (get_or (y ∷ ys) j Down) ≡ true)
    by true q h rest = (0, (let n : k ≡ i = some k i h in omega arith), omega arith, omega arith, q)
    by false q h rest = let r = rest h in
        (suc r.0, (let n : i ≡ k + 1 + r.0 = r.1 in omega arith), omega (arith, r.2), omega (arith, r.3), r.4)

none_found : (what : Sought) (k : ℕ) (services : List Service) (states : List State) → first_sought what k services states ≡ None
    → (j : ℕ) → j < length services → j < length states → is_sought what (get_or services j no_service) (get_or states j Down) ≡ false
none_found what k [] states e j h l = absurd (omega (arith, h))
none_found what k (x ∷ xs) [] e j h l = absurd (omega (arith, l))
none_found what k (x ∷ xs) (y ∷ ys) e j h l = by (is_sought what x y) refl e j h l (none_found what (k + 1) xs ys)
  where
    by : (b : Bool) → is_sought what x y ≡ b → cond b (Some k) (first_sought what (k + 1) xs ys) ≡ None
        → (j : ℕ) → j < suc (length xs) → j < suc (length ys)
        → (first_sought what (k + 1) xs ys ≡ None → (i : ℕ) → i < length xs → i < length ys →
        is_sought what (get_or xs i no_service) (get_or ys i Down) ≡ false)
        → is_sought what (get_or (x ∷ xs) j no_service) (get_or (y ∷ ys) j Down) ≡ false
    by true q f j m n rest = absurd (let some : Some k ≡ None = f in cc)
    by false q f zero m n rest = q
    by false q f (suc j) m n rest = rest f j (omega (arith, m)) (omega (arith, n))

-- the place of a service that was found
record Found (s : RsRecord) (what : Sought) (i : ℕ) : Type 0 where
  a_service : i < length s.settings.services
  a_state : i < length s.states
  passes : is_sought what (service_at s i) (state_at s i) ≡ true

found : (s : RsRecord) (what : Sought) (i : ℕ) → service_place s what ≡ Some i → Found s what i
found s what i e =
    let at = found_within what 0 s.settings.services s.states i e in
    let place : at.0 ≡ i = (let q : i ≡ 0 + at.0 = at.1 in omega arith) in
    subst (λ (n : ℕ). Found s what n) place (record { a_service = at.2; a_state = at.3; passes = at.4 })

-- ---- what is due for none

none_due : (tick : ℕ) (ss : List Service) (ts : List State) → any_due tick ss ts ≡ false → (i : ℕ) → i < length ss →
    is_due tick (get_or ss i no_service) (get_or ts i Down) ≡ false
none_due tick [] ts e i h = absurd (omega (arith, h))
none_due tick (s ∷ ss) [] e i h = down_quiet tick (get_or (s ∷ ss) i no_service)
none_due tick (s ∷ ss) (t ∷ ts) e zero h = (or_parts (is_due tick s t) (any_due tick ss ts) e).0
none_due tick (s ∷ ss) (t ∷ ts) e (suc i) h = none_due tick ss ts (or_parts (is_due tick s t) (any_due tick ss ts) e).1 i (omega (arith, h))

-- ---- counts

abbrev one : Bool → ℕ
one b = cond b 1 0

count_low : (test : Service → State → Bool) (ss : List Service) (ts : List State) → service_count test ss ts ≤ length ss
count_low test [] ts = omega arith
count_low test (s ∷ ss) [] = omega arith
count_low test (s ∷ ss) (t ∷ ts) = by (test s t) (count_low test ss ts)
  where
    by : (b : Bool) → service_count test ss ts ≤ length ss → one b + service_count test ss ts ≤ suc (length ss)
    by true h = omega (arith, h)
    by false h = omega (arith, h)

count_none : (tick : ℕ) (test : Service → State → Bool) → ((s : Service) (t : State) → is_due tick s t ≡ false → test s t ≡ false)
    → (ss : List Service) (ts : List State) → any_due tick ss ts ≡ false → service_count test ss ts ≡ 0
count_none tick test less [] ts e = refl
count_none tick test less (s ∷ ss) [] e = refl
count_none tick test less (s ∷ ss) (t ∷ ts) e =
    let parts = or_parts (is_due tick s t) (any_due tick ss ts) e in
    let rest = count_none tick test less ss ts parts.1 in
    rw (less s t parts.0, rest) refl

count_set : (test : Service → State → Bool) (ss : List Service) (ts : List State) (i : ℕ) (x : State) → i < length ss → i < length ts
    → service_count test (ss) (set ts i x) + one (test (get_or ss i no_service) (get_or ts i Down)) ≡ service_count test ss ts + one
    (test (get_or ss i no_service) x)
count_set test [] ts i x h l = absurd (omega (arith, h))
count_set test (s ∷ ss) [] i x h l = absurd (omega (arith, l))
count_set test (s ∷ ss) (t ∷ ts) zero x h l =
    let a = one (test s x) in
    let b = one (test s t) in
    let c = service_count test ss ts in
    let e : a + c + b ≡ b + c + a = omega arith in
    e
count_set test (s ∷ ss) (t ∷ ts) (suc i) x h l =
    let e = count_set test ss ts i x (omega (arith, h)) (omega (arith, l)) in
    let a = one (test s t) in
    omega (arith, e)

rested_less : (tick : ℕ) (s : Service) (t : State) → is_due tick s t ≡ false → is_sought (sought.Rested tick) s t ≡ false
rested_less tick s t e =
    let first = or_parts (is_sought (sought.Missed tick) s t) (is_sought (sought.Silent tick) s t || is_sought (sought.Rested tick) s t)
    e in
    (or_parts (is_sought (sought.Silent tick) s t) (is_sought (sought.Rested tick) s t) first.1).1

due_less : (tick : ℕ) (s : Service) (t : State) → is_due tick s t ≡ false → is_due tick s t ≡ false
due_less tick s t e = e

-- ---- one report

-- what a report leaves of a service that it served, by its state before; new generations are from `low` on, below `high`
abbrev Turned : ℕ → ℕ → ℕ → Service → State → State → Type 0
Turned tick low high service (Up r) after =
    ((is_sought (sought.Missed tick) service (Up r) ≡ true) × (after ≡ failed service.limit tick (failures_left service.forget tick r + 1)))
    ⊎ ((is_sought (sought.Missed tick) service (Up r) ≡ false) × (after ≡ Up (record r { ping = tick })))
Turned tick low high service (Waiting p) after =
    (e : EndpointRecord) × (p.until ≤ tick) × (low ≤ e.generation) × (e.generation < high) ×
    (after ≡ started_at e tick service.startup p.failures)
Turned tick low high service Down after = ⊥
Turned tick low high service GaveUp after = ⊥

wider : (tick low high least most : ℕ) (service : Service) (before after : State) → least ≤ low → high ≤ most
    → Turned tick low high service before after → Turned tick least most service before after
wider tick low high least most service (Up r) after l h turned = turned
wider tick low high least most service (Waiting p) after l h (e, over, lower, upper, is) =
    (e, over, omega (arith, l, lower), omega (arith, h, upper), is)
wider tick low high least most service Down after l h turned = turned
wider tick low high least most service GaveUp after l h turned = turned

-- a report with actions serves one service, for which something was due and nothing is due then
record Served (tick : ℕ) (s m : RsRecord) : Type 0 where
  place : ℕ
  after : State
  next : ℕ
  slots : SlotsRecord
  a_service : place < length s.settings.services
  a_state : place < length s.states
  was_due : is_due tick (service_at s place) (state_at s place) ≡ true
  quiet : is_due tick (service_at s place) after ≡ false
  turned : Turned tick s.next next (service_at s place) (state_at s place) after
  started : next ≡ s.next + one (is_sought (sought.Rested tick) (service_at s place) (state_at s place))
  is : m ≡ rs_of s.settings (set s.states place after) tick next slots

missed_due : (tick : ℕ) (service : Service) (state : State) → is_sought (sought.Missed tick) service state ≡ true →
    is_due tick service state ≡ true
missed_due tick service state e = rw e refl

silent_due : (tick : ℕ) (service : Service) (state : State) → is_sought (sought.Silent tick) service state ≡ true →
    is_due tick service state ≡ true
silent_due tick service state e = by (is_sought (sought.Missed tick) service state)
  where
    by : (b : Bool) → (b || (is_sought (sought.Silent tick) service state || is_sought (sought.Rested tick) service state)) ≡ true
    by true = refl
    by false = rw e refl

rested_due : (tick : ℕ) (service : Service) (state : State) → is_sought (sought.Rested tick) service state ≡ true →
    is_due tick service state ≡ true
rested_due tick service state e = by (is_sought (sought.Missed tick) service state) (is_sought (sought.Silent tick) service state)
  where
    by : (b c : Bool) → (b || (c || is_sought (sought.Rested tick) service state)) ≡ true
    by true c = refl
    by false true = refl
    by false false = e

-- a missed heartbeat
serves_missed : (tick : ℕ) (s : RsRecord) (i : ℕ) → service_place s (sought.Missed tick) ≡ Some i →
    Served tick s (done_to s tick (task (Lose true) i))
serves_missed tick s i e = by is.0 is.1
  where
    at : Found s (sought.Missed tick) i
    at = found s (sought.Missed tick) i e

    is : (r : Running) × (state_at s i ≡ Up r)
    is = runs_also (nat_lt 0 (service_at s i).period) (λ r. nat_le (2 * (service_at s i).period) (tick - r.beat)) (state_at s i) at.passes

    by : (r : Running) → state_at s i ≡ Up r → Served tick s (done_to s tick (task (Lose true) i))
    by r here =
        let service = service_at s i in
        let after = failed service.limit tick (failures_left service.forget tick r + 1) in
        record {
          place = i;
          after = after;
          next = s.next;
          slots = slots_after s (Up r) (Lose true);
          a_service = at.a_service;
          a_state = at.a_state;
          was_due = missed_due tick service (state_at s i) at.passes;
          quiet = failed_quiet tick service.limit (failures_left service.forget tick r + 1) service;
          turned = subst (λ (z : State). Turned tick s.next s.next service z after) (sym here)
              (inl (subst (λ (z : State). is_sought (sought.Missed tick) service z ≡ true) here at.passes, refl));
          started = subst (λ (z : State). s.next ≡ s.next + one (is_sought (sought.Rested tick) service z)) (sym here) (omega arith);
          is = ap (λ (z : State). rs_of s.settings (set s.states i (state_after s tick service z (Lose true))) tick
              (next_after s z (Lose true)) (slots_after s z (Lose true))) here;
        }

-- a ping, where no heartbeat is missed
serves_silent : (tick : ℕ) (s : RsRecord) (i : ℕ) → service_place s (sought.Missed tick) ≡ None →
    service_place s (sought.Silent tick) ≡ Some i
    → Served tick s (done_to s tick (task Ping i))
serves_silent tick s i none e = by is.0 is.1
  where
    at : Found s (sought.Silent tick) i
    at = found s (sought.Silent tick) i e

    is : (r : Running) × (state_at s i ≡ Up r)
    is = runs_also (nat_lt 0 (service_at s i).period) (λ r. nat_le (service_at s i).period (tick - r.ping)) (state_at s i) at.passes

    in_order : is_sought (sought.Missed tick) (service_at s i) (state_at s i) ≡ false
    in_order = none_found (sought.Missed tick) 0 s.settings.services s.states none i at.a_service at.a_state

    by : (r : Running) → state_at s i ≡ Up r → Served tick s (done_to s tick (task Ping i))
    by r here =
        let service = service_at s i in
        let in_time : is_sought (sought.Missed tick) service (Up r) ≡ false =
        subst (λ (z : State). is_sought (sought.Missed tick) service z ≡ false) here in_order in
        let after : State = Up (record r { ping = tick }) in
        record {
          place = i;
          after = after;
          next = s.next;
          slots = s.slots;
          a_service = at.a_service;
          a_state = at.a_state;
          was_due = silent_due tick service (state_at s i) at.passes;
          quiet = pinged_quiet tick service r in_time;
          turned = subst (λ (z : State). Turned tick s.next s.next service z after) (sym here) (inr (in_time, refl));
          started = subst (λ (z : State). s.next ≡ s.next + one (is_sought (sought.Rested tick) service z)) (sym here) (omega arith);
          is = ap (λ (z : State). rs_of s.settings (set s.states i (state_after s tick service z Ping)) tick (next_after s z Ping)
              (slots_after s z Ping)) here;
        }

-- a start after a wait
serves_rested : (tick : ℕ) (s : RsRecord) (i : ℕ) → service_place s (sought.Rested tick) ≡ Some i →
    Served tick s (done_to s tick (task Resume i))
serves_rested tick s i e = by is.0 is.1
  where
    at : Found s (sought.Rested tick) i
    at = found s (sought.Rested tick) i e

    is : (p : Pause) × (state_at s i ≡ Waiting p)
    is = waits_when (λ p. nat_le p.until tick) (state_at s i) at.passes

    by : (p : Pause) → state_at s i ≡ Waiting p → Served tick s (done_to s tick (task Resume i))
    by p here =
        let service = service_at s i in
        let over : nat_le p.until tick ≡ true = subst (λ (z : State). is_sought (sought.Rested tick) service z ≡ true) here at.passes in
        let after = state_after s tick service (Waiting p) Resume in
        record {
          place = i;
          after = after;
          next = s.next + 1;
          slots = slots_after s (Waiting p) Resume;
          a_service = at.a_service;
          a_state = at.a_state;
          was_due = rested_due tick service (state_at s i) at.passes;
          quiet = started_quiet tick service (new_endpoint s) p.failures;
          turned = subst (λ (z : State). Turned tick s.next (s.next + 1) service z after) (sym here)
              (new_endpoint s, leb-true p.until tick over, omega arith, omega arith, refl);
          started = subst (λ (z : State). s.next + 1 ≡ s.next + one (is_sought (sought.Rested tick) service z)) (sym here)
              (rw over (omega arith));
          is = ap (λ (z : State). rs_of s.settings (set s.states i (state_after s tick service z Resume)) tick (next_after s z Resume)
              (slots_after s z Resume)) here;
        }

serves_due : (tick : ℕ) (s : RsRecord) (p : Task) → due s tick ≡ Some p → Served tick s (done_to s tick p)
serves_due tick s p e = by (service_place s (sought.Missed tick)) refl (service_place s (sought.Silent tick)) refl
    (service_place s (sought.Rested tick)) refl e
  where
    of : (deed : Deed) (place : ℕ) → Some (task deed place) ≡ Some p → Served tick s (done_to s tick (task deed place)) →
        Served tick s (done_to s tick p)
    of deed place q served = subst (λ (z : Task). Served tick s (done_to s tick z)) (same_task (task deed place) p q) served

    by : (m : Option ℕ) → service_place s (sought.Missed tick) ≡ m → (n : Option ℕ) → service_place s (sought.Silent tick) ≡ n →
        (o : Option ℕ) → service_place s (sought.Rested tick) ≡ o
        → option_or (option_map (task (Lose true)) m) (option_or (option_map (task Ping) n) (option_map (task Resume) o)) ≡ Some p →
        Served tick s (done_to s tick p)
    by (Some i) f n g o h q = of (Lose true) i q (serves_missed tick s i f)
    by None f (Some i) g o h q = of Ping i q (serves_silent tick s i f g)
    by None f None g (Some i) h q = of Resume i q (serves_rested tick s i h)
    by None f None g None h q = absurd (let n : None ≡ Some p = q in cc)

-- a report with actions
acting : (tick : ℕ) (s m : RsRecord) (actions : List Action) → RsStep s Tick tick actions m → actions ≢ [] → Served tick s m
acting tick s m actions (None, free, is, h) some = absurd (some h.done)
acting tick s m actions (Some p, free, is, h) some =
    subst (λ (z : RsRecord). Served tick s z) (sym h.after)
    (serves_due tick s p (same_asked (due s tick) (Some p) (asked s Tick tick) refl is))

-- one service less has something due
served_count : (tick : ℕ) (s m : RsRecord) (given : Served tick s m)
    → service_count (is_due tick) s.settings.services (set s.states given.place given.after) + 1 ≡ service_count (is_due tick)
    s.settings.services s.states
served_count tick s m given =
    let e = count_set (is_due tick) s.settings.services s.states given.place given.after given.a_service given.a_state in
    let f = ap one given.was_due in
    let g = ap one given.quiet in
    omega (arith, e, f, g)

-- and one wait less is over, if it was a start
served_starts : (tick : ℕ) (s m : RsRecord) (given : Served tick s m)
    → service_count (is_sought (sought.Rested tick)) s.settings.services (set s.states given.place given.after) + one
    (is_sought (sought.Rested tick) (service_at s given.place) (state_at s given.place))
    ≡ service_count (is_sought (sought.Rested tick)) s.settings.services s.states
served_starts tick s m given =
    let e = count_set (is_sought (sought.Rested tick)) s.settings.services s.states given.place given.after given.a_service given.a_state in
    let g = ap one (rested_less tick (service_at s given.place) given.after given.quiet) in
    omega (arith, e, g)

-- the report without actions
record Idle (tick : ℕ) (s t : RsRecord) : Type 0 where
  quiet : any_due tick s.settings.services s.states ≡ false
  is : t ≡ record s { tick = tick }

idling : (tick : ℕ) (s t : RsRecord) → RsStep s Tick tick [] t → Idle tick s t
idling tick s t (None, free, is, h) = record
    { quiet = sym (due_is_any s tick) ∙ ap is_some (same_asked (due s tick) None (asked s Tick tick) refl is); is = h.after }
idling tick s t (Some p, free, is, h) =
    absurd ((ticks_act s t tick [] (Some p, free, is, h)).0 (ap is_some (same_asked (due s tick) (Some p) (asked s Tick tick) refl is))
    refl)

-- ---- all reports

-- a service is as it was before the reports, or was served, and nothing is due for it
abbrev Midway : ℕ → ℕ → ℕ → Service → State → State → Type 0
Midway tick low high service before now = (now ≡ before) ⊎ (Turned tick low high service before now × (is_due tick service now ≡ false))

-- what the reports leave
record Left (tick : ℕ) (settings : SettingsRecord) (origin : List State) (low : ℕ) (states : List State) (next : ℕ)
    (steps : List (List Action)) (t : RsRecord) : Type 0 where
  same : t.settings ≡ settings
  at : t.tick ≡ tick
  each : (k : ℕ) → Midway tick low t.next (get_or settings.services k no_service) (get_or origin k Down) (get_or t.states k Down)
  quiet : any_due tick settings.services t.states ≡ false
  count : length steps ≡ service_count (is_due tick) settings.services states
  starts : t.next ≡ next + service_count (is_sought (sought.Rested tick)) settings.services states

module _ (tick : ℕ) (settings : SettingsRecord) (origin : List State) (low : ℕ) where
  abbrev Each : List State → ℕ → Type 0
  Each states next = (k : ℕ) → Midway tick low next (get_or settings.services k no_service) (get_or origin k Down) (get_or states k Down)

  -- one more report
  served_each : (s m : RsRecord) (given : Served tick s m) → s.settings ≡ settings → low ≤ s.next → Each s.states s.next →
      Each (set s.states given.place given.after) given.next
  served_each s m given same lower each k = elim (written s.states given.place k given.after) [
    | inl unchanged ↦ subst (λ (z : State). Midway tick low given.next service before z) (sym unchanged) (elim (each k) [
      | inl still ↦ inl still
      | inr done ↦ inr (wider tick low s.next low given.next service before _ (omega arith) rising done.0, done.1)
    ])
    | inr here ↦ subst (λ (z : State). Midway tick low given.next service before z) (sym here.1) (elim (each k) [
      | inl still ↦ inr (
        wider tick s.next given.next low given.next service before given.after lower (omega arith)
            (subst (λ (z : State). Turned tick s.next given.next service z given.after) (at here.0 ∙ still) (turned here.0)),
        quiet here.0,
      )
      | inr done ↦ absurd (let no : true ≡ false = sym (was_due here.0) ∙ done.1 in cc)
    ])
  ]
    where
      service : Service
      service = get_or settings.services k no_service

      before : State
      before = get_or origin k Down

      rising : s.next ≤ given.next
      rising = omega (arith, given.started)

      at : k ≡ given.place → state_at s given.place ≡ get_or s.states k Down
      at e = ap (λ (n : ℕ). state_at s n) (sym e)

      of : k ≡ given.place → service_at s given.place ≡ service
      of e = ap (λ (n : ℕ). service_at s n) (sym e) ∙ ap (λ (z : SettingsRecord). get_or z.services k no_service) same

      turned : k ≡ given.place → Turned tick s.next given.next service (state_at s given.place) given.after
      turned e = subst (λ (z : Service). Turned tick s.next given.next z (state_at s given.place) given.after) (of e) given.turned

      quiet : k ≡ given.place → is_due tick service given.after ≡ false
      quiet e = subst (λ (z : Service). is_due tick z given.after ≡ false) (of e) given.quiet

      was_due : k ≡ given.place → is_due tick service (get_or s.states k Down) ≡ true
      was_due e = subst (λ (z : Service). is_due tick z (get_or s.states k Down) ≡ true) (of e)
          (subst (λ (z : State). is_due tick (service_at s given.place) z ≡ true) (at e) given.was_due)

  left : (t : RsRecord) (steps : List (List Action)) (states : List State) (now next : ℕ) (slots : SlotsRecord) → low ≤ next →
      Each states next → AllAct steps
      → Ticks tick (rs_of settings states now next slots) (steps ++ [] ∷ []) t → Left tick settings origin low states next steps t
  left t [] states now next slots lower each acted (m, step, end) =
      subst (λ (z : RsRecord). Left tick settings origin low states next [] z) (sym idle.is ∙ end) (record {
        same = refl;
        at = refl;
        each = each;
        quiet = idle.quiet;
        count = sym (count_none tick (is_due tick) (due_less tick) settings.services states idle.quiet);
        starts = let none = count_none tick (is_sought (sought.Rested tick)) (rested_less tick) settings.services states idle.quiet in
            omega (arith, none);
      })
    where
      idle : Idle tick (rs_of settings states now next slots) m
      idle = idling tick (rs_of settings states now next slots) m step
  left t (actions ∷ rest) states now next slots lower each acted (m, step, run) =
      more (left t rest (set states given.place given.after) tick given.next given.slots (omega (arith, lower, given.started))
      (served_each s m given refl lower each) acted.1
      (subst (λ (z : RsRecord). Ticks tick z (rest ++ [] ∷ []) t) given.is run))
    where
      s : RsRecord
      s = rs_of settings states now next slots

      given : Served tick s m
      given = acting tick s m actions step acted.0

      more : Left tick settings origin low (set states given.place given.after) given.next rest t →
          Left tick settings origin low states next (actions ∷ rest) t
      more after = record {
        same = after.same;
        at = after.at;
        each = after.each;
        quiet = after.quiet;
        count = omega (arith, after.count, served_count tick s m given);
        starts = omega (arith, after.starts, given.started, served_starts tick s m given);
      }

-- ---- the settled state

after_now : (tick : ℕ) (service : Service) (p : Pause) → is_due tick service (Waiting p) ≡ false → tick < p.until
after_now tick service p e = elim (cases_lt tick p.until) [
  | inl low ↦ low
  | inr high ↦ absurd (let no : true ≡ false = sym (le-leb p.until tick high) ∙ rested_less tick service (Waiting p) e in cc)
]

-- ends of each kind of service
module _ (tick low high : ℕ) (service : Service) (now : State) (quiet : is_due tick service now ≡ false) where
  wait_ends : (p : Pause) → p.until ≤ tick → Midway tick low high service (Waiting p) now
      → (e : EndpointRecord) × (low ≤ e.generation) × (e.generation < high) × (now ≡ started_at e tick service.startup p.failures)
  wait_ends p over (inl still) = let later = after_now tick service p (subst (λ (z : State). is_due tick service z ≡ false) still quiet) in
      absurd (omega (arith, later, over))
  wait_ends p over (inr ((e, before, lower, upper, is), done)) = (e, lower, upper, is)

  missed_ends : (r : Running) → is_sought (sought.Missed tick) service (Up r) ≡ true → Midway tick low high service (Up r) now →
      now ≡ failed service.limit tick (failures_left service.forget tick r + 1)
  missed_ends r missed (inl still) = false_true (sym quiet ∙ ap (is_due tick service) still ∙ missed_due tick service (Up r) missed)
  missed_ends r missed (inr (inl (was, is), done)) = is
  missed_ends r missed (inr (inr (not, is), done)) = false_true (sym not ∙ missed)

wait_lasts : (tick low high : ℕ) (service : Service) (now : State) (p : Pause) → tick < p.until →
    Midway tick low high service (Waiting p) now → now ≡ Waiting p
wait_lasts tick low high service now p later (inl still) = still
wait_lasts tick low high service now p later (inr ((e, over, lower, upper, is), done)) = absurd (omega (arith, later, over))

runs_on : (tick low high : ℕ) (service : Service) (now : State) (r : Running) → is_sought (sought.Missed tick) service (Up r) ≡ false →
    Midway tick low high service (Up r) now
    → (q : Running) × (now ≡ Up q) × (q ≡ record r { ping = q.ping })
runs_on tick low high service now r met (inl still) = (r, still, refl)
runs_on tick low high service now r met (inr (inl (was, is), done)) = false_true (sym met ∙ was)
runs_on tick low high service now r met (inr (inr (not, is), done)) = (record r { ping = tick }, is, refl)

stays_down : (tick low high : ℕ) (service : Service) (now : State) → Midway tick low high service Down now → now ≡ Down
stays_down tick low high service now (inl still) = still
stays_down tick low high service now (inr (none, done)) = absurd none

stays_given_up : (tick low high : ℕ) (service : Service) (now : State) → Midway tick low high service GaveUp now → now ≡ GaveUp
stays_given_up tick low high service now (inl still) = still
stays_given_up tick low high service now (inr (none, done)) = absurd none

started : (tick : ℕ) (s t : RsRecord) (service : Service) (i : ℕ) (p : Pause)
    → (e : EndpointRecord) × (s.next ≤ e.generation) × (e.generation < t.next) ×
    (state_at t i ≡ started_at e tick service.startup p.failures)
    → (r : Running) × (state_at t i ≡ Up r) × IsStarted tick s t p r
started tick s t service i p (e, lower, upper, is) = (_, is, record { newer = lower; used = upper; since = refl; failures = refl })

pub ticks_settle : TicksSettle
ticks_settle s t tick steps settles = (
  all.count,
  subst (λ (n : ℕ). n ≤ length s.settings.services) (sym all.count) (count_low (is_due tick) s.settings.services s.states),
  record {
    settings = all.same;
    at = all.at;
    quiet = quiet;
    later = λ i p h e. after_now tick (service_at s i) p (subst (λ (z : State). is_due tick (service_at s i) z ≡ false) e (quiet i h));
    starts = all.starts;
    started = λ i p h e over. started tick s t (service_at s i) i p
        (wait_ends tick s.next t.next (service_at s i) (state_at t i) (quiet i h) p over (from i (Waiting p) e));
    waits = λ i p e later. wait_lasts tick s.next t.next (service_at s i) (state_at t i) p later (from i (Waiting p) e);
    failures = λ i r h e missed. missed_ends tick s.next t.next (service_at s i) (state_at t i) (quiet i h) r missed (from i (Up r) e);
    kept = λ i r e met. runs_on tick s.next t.next (service_at s i) (state_at t i) r met (from i (Up r) e);
    down = λ i e. stays_down tick s.next t.next (service_at s i) (state_at t i) (from i Down e);
    given_up = λ i e. stays_given_up tick s.next t.next (service_at s i) (state_at t i) (from i GaveUp e);
  },
)
  where
    all : Left tick s.settings s.states s.next s.states s.next steps t
    all = left tick s.settings s.states s.next t steps s.states s.tick s.next s.slots (omega arith) (λ k. inl refl) settles.acted
        settles.reports

    quiet : (i : ℕ) → i < length s.settings.services → is_due tick (service_at s i) (state_at t i) ≡ false
    quiet i h = none_due tick s.settings.services t.states all.quiet i h

    from : (i : ℕ) (before : State) → state_at s i ≡ before → Midway tick s.next t.next (service_at s i) before (state_at t i)
    from i before e = subst (λ (z : State). Midway tick s.next t.next (service_at s i) z (state_at t i)) e (all.each i)

-- ---- ticks that aren't refused

allowed : (s : RsRecord) (tick : ℕ) → nat_lt tick s.tick ≡ false → nat_lt (2 ^ 62) tick ≡ false →
    (asks takes_generation (Ok (due s tick)) && nat_lt 2097151 s.next) ≡ false
    → (asks takes_slot (Ok (due s tick)) && is_full s) ≡ false → refusal s Tick tick ≡ None
allowed s tick back worn generations slots = rw (back, worn, generations, slots) refl

-- what a report needs that may start a service
record Enough (tick : ℕ) (s : RsRecord) : Type 0 where
  now : s.tick ≤ tick
  count : length s.states ≡ length s.settings.services
  slots : length s.settings.services ≤ s.settings.slots
  left : s.next + start_count tick s ≤ 2097152

count_some : (test : Service → State → Bool) (ss : List Service) (ts : List State) (i : ℕ) → i < length ss → i < length ts →
    test (get_or ss i no_service) (get_or ts i Down) ≡ true → 1 ≤ service_count test ss ts
count_some test [] ts i h l e = absurd (omega (arith, h))
count_some test (s ∷ ss) [] i h l e = absurd (omega (arith, l))
count_some test (s ∷ ss) (t ∷ ts) zero h l e = omega (arith, ap one e)
count_some test (s ∷ ss) (t ∷ ts) (suc i) h l e = omega (arith, count_some test ss ts i (omega (arith, h)) (omega (arith, l)) e)

-- the task of a tick
abbrev due_of : Option ℕ → Option ℕ → Option ℕ → Option Task
due_of m n o = option_or (option_map (task (Lose true)) m) (option_or (option_map (task Ping) n) (option_map (task Resume) o))

never_refused : (tick : ℕ) (s : RsRecord) → tick ≤ 2 ^ 62 → Enough tick s → refusal s Tick tick ≡ None
never_refused tick s early enough = by (service_place s (sought.Missed tick)) refl (service_place s (sought.Silent tick)) refl
    (service_place s (sought.Rested tick)) refl
  where
    of : (o : Option Task) → due s tick ≡ o → (asks takes_generation (Ok o) && nat_lt 2097151 s.next) ≡ false →
        (asks takes_slot (Ok o) && is_full s) ≡ false → refusal s Tick tick ≡ None
    of o e g n = allowed s tick (le-ltb tick s.tick enough.now) (le-ltb (2 ^ 62) tick early)
        (subst (λ (z : Option Task). (asks takes_generation (Ok z) && nat_lt 2097151 s.next) ≡ false) (sym e) g)
        (subst (λ (z : Option Task). (asks takes_slot (Ok z) && is_full s) ≡ false) (sym e) n)

    is : (m n o : Option ℕ) → service_place s (sought.Missed tick) ≡ m → service_place s (sought.Silent tick) ≡ n →
        service_place s (sought.Rested tick) ≡ o → due s tick ≡ due_of m n o
    is m n o f g h = rw (f, g, h) refl

    by : (m : Option ℕ) → service_place s (sought.Missed tick) ≡ m → (n : Option ℕ) → service_place s (sought.Silent tick) ≡ n →
        (o : Option ℕ) → service_place s (sought.Rested tick) ≡ o → refusal s Tick tick ≡ None
    by (Some i) f n g o h = of (Some (task (Lose true) i)) (is (Some i) n o f g h) refl refl
    by None f (Some i) g o h = of (Some (task Ping i)) (is None (Some i) o f g h) refl refl
    by None f None g (Some i) h = of (Some (task Resume i)) (is None None (Some i) f g h)
        (le-ltb 2097151 s.next (omega (arith, some, enough.left)))
        (lt-leb s.settings.slots (up_count s.states) (omega (arith, below, enough.slots, enough.count)))
      where
        at : Found s (sought.Rested tick) i
        at = found s (sought.Rested tick) i h

        some : 1 ≤ start_count tick s
        some = count_some (is_sought (sought.Rested tick)) s.settings.services s.states i at.a_service at.a_state at.passes

        waits : (p : Pause) × (state_at s i ≡ Waiting p)
        waits = waits_when (λ p. nat_le p.until tick) (state_at s i) at.passes

        below : up_count s.states < length s.states
        below = fewer_up s.states i at.a_state (ap is_up waits.1)
    by None f None g None h = of None (is None None None f g h) refl refl

-- reports by which the tick settles
abbrev Settling : ℕ → RsRecord → Type 0
Settling tick s = (steps : List (List Action)) × (t : RsRecord) × ReportsSettle tick s steps t

enough_after : (tick : ℕ) (s m : RsRecord) → Enough tick s → (given : Served tick s m) → Enough tick m
enough_after tick s m enough given = subst (λ (z : RsRecord). Enough tick z) (sym given.is) (record {
  now = omega arith;
  count = length-set s.states given.place given.after ∙ enough.count;
  slots = enough.slots;
  left = omega (arith, enough.left, given.started, served_starts tick s m given);
})

one_less : (tick : ℕ) (s m : RsRecord) (given : Served tick s m) → due_count tick m + 1 ≡ due_count tick s
one_less tick s m given = ap (λ (z : RsRecord). due_count tick z + 1) given.is ∙ served_count tick s m given

-- the next report, and those after it
reported : (tick : ℕ) (s : RsRecord) → tick ≤ 2 ^ 62 → Enough tick s →
    ((m : RsRecord) → Enough tick m → due_count tick m + 1 ≡ due_count tick s → Settling tick m) → Settling tick s
reported tick s early enough then = by (due s tick) refl
  where
    free : refusal s Tick tick ≡ None
    free = never_refused tick s early enough

    by : (o : Option Task) → due s tick ≡ o → Settling tick s
    by None e = (
      [],
      record s { tick = tick },
      record {
        acted = tt;
        reports =
            (record s { tick = tick }, (None, free, ap (λ (z : Option Task). Ok z) e, record { done = refl; after = refl }), refl);
      },
    )
    by (Some p) e =
        let m = done_to s tick p in
        let actions = actions_of s (service_at s p.place) (state_at s p.place) p.deed in
        let step : RsStep s Tick tick actions m = (Some p, free, ap (λ (z : Option Task). Ok z) e, record { done = refl; after = refl }) in
        let given = serves_due tick s p e in
        let rest = then m (enough_after tick s m enough given) (one_less tick s m given) in (
          actions ∷ rest.0,
          rest.1,
          record {
            acted = ((ticks_act s m tick actions step).0 (ap is_some e), rest.2.acted);
            reports =
                (m, step, rest.2.reports);
          },
        )

settling : (n tick : ℕ) (s : RsRecord) → tick ≤ 2 ^ 62 → Enough tick s → due_count tick s ≡ n → Settling tick s
settling zero tick s early enough e = reported tick s early enough (λ m h f. absurd (omega (arith, e, f)))
settling (suc n) tick s early enough e = reported tick s early enough (λ m h f. settling n tick m early h (omega (arith, e, f)))

pub ticks_can_settle : TicksCanSettle
ticks_can_settle s tick now early count slots left =
    settling (due_count tick s) tick s early (record { now = now; count = count; slots = slots; left = left }) refl

-- ---- recovery

failed_until : (limit tick k : ℕ) (p : Pause) → failed limit tick k ≡ Waiting p → p.until ≡ tick + pause k
failed_until limit tick k p e = by (nat_lt limit k) e
  where
    of : (q : Pause) → Waiting q ≡ Waiting p → q.until ≡ p.until
    of q f = ap (λ (z : Pause). z.until) (let same : q ≡ p = cc in same)

    by : (b : Bool) → cond b GaveUp (Waiting (record { until = tick + pause k; failures = k })) ≡ Waiting p → p.until ≡ tick + pause k
    by true f = absurd (let n : GaveUp ≡ Waiting p = f in cc)
    by false f = sym (of (record { until = tick + pause k; failures = k }) f)

waits_then : (s : RsRecord) (tick : ℕ) (service : Service) (r : Running) (deed : Deed) (p : Pause) →
    state_after s tick service (Up r) deed ≡ Waiting p → (k : ℕ) × (p.until ≡ tick + pause k)
waits_then s tick service r (Lose kill) p e = (_, failed_until service.limit tick (failures_left service.forget tick r + 1) p e)
waits_then s tick service r Halt p e = absurd (let n : Down ≡ Waiting p = e in cc)
waits_then s tick service r Replace p e = absurd (let n : Up _ ≡ Waiting p = e in cc)
waits_then s tick service r Hear p e = absurd (let n : Up _ ≡ Waiting p = e in cc)
waits_then s tick service r Ping p e = absurd (let n : Up _ ≡ Waiting p = e in cc)
waits_then s tick service r Begin p e = absurd (let n : Up r ≡ Waiting p = e in cc)
waits_then s tick service r Resume p e = absurd (let n : Up r ≡ Waiting p = e in cc)
waits_then s tick service r Forget p e = absurd (let n : Up r ≡ Waiting p = e in cc)

running_waits : {P : Type 0} (r : Running) (p : Pause) (state : State) → state ≡ Up r → state ≡ Waiting p → P
running_waits r p state e f = absurd (let n : Up r ≡ Waiting p = sym e ∙ f in cc)

failing_until : (s u : RsRecord) (event : Event) (tick : ℕ) (actions : List Action) (i : ℕ) (r : Running) (p : Pause) →
    state_at s i ≡ Up r → RsStep s event tick actions u → state_at u i ≡ Waiting p
    → (k : ℕ) × (p.until ≡ tick + pause k)
failing_until s u event tick actions i r p ran (None, free, is, h) waits =
    running_waits r p (state_at s i) ran (sym (ap (λ (z : RsRecord). state_at z i) h.after) ∙ waits)
failing_until s u event tick actions i r p ran (Some q, free, is, h) waits = elim (written s.states q.place i after) [
  | inl same ↦ running_waits r p (state_at s i) ran (sym same ∙ now)
  | inr here ↦ waits_then s tick (service_at s q.place) r q.deed p
      (subst (λ (z : State). state_after s tick (service_at s q.place) z q.deed ≡ Waiting p)
      (ap (λ (n : ℕ). state_at s n) (sym here.0) ∙ ran) (sym here.1 ∙ now))
]
  where
    after : State
    after = state_after s tick (service_at s q.place) (state_at s q.place) q.deed

    now : get_or (set s.states q.place after) i Down ≡ Waiting p
    now = sym (ap (λ (z : RsRecord). state_at z i) h.after) ∙ waits

pub pauses_are_short : PausesAreShort
pauses_are_short s u event tick actions i r p fails =
    let until = failing_until s u event tick actions i r p fails.ran fails.step fails.waits in
    let long = pause_some until.0 in
    (omega (arith, until.1, long.0), omega (arith, until.1, long.1))

rises : (low high : ℕ) (es : List EndpointRecord) → AreRising low es high → low ≤ high
rises low high [] h = h
rises low high (e ∷ es) h = let k = rises (e.generation + 1) high es h.1 in omega (arith, h.0, k)

pub services_recover : ServicesRecover
services_recover s u m t event fell tick actions i r p between steps within used fails run waits over settles =
    let all = ticks_settle m t tick steps settles in
    let up = all.2.started i p within waits over in
    let low = rises s.next m.next (flat_map starts (actions ∷ between))
    (runs.starts_rise s m (actions ∷ between) (u, (event, fell, fails.step), run)) in
    (up.0, up.1, omega (arith, used, low, up.2.newer))
