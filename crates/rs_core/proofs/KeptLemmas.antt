-- What RS keeps, over the write of one state and of the slots.
use Rattle.std.proofs.Common.{◌≡◌, ◌≢◌, ℕ, ◌<◌, ◌≤◌, ◌+◌, ◌-◌, ◌^◌, ◌==◌, nat_lt, Bool, true, false, cond, List, [], ◌∷◌, get_or, length}
use Rattle.std.proofs.Common.{refl, sym, ◌∙◌, ap, subst, inl, inr, ◌⊎◌, lt-ltb, le-ltb, eq-eqb, ne_eqb, arith}
use Rattle.std.specs.Prelude.{count_by, ◌↔◌}
use Rattle.std.proofs.Math.ListN.{set, length-set}
use Rattle.std.proofs.lemmas.List.{get_or-set_same, get_or-set_other}
use Rattle.std.proofs.lemmas.List.Sums.{count_by-le-length, get_or-le-sum_by, sum_by-cons, sum_by-set}
use Rattle.std.proofs.lemmas.Bool.{cases_eq, cases_lt}
use Rattle.std.proofs.Math.Pow.{pow_mono}
use Rattle.rs_settings.specs.Settings.{SettingsRecord}
use Rattle.rs_core.specs.declared.state.State.{State}
use Rattle.rs_core.specs.declared.state.State.TheVariants.{Down, Up, Waiting, GaveUp}
use Rattle.rs_core.specs.declared.state.Running.{Running}
use Rattle.rs_core.specs.Slots.{SlotsRecord, next_key, next_of, next_taken, with_next_taken, with_freed}
use Rattle.rs_core.specs.State.{is_up, up_count}
use Rattle.rs_core.specs.Kept.{IsRunning, IsState, SlotsFit, IsRs, IsAtRest, IsNotAt, HaveTwoSlots, is_at, times_taken}
use Rattle.rs_core.specs.Machine.{pause}

-- ---- counts

abbrev one : Bool → ℕ
one b = cond b 1 0

-- how often the key is free again
abbrev times_freed : ℕ → List ℕ → ℕ
times_freed key freed = count_by (λ k. k == key) freed

at_most_one : (given key : ℕ) → times_taken given key ≤ 1
at_most_one given key = by (nat_lt key given)
  where
    by : (b : Bool) → one b ≤ 1
    by true = omega arith
    by false = omega arith

not_taken : (given key : ℕ) → given ≤ key → times_taken given key ≡ 0
not_taken given key h = ap one (le-ltb key given h)

-- one more key is taken
taken_more : (first given key : ℕ) → one ((first + given) == (first + key)) + times_taken given key ≡ times_taken (given + 1) key
taken_more first given key = elim (cases_eq key given) [
  | inl same ↦
      rw (
        eq-eqb (first + given) (first + key) (omega (arith, same)),
        le-ltb key given (omega (arith, same)),
        lt-ltb key (given + 1)
            (omega (arith, same)),
      ) refl
  | inr other ↦ rw (ne_eqb (first + given) (first + key) (omega (arith, other))) (elim (cases_lt key given) [
    | inl low ↦ rw (lt-ltb key given low, lt-ltb key (given + 1) (omega (arith, low))) refl
    | inr high ↦ rw (le-ltb key given high, le-ltb key (given + 1) (omega (arith, high, other))) refl
  ])
]

-- a key is that of a slot where it is less by the first slot
same_key : (first slot k key : ℕ) → slot ≡ first + k → (slot == (first + key)) ≡ (k == key)
same_key first slot k key e = elim (cases_eq k key) [
  | inl same ↦ eq-eqb slot (first + key) (omega (arith, e, same)) ∙ sym (eq-eqb k key same)
  | inr other ↦ ne_eqb slot (first + key) (omega (arith, e, other)) ∙ sym (ne_eqb k key other)
]

freed_more : (key k : ℕ) (freed : List ℕ) → times_freed key (k ∷ freed) ≡ one (k == key) + times_freed key freed
freed_more key k freed = sum_by-cons (λ j. one (j == key)) k freed

freed_itself : (k : ℕ) (freed : List ℕ) → 1 ≤ times_freed k (k ∷ freed)
freed_itself k freed =
    let e : (k == k) ≡ true = eq-eqb k k refl in
    let f : times_freed k (k ∷ freed) ≡ 1 + times_freed k freed = freed_more k k freed ∙ ap (λ b. one b + times_freed k freed) e in
    omega (arith, f)

-- ---- states

is_one : (b : Bool) → 1 ≤ one b → b ≡ true
is_one true h = refl
is_one false h = absurd (omega (arith, h))

is_none : (b : Bool) → one b ≤ 0 → b ≡ false
is_none true h = absurd (omega (arith, h))
is_none false h = refl

not_at : (first key : ℕ) (state : State) → is_up state ≡ false → is_at first key state ≡ false
not_at first key (Up r) h = cc
not_at first key (Waiting p) h = refl
not_at first key Down h = refl
not_at first key GaveUp h = refl

-- a state without an instance
at_rest : (first next : ℕ) (state : State) → IsAtRest state → IsState first next state
at_rest first next (Up r) h = absurd h
at_rest first next (Waiting p) h = h
at_rest first next Down h = tt
at_rest first next GaveUp h = tt

rest_not_up : (state : State) → IsAtRest state → is_up state ≡ false
rest_not_up (Up r) h = absurd h
rest_not_up (Waiting p) h = refl
rest_not_up Down h = refl
rest_not_up GaveUp h = refl

-- a state still holds when more generations were used
stands : (first next more : ℕ) (state : State) → next ≤ more → IsState first next state → IsState first more state
stands first next more (Up r) le h = record
    { valid = h.valid; given = h.given; below = omega (arith, h.below, le); slot = h.slot; failures = h.failures }
stands first next more (Waiting p) le h = h
stands first next more Down le h = tt
stands first next more GaveUp le h = tt

-- ---- the slots, where the state of one service changes

-- the slots change as its state does
record Follows (first : ℕ) (freed more : List ℕ) (given now : ℕ) (before after : State) : Type 0 where
  once : (key : ℕ) →
      times_freed key more + one (is_at first key after) + times_taken given key ≡ times_freed key freed + one (is_at first key before) +
      times_taken now key
  taken : length more + one (is_up after) + given ≡ length freed + one (is_up before) + now

-- it takes the next slot
takes_next : (first : ℕ) (freed : List ℕ) (given : ℕ) (before : State) (r : Running) → is_up before ≡ false →
    r.endpoint.slot ≡ first + next_of freed given →
    Follows first freed (next_taken first freed given).freed given (next_taken first freed given).taken before (Up r)
takes_next first [] given before r rest slot = record {
  once = λ key. rw (not_at first key before rest, slot) (omega (arith, taken_more first given key));
  taken = rw rest (omega arith);
}
takes_next first (k ∷ freed) given before r rest slot = record {
  once = λ key. rw (not_at first key before rest, same_key first r.endpoint.slot k key slot, freed_more key k freed) (omega arith);
  taken = rw rest (omega arith);
}

-- it frees its slot
gives_back : (first : ℕ) (freed : List ℕ) (given : ℕ) (r : Running) (after : State) → first ≤ r.endpoint.slot → is_up after ≡ false →
    Follows first freed ((r.endpoint.slot - first) ∷ freed) given given (Up r) after
gives_back first freed given r after high rest = record {
  once = λ key.
      rw (
        not_at first key after rest,
        same_key first r.endpoint.slot (r.endpoint.slot - first) key (omega (arith, high)),
        freed_more key
            (r.endpoint.slot - first) freed,
      ) (omega arith);
  taken = rw rest (omega arith);
}

-- it keeps its slot
keeps_slot : (first : ℕ) (freed : List ℕ) (given : ℕ) (r q : Running) → r.endpoint.slot ≡ q.endpoint.slot →
    Follows first freed freed given given (Up r) (Up q)
keeps_slot first freed given r q same = record { once = λ key. rw same refl; taken = refl }

-- it has none
has_none : (first : ℕ) (freed : List ℕ) (given : ℕ) (before after : State) → is_up before ≡ false → is_up after ≡ false →
    Follows first freed freed given given before after
has_none first freed given before after was is = record {
  once = λ key. rw (not_at first key before was, not_at first key after is) refl;
  taken = rw (was, is) refl;
}

-- ---- what RS keeps

kept_slots : (old new : SlotsRecord) (states : List State) (at : ℕ) (after : State) → new.first ≡ old.first → SlotsFit old states →
    at < length states →
    Follows old.first old.freed new.freed old.taken new.taken (get_or states at Down) after → new.taken ≤ 64 →
    SlotsFit new (set states at after)
kept_slots old new states at after same kept within follows few = record {
  once = λ key.
      rw same (omega (arith, kept.once key, follows.once key, sum_by-set (λ s. one (is_at old.first key s)) states at after Down within));
  taken = omega (arith, kept.taken, follows.taken, sum_by-set (λ s. one (is_up s)) states at after Down within);
  few = few;
}

kept_on : (settings : SettingsRecord) (states : List State) (tick now next more : ℕ) (old new : SlotsRecord) (at : ℕ) (after : State)
    → new.first ≡ old.first → IsRs settings states tick next old → at < length states → now ≤ 2 ^ 62 → next ≤ more → more ≤ 2097152 →
    IsState old.first more after
    → Follows old.first old.freed new.freed old.taken new.taken (get_or states at Down) after → new.taken ≤ 64 → new.taken ≤ settings.slots
    → IsRs settings (set states at after) now more new
kept_on settings states tick now next more old new at after same kept within worn le spent here follows few own = record {
  checked = kept.checked;
  count = length-set states at after ∙ kept.count;
  worn = worn;
  some = omega (arith, kept.some, le);
  spent = spent;
  each = λ i l. subst (λ first. IsState first more (get_or (set states at after) i Down)) (sym same) (by_place i l (cases_eq i at));
  fit = kept_slots old new states at after same kept.fit within follows few;
  own = own;
  low = omega (arith, same, kept.low);
  high = omega (arith, same, kept.high);
}
  where
    by_place : (i : ℕ) → i < length (set states at after) → (i ≡ at) ⊎ (i ≢ at) →
        IsState old.first more (get_or (set states at after) i Down)
    by_place i l (inl e) = subst (λ k. IsState old.first more (get_or (set states at after) k Down)) (sym e)
        (subst (IsState old.first more) (sym (get_or-set_same states at after Down within)) here)
    by_place i l (inr other) = subst (IsState old.first more) (sym (get_or-set_other states at i after Down other))
        (stands old.first next more (get_or states i Down) le (kept.each i (subst (λ n. i < n) (length-set states at after) l)))

-- ---- what follows of it

-- the next key is one of the settings' exactly if fewer services are up than there are slots
key_below : (first limit : ℕ) (freed : List ℕ) (given : ℕ) (states : List State) → ((key : ℕ) →
    times_freed key freed + count_by (is_at first key) states ≡ times_taken given key) →
    length freed + up_count states ≡ given → given ≤ limit → (next_of freed given < limit) ↔ (up_count states < limit)
key_below first limit [] given states once taken own = ((λ h. omega (arith, h, taken)), (λ h. omega (arith, h, taken)))
key_below first limit (k ∷ freed) given states once taken own = (
  (λ h. omega (arith, taken, own)),
  (λ h. elim (cases_lt k given) [
    | inl low ↦ omega (arith, low, own)
    | inr high ↦ absurd (omega (arith, once k, not_taken given k high, freed_itself k freed))
  ]),
)

pub next_key_within : (settings : SettingsRecord) (states : List State) (tick next : ℕ) (slots : SlotsRecord) →
    IsRs settings states tick next slots →
    (next_key slots < settings.slots) ↔ (up_count states < settings.slots)
next_key_within settings states tick next slots kept =
    key_below slots.first settings.slots slots.freed slots.taken states kept.fit.once kept.fit.taken kept.own

-- where a service isn't up, there are fewer that are than services
pub fewer_up : (states : List State) (at : ℕ) → at < length states → is_up (get_or states at Down) ≡ false → up_count states < length states
fewer_up states at within rest =
    omega (
      arith,
      was,
      sum_by-set (λ s. one (is_up s)) states at (Up up) Down within,
      count_by-le-length is_up (set states at (Up up)),
      length-set states at (Up up),
    )
  where
    up : Running
    up = record { endpoint = record { generation = 0; slot = 0 }; since = 0; beat = 0; ping = 0; failures = 0 }

    was : one (is_up (get_or states at Down)) ≡ 0
    was = ap one rest

some_up : (states : List State) (at : ℕ) → at < length states → is_up (get_or states at Down) ≡ true → 1 ≤ up_count states
some_up states at within up =
    let is : one (is_up (get_or states at Down)) ≡ 1 = ap one up in
    omega (arith, is, get_or-le-sum_by (λ s. one (is_up s)) states at Down within)

-- no more keys are taken than services may run at once
taking_few : (settings : SettingsRecord) (states : List State) (tick next : ℕ) (slots : SlotsRecord) (at : ℕ) →
    IsRs settings states tick next slots → at < length states →
    is_up (get_or states at Down) ≡ false → (next_taken slots.first slots.freed slots.taken).taken ≤ 64
taking_few settings states tick next slots at kept within rest = by slots.freed kept.fit.taken
  where
    by : (freed : List ℕ) → length freed + up_count states ≡ slots.taken → (next_taken slots.first freed slots.taken).taken ≤ 64
    by [] taken = omega (arith, taken, fewer_up states at within rest, kept.count, kept.checked.count)
    by (k ∷ freed) taken = kept.fit.few

-- nor more than the settings have slots
taking_own : (settings : SettingsRecord) (states : List State) (tick next : ℕ) (slots : SlotsRecord) →
    IsRs settings states tick next slots →
    up_count states < settings.slots → (next_taken slots.first slots.freed slots.taken).taken ≤ settings.slots
taking_own settings states tick next slots kept free = by slots.freed kept.fit.taken
  where
    by : (freed : List ℕ) → length freed + up_count states ≡ slots.taken → (next_taken slots.first freed slots.taken).taken ≤ settings.slots
    by [] taken = omega (arith, taken, free)
    by (k ∷ freed) taken = kept.own

-- no instance runs in the next slot
not_counted : (first key : ℕ) (states : List State) (i : ℕ) → i < length states → count_by (is_at first key) states ≤ 0 →
    IsNotAt first key (get_or states i Down)
not_counted first key states i l none =
    apart (get_or states i Down) (is_none (is_at first key (get_or states i Down))
    (omega (arith, none, get_or-le-sum_by (λ s. one (is_at first key s)) states i Down l)))
  where
    apart : (state : State) → is_at first key state ≡ false → IsNotAt first key state
    apart (Up r) h = λ (e : r.endpoint.slot ≡ first + key). differ (eq-eqb r.endpoint.slot (first + key) e) h
      where
        differ : (r.endpoint.slot == (first + key)) ≡ true → (r.endpoint.slot == (first + key)) ≡ false → ⊥
        differ p q = cc
    apart (Waiting p) h = tt
    apart Down h = tt
    apart GaveUp h = tt

pub next_key_free : (slots : SlotsRecord) (states : List State) → SlotsFit slots states → (i : ℕ) → i < length states →
    IsNotAt slots.first (next_key slots) (get_or states i Down)
next_key_free slots states kept i l = not_counted slots.first (next_key slots) states i l (by slots.freed kept.once)
  where
    by : (freed : List ℕ) → ((key : ℕ) → times_freed key freed + count_by (is_at slots.first key) states ≡ times_taken slots.taken key) →
        count_by (is_at slots.first (next_of freed slots.taken)) states ≤ 0
    by [] once = omega (arith, once slots.taken, not_taken slots.taken slots.taken (omega arith))
    by (k ∷ freed) once = omega (arith, once k, at_most_one slots.taken k, freed_itself k freed)

-- no two instances run in one slot
counted_twice : (first key : ℕ) (states : List State) (i j : ℕ) → i < j → j < length states →
    is_at first key (get_or states i Down) ≡ true →
    is_at first key (get_or states j Down) ≡ true → 2 ≤ count_by (is_at first key) states
counted_twice first key states i j below l p q =
    let without = set states i Down in
    let here : one (is_at first key (get_or states i Down)) ≡ 1 = ap one p in
    let second : one (is_at first key (get_or without j Down)) ≡ 1 =
    ap one (ap (is_at first key) (get_or-set_other states i j Down Down apart) ∙ q) in
    omega (
      arith,
      here,
      second,
      sum_by-set (λ s. one (is_at first key s)) states i Down Down (omega (arith, below, l)),
      get_or-le-sum_by (λ s. one (is_at first key s)) without j Down (omega (arith, l, length-set states i Down)),
    )
  where
    apart : j ≢ i
    apart e = omega (arith, e, below)

pub two_slots : (next : ℕ) (slots : SlotsRecord) (states : List State) → SlotsFit slots states → ((i : ℕ) → i < length states →
    IsState slots.first next (get_or states i Down)) →
    (i j : ℕ) → i < j → j < length states → HaveTwoSlots (get_or states i Down) (get_or states j Down)
two_slots next slots states kept each i j below l = by (get_or states i Down) refl (get_or states j Down) refl
  where
    first : ℕ
    first = slots.first

    by : (a : State) → get_or states i Down ≡ a → (b : State) → get_or states j Down ≡ b → HaveTwoSlots a b
    by (Up r) e (Up q) f = λ (same : r.endpoint.slot ≡ q.endpoint.slot).
        let high : first ≤ r.endpoint.slot = (subst (IsState first next) e (each i (omega (arith, below, l)))).slot in
        let key = r.endpoint.slot - first in
        let here : is_at first key (get_or states i Down) ≡ true =
        ap (is_at first key) e ∙ eq-eqb r.endpoint.slot (first + key) (omega (arith, high)) in
        let there : is_at first key (get_or states j Down) ≡ true =
        ap (is_at first key) f ∙ eq-eqb q.endpoint.slot (first + key) (omega (arith, high, same)) in
        omega (arith, kept.once key, at_most_one slots.taken key, counted_twice first key states i j below l here there)
    by a e b f = tt

pub pause_long : (k : ℕ) → 6 ≤ k → pause k ≡ 32
pause_long k h =
    let e : 2 ^ 5 ≤ 2 ^ (k - 1) = pow_mono {i = 5} {j = k - 1} (omega arith) in
    omega arith

-- ---- what is done to a service that is up, or isn't

-- what the instance of a service that is up keeps
pub up_keeps : (settings : SettingsRecord) (states : List State) (tick next : ℕ) (slots : SlotsRecord) (at : ℕ) (r : Running) →
    IsRs settings states tick next slots → at < length states → get_or states at Down ≡ Up r → IsRunning slots.first next r
up_keeps settings states tick next slots at r kept within e = subst (IsState slots.first next) e (kept.each at within)

-- there is room for the key of its slot
pub stop_has_room : (settings : SettingsRecord) (states : List State) (tick next : ℕ) (slots : SlotsRecord) (at : ℕ) →
    IsRs settings states tick next slots → at < length states →
    is_up (get_or states at Down) ≡ true → length slots.freed < 64
stop_has_room settings states tick next slots at kept within up =
    omega (arith, kept.fit.taken, kept.fit.few, some_up states at within up)

-- the first slot stays
taking_first : (first : ℕ) (freed : List ℕ) (given : ℕ) → (next_taken first freed given).first ≡ first
taking_first first [] given = refl
taking_first first (k ∷ freed) given = refl

-- a service is started in the next slot
pub kept_by_start : (settings : SettingsRecord) (states : List State) (tick now next : ℕ) (slots : SlotsRecord) (at : ℕ) (r : Running) →
    IsRs settings states tick next slots → at < length states → now ≤ 2 ^ 62 → next ≤ 2097151 →
    up_count states < settings.slots → is_up (get_or states at Down) ≡ false → IsRunning slots.first (next + 1) r →
    r.endpoint.slot ≡ slots.first + next_key slots → IsRs settings (set states at (Up r)) now (next + 1) (with_next_taken slots)
kept_by_start settings states tick now next slots at r kept within worn left free rest here slot =
    kept_on settings states tick now next (next + 1) slots (with_next_taken slots) at (Up r)
    (taking_first slots.first slots.freed slots.taken) kept within worn (omega arith) (omega (arith, left)) here
    (takes_next slots.first slots.freed slots.taken (get_or states at Down) r rest slot)
    (taking_few settings states tick next slots at kept within rest) (taking_own settings states tick next slots kept free)

-- its instance is stopped
pub kept_by_stop : (settings : SettingsRecord) (states : List State) (tick now next : ℕ) (slots : SlotsRecord) (at : ℕ) (r : Running)
    (after : State) → IsRs settings states tick next slots → at < length states → now ≤ 2 ^ 62 →
    get_or states at Down ≡ Up r → IsAtRest after →
    IsRs settings (set states at after) now next (with_freed slots (r.endpoint.slot - slots.first))
kept_by_stop settings states tick now next slots at r after kept within worn up rest =
    let key = r.endpoint.slot - slots.first in
    kept_on settings states tick now next next slots (with_freed slots key) at after refl kept within worn (omega arith) kept.spent
    (at_rest slots.first next after rest)
    (subst (λ (z : State). Follows slots.first slots.freed (key ∷ slots.freed) slots.taken slots.taken z after) (sym up)
    (gives_back slots.first slots.freed slots.taken r after (up_keeps settings states tick next slots at r kept within up).slot
    (rest_not_up after rest)))
    kept.fit.few kept.own

-- its instance continues, or another one runs in the same slot
pub kept_by_change : (settings : SettingsRecord) (states : List State) (tick now next more : ℕ) (slots : SlotsRecord) (at : ℕ)
    (r q : Running) →
    IsRs settings states tick next slots → at < length states → now ≤ 2 ^ 62 → next ≤ more → more ≤ 2097152 →
    get_or states at Down ≡ Up r → IsRunning slots.first more q → r.endpoint.slot ≡ q.endpoint.slot →
    IsRs settings (set states at (Up q)) now more slots
kept_by_change settings states tick now next more slots at r q kept within worn le spent up here same =
    kept_on settings states tick now next more slots slots at (Up q) refl kept within worn le spent here
    (subst (λ (z : State). Follows slots.first slots.freed slots.freed slots.taken slots.taken z (Up q)) (sym up)
    (keeps_slot slots.first slots.freed slots.taken r q same))
    kept.fit.few kept.own

-- a service that isn't up is left so
pub kept_at_rest : (settings : SettingsRecord) (states : List State) (tick now next : ℕ) (slots : SlotsRecord) (at : ℕ) (after : State) →
    IsRs settings states tick next slots → at < length states → now ≤ 2 ^ 62 →
    is_up (get_or states at Down) ≡ false → IsAtRest after → IsRs settings (set states at after) now next slots
kept_at_rest settings states tick now next slots at after kept within worn was rest =
    kept_on settings states tick now next next slots slots at after refl kept within worn (omega arith) kept.spent
    (at_rest slots.first next after rest)
    (has_none slots.first slots.freed slots.taken (get_or states at Down) after was (rest_not_up after rest))
    kept.fit.few kept.own
