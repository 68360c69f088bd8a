-- The rule holds of a new table, and what it says of a table that is closed.
use Rattle.std.proofs.Common.{◌≡◌, ℕ, zero, suc, ◌+◌, ◌*◌, ◌^◌, ◌≤◌, ◌<◌, Bool, true, false, true≢false, List, [], ◌∷◌, length, get_or}
use Rattle.std.proofs.Common.{replicate}
use Rattle.std.proofs.Common.{refl, ap, sym, ◌∙◌, subst, arith, add-one, cond, set, length-set, get_or-set_same, get_or-set_other, Option}
use Rattle.std.proofs.Common.{Some, None}
use Rattle.std.specs.Prelude.{IfSome, slice_index}
use Rattle.std.specs.Int.{bit_at}
use Rattle.std.specs.List.{AllByRecursion}
use mathlib.Core.Logic.{dite}
use native.Mathlib.Decide.{ℕ_discrete}
use mathlib.Core.Option as maybe
use mathlib.Core.Option.{none, some, some-injective, some-ne-none}
use lib.ListN.{get_elem?}
use Rattle.atomic_table.specs.Table.{Final, opening as opening_state, Seen, State}
use Rattle.history.specs.declared.entry.Entry.{Entry}
use Rattle.desk_rule.specs.declared.view.PassLog.{PassLog}
use Rattle.desk_rule.specs.declared.view.View.{View}
use Rattle.desk_rule.specs.declared.table.Home.{Home}
use Rattle.desk_rule.specs.declared.table.LastCall.{LastCall}
use Rattle.desk_rule.specs.declared.notice.Notice.{Notice}
use Rattle.desk_rule.specs.History.{total_of, weigh_all}
use Rattle.desk_rule.specs.Notices.{pending_after, raised_at, raised_by, taken_at, taken_by, weigh_notices}
use Rattle.desk_rule.specs.Passes.{fresh}
use Rattle.desk_rule.specs.Rule.{IsAtHome, notice_weight_of, opening_view, pass_count, RuleHolds, weight_of}
use Rattle.desk_rule.specs.Seat.{IsClosed}
use Rattle.desk_rule.proofs.ListLemmas.{all_map, prefix_nil, total_only, total_part}
use Rattle.desk_rule.proofs.OrderLemmas.{order_balanced}
use Rattle.desk_rule.proofs.RuleLemmas.{calls_short, Own, Rule, Sits}
use Rattle.desk_rule.proofs.SeatLemmas.{fresh_differ, length_fresh, weigh_fresh, weigh_fresh_notices}

module _ {M C R : Type 0} (steps : M → C → R → M → Type 0) (owes : R → ℕ) (opening : M) (first passes : ℕ) where
  abbrev V : Type 0
  V = View M C R

  abbrev S : Type 0
  S = Option (Home M C R)

  abbrev Holds : State S V → Type 0
  Holds = Rule steps owes opening first passes

  fresh_own : (n : ℕ) → n ≤ passes → AllByRecursion (Own steps owes opening first passes [] [] (λ _. 0) 0) (fresh n)
  fresh_own zero le = tt
  fresh_own (suc n) le = ((refl, refl, refl, omega arith), fresh_own n (omega arith))

  some_same : (m : M) → let t : Option M = Some opening in t ≡ Some m → m ≡ opening
  some_same m e = cc

  only_view : (v u : V) (j : ℕ) (F : ℕ → V → Type 0) → F 0 v → get_elem? (v ∷ []) j ≡ some u → F j u
  only_view v u zero F here e = subst (λ x. F 0 x) (some-injective v u e) here
  only_view v u (suc j) F here e = absurd (some-ne-none u (sym e))

  holds_at_first : (l : Option (LastCall C R)) (words : List ℕ) → length words ≡ 17 → get_or words 0 0 ≡ 2 * first →
      ((k : ℕ) → k < 16 → get_or words (k + 1) 0 ≡ 0) → first ≤ 2 ^ 62
      → Holds (opening_state words (Some record { machine = opening; last = l } ∷ []) (opening_view opening first passes))
  holds_at_first l words long word zeros small = record {
    history = [];
    order = [];
    machine = opening;
    turn = none;
    seat_of = λ _. 0;
    wide = long;
    word = word ∙ omega arith;
    room = omega arith;
    legal = refl;
    home = (l, refl);
    holder = λ j never. absurd (some-ne-none j (sym never));
    all_passes = let h = length_fresh C R passes in omega arith;
    all_calls = λ weigh. (let e = weigh_fresh C R weigh passes in omega arith);
    all_notices = λ weigh. (let e = weigh_fresh_notices C R weigh passes in omega arith);
    found = tt;
    pending = zeros;
    owed = tt;
    eight_bits = λ k below. subst (λ n. n < 256) (sym (zeros k below)) (omega arith);
    seated = λ j u e. only_view (opening_view opening first passes) u j (Sits steps owes opening first passes [] [] none (λ _. 0))
        (record {
          opened = λ m e. (some_same m e, refl);
          seen = prefix_nil [];
          told = prefix_nil [];
          holds = λ no. absurd (true≢false (sym no));
          notices = prefix_nil [];
          told_notices = prefix_nil [];
          own = fresh_own passes (omega arith);
          differ = fresh_differ C R passes;
          few = λ t b.
              (let none = weigh_fresh_notices C R (raised_at t b) passes in omega arith);
        }) e;
  }

  -- the passes of a view that holds the turn
  held_passes : V → ℕ
  held_passes v = cond v.holding (length v.passes) 0

  no_calls : (weigh : Entry C R → ℕ) (l : List (PassLog C R)) → length l ≡ 0 → weigh_all weigh l ≡ 0
  no_calls weigh [] e = refl
  no_calls weigh (x ∷ xs) e = absurd (omega arith)

  no_notices : (weigh : Notice → ℕ) (l : List (PassLog C R)) → length l ≡ 0 → weigh_notices weigh l ≡ 0
  no_notices weigh [] e = refl
  no_notices weigh (x ∷ xs) e = absurd (omega arith)

  none_held : (v : V) → length v.passes ≡ 0 → held_passes v ≡ 0
  unfolding held_passes
  none_held v e = go v.holding
    where
      go : (b : Bool) → cond b (length v.passes) 0 ≡ 0
      go true = e
      go false = refl

  -- if the one seat with all passes doesn't hold the turn, nobody does
  nobody_holds : (s : State S V) (r : Holds s) (id : ℕ) (v : V) → get_elem? s.views id ≡ some v → v.holding ≡ false →
      length v.passes ≡ passes → (turn : maybe.Option ℕ) → r.turn ≡ turn → turn ≡ none
  unfolding held_passes
  nobody_holds s r id v at free all none is = refl
  nobody_holds s r id v at free all (some j) is =
      let h = r.holder j is in
      let only = total_only pass_count held_passes s.views id v at (r.all_passes ∙ sym all) (λ i u _ e. none_held u e) in
      let own : held_passes v ≡ 0 = ap (λ b. cond b (length v.passes) 0) free in
      let part = total_part held_passes s.views j h.0 h.1 in
      let theirs : held_passes h.0 ≡ length h.0.passes = ap (λ b. cond b (length h.0.passes) 0) h.2 in
      let some_pass = h.3 in
      absurd (omega arith)

  all_here : (s : State S V) (r : Holds s) (id : ℕ) (v : V) → get_elem? s.views id ≡ some v → passes ≤ length v.passes →
      length v.passes ≡ passes
  all_here s r id v at enough = let part = total_part pass_count s.views id v at in let all = r.all_passes in omega arith

  -- if all passes sit at one seat, its notices are all notices
  all_its_notices : (s : State S V) (r : Holds s) (id : ℕ) (v : V) → get_elem? s.views id ≡ some v → passes ≤ length v.passes →
      (weigh : Notice → ℕ) → total_of weigh r.order ≡ weigh_notices weigh v.passes
  all_its_notices s r id v at enough weigh =
      let all : total_of pass_count s.views ≡ pass_count v = r.all_passes ∙ sym (all_here s r id v at enough) in
      sym (r.all_notices weigh) ∙ total_only pass_count (notice_weight_of weigh) s.views id v at all
      (λ j u _ e. no_notices weigh u.passes e)

  pub notices_at_end : (s : State S V) (r : Holds s) (id : ℕ) (v : V) → get_elem? s.views id ≡ some v → passes ≤ length v.passes →
      (t b : ℕ) → t < 16
      → (raised_by v.passes t b ≡ taken_by v.passes t b + bit_at (get_or s.words (t + 1) 0) b) × (raised_by v.passes t b ≤ 2 ^ 62)
  notices_at_end s r id v at enough t b small =
      let raised = all_its_notices s r id v at enough (raised_at t b) in
      let taken = all_its_notices s r id v at enough (taken_at t b) in
      let e = order_balanced r.order t b r.found in
      let word : bit_at (get_or s.words (t + 1) 0) b ≡ bit_at (pending_after r.order t) b = ap (λ x. bit_at x b) (r.pending t small) in
      let few = (r.seated id v at).few t b in let short = calls_short steps owes opening first passes s r id v at in let room = r.room in
      (omega arith, omega arith)

  -- if all passes sit at one seat, the machine is in the slot
  pub machine_at_end : (s : State S V) (r : Holds s) (id : ℕ) (v : V) → get_elem? s.views id ≡ some v → v.holding ≡ false →
      passes ≤ length v.passes
      → (words : List ℕ) → ((t : ℕ) → t < 16 → slice_index words t ≡ get_or s.words (t + 1) 0)
      → (h : Home M C R) × (s.homes ≡ some (Some h) ∷ []) × IsClosed steps owes opening first v h.machine words
  machine_at_end s r id v at free enough words same =
      let all = all_here s r id v at enough in
      let turn : r.turn ≡ none = nobody_holds s r id v at free all r.turn refl in
      let home : IsAtHome r.machine s.homes none = subst (λ t. IsAtHome r.machine s.homes t) turn r.home in
      let f = r.seated id v at in (
        record { machine = r.machine; last = home.0 },
        home.1,
        record {
          history = r.history;
          legal = r.legal;
          seen = f.seen;
          own = all_map _ _ (λ p h. h.0) v.passes f.own;
          no_others = λ weigh. sym (r.all_calls weigh) ∙
              total_only pass_count (weight_of weigh) s.views id v at (r.all_passes ∙ sym all) (λ j u _ e. no_calls weigh u.passes e);
          order = r.order;
          found = r.found;
          owed = r.owed;
          left = λ t small. same t small ∙ r.pending t small;
          notices = f.notices;
          own_notices = all_map _ _ (λ p h. h.1) v.passes f.own;
          no_other_notices = all_its_notices s r id v at enough;
        },
      )

  -- the same for what is left of the table
  pub final_machine : (words pending : List ℕ) (slots : List S) (id : ℕ) (v : V) (slot : S) → Final (Seen Holds id v) words slots →
      v.holding ≡ false → passes ≤ length v.passes → get_elem? slots 0 ≡ some slot
      → ((t : ℕ) → t < 16 → slice_index pending t ≡ slice_index words (t + 1)) →
      (h : Home M C R) × (slot ≡ Some h) × IsClosed steps owes opening first v h.machine pending
  final_machine words pending slots id v slot final free enough at same =
      let e = machine_at_end final.0 final.1.0 id v final.1.1 free enough pending
      (λ t small. same t small ∙ ap (λ l. slice_index l (t + 1)) (sym final.2)) in
      (e.0, some-injective slot (Some e.0) (sym at ∙ final.4 0 (Some e.0) (ap (λ l. get_elem? l 0) e.1)), e.2)

  pub final_notices : (words : List ℕ) (slots : List S) (id : ℕ) (v : V) → Final (Seen Holds id v) words slots → passes ≤ length v.passes →
      (t b : ℕ) → t < 16
      → (raised_by v.passes t b ≡ taken_by v.passes t b + bit_at (slice_index words (t + 1)) b) × (raised_by v.passes t b ≤ 2 ^ 62)
  final_notices words slots id v final enough t b small =
      subst (λ l. (raised_by v.passes t b ≡ taken_by v.passes t b + bit_at (slice_index l (t + 1)) b) × (raised_by v.passes t b ≤ 2 ^ 62))
      final.2
      (notices_at_end final.0 final.1.0 id v final.1.1 enough t b small)

pub new_holds : {M C R : Type 0} (steps : M → C → R → M → Type 0) (owes : R → ℕ) (opening m : M) (l : Option (LastCall C R))
    (first passes : ℕ) (words : List ℕ) (slots : List (Option (Home M C R))) → opening ≡ m
    → slots ≡ Some record { machine = m; last = l } ∷ [] → length words ≡ 17 → get_or words 0 0 ≡ 2 * first →
    ((k : ℕ) → k < 16 → get_or words (k + 1) 0 ≡ 0) → first ≤ 2 ^ 62
    → RuleHolds steps owes opening first passes (opening_state words slots (opening_view opening first passes))
new_holds {M} {C} {R} steps owes opening m l first passes words slots same is long word zeros small =
    subst (λ (s : List (Option (Home M C R))).
    RuleHolds steps owes opening first passes (opening_state words s (opening_view opening first passes)))
    (sym (is ∙ (λ i. Some record { machine = sym same i; last = l } ∷ [])))
    (holds_at_first steps owes opening first passes l words long word zeros small)

pub zero_at : (n k : ℕ) → let z : ℕ = 0 in get_or (replicate n z) k z ≡ z
zero_at zero k = refl
zero_at (suc n) zero = refl
zero_at (suc n) (suc k) = zero_at n k

pub no_bits : (x k : ℕ) → let z : ℕ = 0 in get_or (x ∷ replicate 16 z) (k + 1) z ≡ z
no_bits x k = let z : ℕ = 0 in ap (λ j. get_or (x ∷ replicate 16 z) j z) (add-one k) ∙ zero_at 16 k

pub at_index : (l : List ℕ) (k x : ℕ) → get_elem? l k ≡ some x → slice_index l k ≡ x
at_index [] k x e = absurd (some-ne-none x (sym e))
at_index (y ∷ ys) zero x e = some-injective y x e
at_index (y ∷ ys) (suc k) x e = at_index ys k x e

-- one more pending word is read
pub words_more : (words pending : List ℕ) (n n' word : ℕ) → n < 16 → n' ≡ n + 1 → length pending ≡ 16 →
    get_elem? words (n + 1) ≡ some word → ((s : ℕ) → s < n → slice_index pending s ≡ slice_index words (s + 1))
    → (length (set pending n word) ≡ 16) × ((s : ℕ) → s < n' → slice_index (set pending n word) s ≡ slice_index words (s + 1))
words_more words pending n n' word small next long at read = (
  length-set pending n word ∙ long,
  λ s below. dite (ℕ_discrete s n)
      (λ here. ap (λ k. get_or (set pending n word) k 0) here ∙
      (get_or-set_same pending n word 0 (omega arith) ∙
      (sym (at_index words (n + 1) word at) ∙ ap (λ k. slice_index words (k + 1)) (sym here))))
      (λ other. get_or-set_other pending n s word 0 (λ e. other (omega arith)) ∙ read s (omega arith)),
)

-- the machine from the slot
pub closed_machine : {M C R : Type 0} (steps : M → C → R → M → Type 0) (owes : R → ℕ) (opening : M) (first : ℕ) (v : View M C R)
    (slot : Option (Home M C R)) (m : M)
    (pending : List ℕ) → ((h : Home M C R) × (slot ≡ Some h) × IsClosed steps owes opening first v h.machine pending)
    → IfSome slot (λ h. m ≡ h.machine) → IsClosed steps owes opening first v m pending
closed_machine steps owes opening first v (Some k) m pending e is = let same : e.0 ≡ k = cc in
    subst (λ x. IsClosed steps owes opening first v x pending) (ap (λ h. h.machine) same ∙ sym is) e.2
closed_machine steps owes opening first v None m pending e is = absurd (cc)

pub some_is : {A : Type 0} (x : Option A) (a : A) → x ≡ Some a → Rattle.std.specs.Prelude.is_some x ≡ true
some_is x a e = ap Rattle.std.specs.Prelude.is_some e

pub none_of_some : {A : Type 0} (x : Option A) → Rattle.std.specs.Prelude.is_some x ≡ true → x ≡ None → ⊥
none_of_some (Some a) e n = cc
none_of_some None e n = cc
