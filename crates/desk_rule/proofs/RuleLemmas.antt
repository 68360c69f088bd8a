-- Parts of the rule that every kind of step needs.
use Rattle.std.proofs.Common.{◌≡◌, ◌≢◌, ⊎_elim, ℕ, ◌+◌, ◌^◌, ◌≤◌, ◌<◌, ◌==◌, Bool, true, List, [], ◌∷◌, ◌++◌, length, set, get_or, refl, ap}
use Rattle.std.proofs.Common.{sym, ◌∙◌, subst, arith, cond, eq-eqb, ne_eqb, Option}
use Rattle.std.proofs.lemmas.List.{append-nil, set-get_or}
use Rattle.std.proofs.lemmas.List.Elements.{filter-append}
use Rattle.std.specs.List.{AllByRecursion}
use mathlib.Core.Logic.{dite}
use mathlib.Core.Option as maybe
use mathlib.Core.Option.{none, some, some-injective}
use native.Mathlib.Decide.{ℕ_discrete}
use lib.ListN.{get_elem?}
use Rattle.atomic_table.specs.Table.{State}
use Rattle.atomic_table.proofs.Lists.{at_set, at_longer, set_here, set_else}
use Rattle.history.specs.declared.entry.Entry.{Entry}
use Rattle.desk_rule.specs.declared.notice.Notice.{Notice}
use Rattle.desk_rule.specs.declared.view.PassLog.{PassLog}
use Rattle.desk_rule.specs.declared.view.View.{View}
use Rattle.desk_rule.specs.declared.table.Home.{Home}
use Rattle.history.specs.History.{calls_by, entry, Run}
use Rattle.desk_rule.specs.History.{count_calls, total_of, weigh_all}
use Rattle.desk_rule.specs.Notices.{IsActOwed, IsOwed, notices_by, weigh_notices}
use Rattle.desk_rule.specs.declared.notice.Act.{Act}
use Rattle.desk_rule.specs.declared.notice.Act.TheVariants.{Post, Take}
use Rattle.desk_rule.specs.Passes.{add_call, add_notice, AreDifferent}
use Rattle.desk_rule.specs.Rule.{notice_weight_of, pass_count, RuleHolds, Seated, turn_bit, weight_of}
use Rattle.desk_rule.specs.Kinds.{after_look, Looks}
use Rattle.desk_rule.proofs.ListLemmas.{all_append, all_map, at_inside, prefix_nil, prefix_refl, total_append, total_part, total_set}

turn_bit_small : (turn : maybe.Option ℕ) → turn_bit turn ≤ 1
turn_bit_small none = omega arith
turn_bit_small (some j) = omega arith

pub count_ones : {A : Type 0} (l : List A) → total_of (λ _. 1) l ≡ length l
count_ones [] = refl
count_ones (x ∷ xs) = let rest = count_ones xs in omega arith

module _ {C R : Type 0} where
  pub calls_by_own : (history : List (Entry C R)) (n : ℕ) (c : C) (r : R) →
      calls_by n (history ++ entry n c r ∷ []) ≡ calls_by n history ++ entry n c r ∷ []
  calls_by_own history n c r = filter-append (λ (e : Entry C R). e.pass == n) history (entry n c r ∷ []) ∙
      ap (λ b. calls_by n history ++ cond b (entry n c r ∷ []) []) (eq-eqb n n refl)

  pub calls_by_other : (history : List (Entry C R)) (n k : ℕ) (c : C) (r : R) → n ≢ k →
      calls_by k (history ++ entry n c r ∷ []) ≡ calls_by k history
  calls_by_other history n k c r other = filter-append (λ (e : Entry C R). e.pass == k) history (entry n c r ∷ [])
      ∙ (ap (λ b. calls_by k history ++ cond b (entry n c r ∷ []) []) (ne_eqb n k other) ∙ append-nil (calls_by k history))

  -- one more call of the one pass
  pub one_call_more : (passes : List (PassLog C R)) (p : PassLog C R) (e : Entry C R) (weigh : Entry C R → ℕ) → passes ≡ p ∷ [] →
      weigh_all weigh (add_call passes e) ≡ weigh_all weigh passes + weigh e
  one_call_more passes p e weigh one =
      let before : weigh_all weigh passes ≡ total_of weigh p.calls + 0 = ap (weigh_all weigh) one in
      let after : weigh_all weigh (add_call passes e) ≡ total_of weigh (p.calls ++ e ∷ []) + 0 =
      ap (λ l. weigh_all weigh (add_call l e)) one in
      let all = total_append weigh p.calls (e ∷ []) in omega arith

  pub no_notice_more : (passes : List (PassLog C R)) (e : Entry C R) (weigh : Notice → ℕ) →
      weigh_notices weigh (add_call passes e) ≡ weigh_notices weigh passes
  no_notice_more [] e weigh = refl
  no_notice_more (p ∷ others) e weigh = refl

  -- one more notice of the first pass
  pub one_notice_more : (passes : List (PassLog C R)) (n : Notice) (weigh : Notice → ℕ) → 0 < length passes →
      weigh_notices weigh (add_notice passes n) ≡ weigh_notices weigh passes + weigh n
  one_notice_more [] n weigh some_pass = absurd (omega arith)
  one_notice_more (p ∷ others) n weigh some_pass = let all = total_append weigh p.notices (n ∷ []) in omega arith

  pub same_length : (passes : List (PassLog C R)) (n : Notice) → length (add_notice passes n) ≡ length passes
  same_length [] n = refl
  same_length (p ∷ others) n = refl

  -- numbers still differ with one more call or notice
  pub differ_called : (passes : List (PassLog C R)) (e : Entry C R) → AreDifferent passes → AreDifferent (add_call passes e)
  differ_called [] e d = d
  differ_called (p ∷ others) e d = d

  pub differ_noticed : (passes : List (PassLog C R)) (n : Notice) → AreDifferent passes → AreDifferent (add_notice passes n)
  differ_noticed [] n d = d
  differ_noticed (p ∷ others) n d = d

  pub differ_append : (l m : List (PassLog C R)) → AreDifferent l → AreDifferent m →
      AllByRecursion (λ (p : PassLog C R). AllByRecursion (λ (q : PassLog C R). q.pass ≢ p.pass) m) l → AreDifferent (l ++ m)
  differ_append [] m d e apart = e
  differ_append (p ∷ l) m d e apart = (all_append (λ (q : PassLog C R). q.pass ≢ p.pass) l m d.0 apart.0, differ_append l m d.1 e apart.1)

  pub no_call_more : (passes : List (PassLog C R)) (n : Notice) (weigh : Entry C R → ℕ) →
      weigh_all weigh (add_notice passes n) ≡ weigh_all weigh passes
  no_call_more [] n weigh = refl
  no_call_more (p ∷ others) n weigh = refl

  -- a post that is owed stays owed while the history grows
  pub owed_still : (owes : R → ℕ) (first : ℕ) (history more : List (Entry C R)) (ns : List Notice) →
      AllByRecursion (IsOwed owes first history) ns → AllByRecursion (IsOwed owes first (history ++ more)) ns
  owed_still owes first history more ns all =
      all_map (IsOwed owes first history) (IsOwed owes first (history ++ more)) (λ n o. still n.pass n.server n.act o) ns all
    where
      still : (pass server : ℕ) (act : Act) → IsActOwed owes first history pass server act →
          IsActOwed owes first (history ++ more) pass server act
      still pass server (Post bits place) o = (o.0, o.1, at_longer history more o.0 o.1 o.2, o.3, o.4, o.5)
      still pass server Take o = tt

pub notices_by_own : (order : List Notice) (n : Notice) → notices_by n.pass (order ++ n ∷ []) ≡ notices_by n.pass order ++ n ∷ []
notices_by_own order n = filter-append (λ (k : Notice). k.pass == n.pass) order (n ∷ []) ∙
    ap (λ b. notices_by n.pass order ++ cond b (n ∷ []) []) (eq-eqb n.pass n.pass refl)

pub notices_by_other : (order : List Notice) (n : Notice) (k : ℕ) → n.pass ≢ k → notices_by k (order ++ n ∷ []) ≡ notices_by k order
notices_by_other order n k other = filter-append (λ (m : Notice). m.pass == k) order (n ∷ [])
    ∙ (ap (λ b. notices_by k order ++ cond b (n ∷ []) []) (ne_eqb n.pass k other) ∙ append-nil (notices_by k order))

module _ {M C R : Type 0} (steps : M → C → R → M → Type 0) (owes : R → ℕ) (opening : M) (first passes : ℕ) where
  abbrev pub Seen : Type 0
  Seen = View M C R

  abbrev pub Slot : Type 0
  Slot = Option (Home M C R)

  abbrev pub Rule : State Slot Seen → Type 0
  Rule = RuleHolds steps owes opening first passes

  abbrev pub Sits : List (Entry C R) → List Notice → maybe.Option ℕ → (ℕ → ℕ) → ℕ → Seen → Type 0
  Sits history order turn seat_of j v = Seated opening first history order turn seat_of passes j v

  -- a pass with its own entries and notices, at its seat
  abbrev pub Own : List (Entry C R) → List Notice → (ℕ → ℕ) → ℕ → PassLog C R → Type 0
  Own history order seat_of j p = (calls_by p.pass history ≡ p.calls) × (notices_by p.pass order ≡ p.notices) × (seat_of p.pass ≡ j) ×
      (p.pass < passes)

  abbrev pub word_0 : State Slot Seen → ℕ
  word_0 s = get_or s.words 0 0

  -- a fact of each view, when one view changes
  pub all_views : (F : ℕ → Seen → Type 0) (views : List Seen) (i : ℕ) (w : Seen) → F i w →
      ((j : ℕ) (u : Seen) → j ≢ i → get_elem? views j ≡ some u → F j u)
      → (j : ℕ) (u : Seen) → get_elem? (set views i w) j ≡ some u → F j u
  all_views F views i w here others j u e = ⊎_elim
      (λ (x : (j ≡ i) × (w ≡ u)). subst (λ (y : ℕ × Seen). F y.0 y.1) (λ k. (sym x.0 k, x.1 k)) here)
      (λ (x : (j ≢ i) × (get_elem? views j ≡ some u)). others j u x.0 x.1) (at_set views i j w u e)

  pub word_small : (s : State Slot Seen) (r : Rule s) → word_0 s ≤ 2 ^ 63
  word_small s r = let n : ℕ = length r.history in let b : ℕ = turn_bit r.turn in let room = r.room in let word = r.word in omega arith

  pub word_same : (s : State Slot Seen) → set s.words 0 (word_0 s) ≡ s.words
  word_same s = set-get_or s.words 0 0

  -- a seat's passes called no more often than all passes
  pub calls_short : (s : State Slot Seen) (r : Rule s) (id : ℕ) (v : Seen) → get_elem? s.views id ≡ some v →
      count_calls v.passes ≤ length r.history
  calls_short s r id v at = let part = total_part (weight_of (λ _. 1)) s.views id v at in let all = r.all_calls (λ _. 1) in let ones =
      count_ones r.history in omega arith

  -- a seat that has seen the whole history and all notices
  pub sits_looked : (history : List (Entry C R)) (order : List Notice) (turn : maybe.Option ℕ) (seat_of : ℕ → ℕ) (j : ℕ) (v : Seen)
      (holding : Bool) → Sits history order turn seat_of j v → (holding ≡ true → turn ≡ some j)
      → Sits history order turn seat_of j (after_look v holding history order)
  sits_looked history order turn seat_of j v holding f held = record {
    opened = f.opened;
    seen = prefix_refl history;
    told = prefix_nil history;
    holds = λ e. (held e, refl);
    notices = prefix_refl order;
    told_notices = prefix_nil order;
    own = f.own;
    differ = f.differ;
    few = f.few;
  }

  -- what a load of word 0 tells it
  pub looked : (s : State Slot Seen) (r : Rule s) (id : ℕ) (v : Seen) (holding : Bool) → get_elem? s.views id ≡ some v →
      Looks steps v (word_0 s) holding (after_look v holding r.history r.order)
  looked s r id v holding at =
      let f = r.seated id v at in let small = turn_bit_small r.turn in let word = r.word in record {
        is = refl;
        seen = f.seen;
        told = f.told;
        place = λ m e. (let k : v.first ≡ first = (f.opened m e).1 in let n : ℕ = length r.history in omega arith);
        legal = λ m e. (r.machine, subst (λ (y : M). Run steps y r.history r.machine) (sym (f.opened m e).0) r.legal);
        own = all_map _ _ (λ p h. h.0) v.passes f.own;
        few = f.few;
        short = calls_short s r id v at;
        notices = f.notices;
        told_notices = f.told_notices;
        order = r.found;
        own_notices = all_map _ _ (λ p h. h.1) v.passes f.own;
      }

  abbrev Holder : List Seen → ℕ → Type 0
  Holder views j = (v : Seen) × (get_elem? views j ≡ some v) × (v.holding ≡ true) × (0 < length v.passes)

  -- the holder of the turn still exists when one view changes
  pub holder_stays : (views : List Seen) (id j : ℕ) (v w : Seen) → get_elem? views id ≡ some v →
      (v.holding ≡ true → 0 < length v.passes → (w.holding ≡ true) × (0 < length w.passes)) → Holder views j → Holder (set views id w) j
  holder_stays views id j v w at keep h = dite (ℕ_discrete j id)
      (λ here. let same : h.0 ≡ v = some-injective h.0 v (sym h.1 ∙ (ap (λ k. get_elem? views k) here ∙ at)) in
      let kept = keep (sym (ap (λ (x : Seen). x.holding) same) ∙ h.2) (subst (λ (x : Seen). 0 < length x.passes) same h.3) in
      (w, ap (λ k. get_elem? (set views id w) k) here ∙ set_here views id w (at_inside views v id at), kept.0, kept.1))
      (λ other. (h.0, set_else views id j w other ∙ h.1, h.2, h.3))

  -- the rule after a seat learns more and nothing else changes
  pub stays : (s : State Slot Seen) (r : Rule s) (id : ℕ) (v w : Seen) → get_elem? s.views id ≡ some v →
      Sits r.history r.order r.turn r.seat_of id w → w.passes ≡ v.passes → w.holding ≡ v.holding
      → (words : List ℕ) → words ≡ s.words → Rule record { words = words; homes = s.homes; views = set s.views id w }
  stays s r id v w at sits same_passes same_holding words same = record {
    history = r.history;
    order = r.order;
    machine = r.machine;
    turn = r.turn;
    seat_of = r.seat_of;
    wide = ap length same ∙ r.wide;
    word = ap (λ l. get_or l 0 0) same ∙ r.word;
    room = r.room;
    legal = r.legal;
    home = r.home;
    holder = λ j e. holder_stays s.views id j v w at
        (λ h some_pass. (same_holding ∙ h, subst (λ l. 0 < length l) (sym same_passes) some_pass)) (r.holder j e);
    all_passes = (let t = total_set pass_count s.views id v w at in let e : length w.passes ≡ length v.passes = ap length same_passes in
        let all = r.all_passes in omega arith);
    all_calls = λ weigh. (let t = total_set (weight_of weigh) s.views id v w at in
        let e : weigh_all weigh w.passes ≡ weigh_all weigh v.passes = ap (weigh_all weigh) same_passes in let all = r.all_calls weigh in
        omega arith);
    all_notices = λ weigh. (let t = total_set (notice_weight_of weigh) s.views id v w at in
        let e : weigh_notices weigh w.passes ≡ weigh_notices weigh v.passes = ap (weigh_notices weigh) same_passes in let all =
        r.all_notices weigh in omega arith);
    found = r.found;
    pending = λ k small. ap (λ l. get_or l (k + 1) 0) same ∙ r.pending k small;
    owed = r.owed;
    eight_bits = λ k small. subst (λ l. get_or l (k + 1) 0 < 256) (sym same) (r.eight_bits k small);
    seated = all_views (Sits r.history r.order r.turn r.seat_of) s.views id w sits (λ j u _ e. r.seated j u e);
  }
