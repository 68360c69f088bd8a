-- Passes dealt one by one.
use Rattle.std.proofs.Common.{◌≡◌, ℕ, zero, suc, ◌+◌, ◌-◌, ◌<◌, true, false, List, [], ◌∷◌, ◌++◌, length, drop, take, refl, ap, sym, ◌∙◌}
use Rattle.std.proofs.Common.{subst, arith, append_assoc, length-append, Option, Some}
use Rattle.std.specs.Prelude.{is_some}
use Rattle.std.specs.List.{AllByRecursion}
use Rattle.atomic_table.specs.Seated.{TableId}
use Rattle.desk_rule.specs.declared.view.View.{View}
use Rattle.desk_rule.specs.Notices.{weigh_notices}
use Rattle.desk_rule.specs.declared.notice.Notice.{Notice}
use Rattle.desk_rule.specs.declared.view.PassLog.{PassLog}
use Rattle.desk_rule.specs.History.{total_of}
use Rattle.desk_rule.specs.Passes.{calls_of, fresh, notices_of, number_of}
use Rattle.desk.proofs.PassLemmas.{weigh_one_notices}
use Rattle.desk_rule.specs.Kinds.{one_pass, other_passes}
use Rattle.desk_rule.specs.Rule.{opening_view}
use Rattle.desk_rule.specs.Seat.{SeatOf}
use Rattle.desk.specs.declared.pass.Sight.{Ghosts}
use Rattle.desk.specs.Opening.{AreNewPasses, IsNewPass}
use Rattle.desk.specs.Pass.{desk_of, Pass}
use Rattle.desk_rule.specs.Steps.{rests_of}
use Rattle.desk_rule.proofs.WaitLemmas.{rests}

-- n as two more than n - 2
pub one_back : (n : ℕ) → 1 < n → n ≡ (n - 1 - 1) + 2
one_back n h = omega arith

pub next_of : (n : ℕ) → 0 < n → n ≡ suc (n - 1)
next_of n h = omega arith

module _ {M C R : Type 0} where
  -- the view of the seat where the last n passes still sit
  pub record LeftOver (opened : M) (first n : ℕ) (v : View M C R) : Type 0 where
    pub opening : v.opening ≡ Some opened
    pub first_is : v.first ≡ first
    pub free : v.holding ≡ false
    pub no_history : v.seen ≡ []
    pub passes : v.passes ≡ fresh n
    pub no_order : v.notices ≡ []

  pub left_at_first : (opened : M) (first n : ℕ) (v : View M C R) → v ≡ opening_view opened first n → LeftOver opened first n v
  left_at_first opened first n v e = record {
    opening = ap (λ (x : View M C R). x.opening) e;
    first_is = ap (λ (x : View M C R). x.first) e;
    free = ap (λ (x : View M C R). x.holding) e;
    no_history = ap (λ (x : View M C R). x.seen) e;
    passes = ap (λ (x : View M C R). x.passes) e;
    no_order = ap (λ (x : View M C R). x.notices) e;
  }

  pub left_others : (opened : M) (first n : ℕ) (v w : View M C R) → 1 < n → w ≡ other_passes v → LeftOver opened first n v →
      LeftOver opened first (n - 1) w
  left_others opened first n v w more e l = record {
    opening = ap (λ (x : View M C R). x.opening) e ∙ l.opening;
    first_is = ap (λ (x : View M C R). x.first) e ∙ l.first_is;
    free = ap (λ (x : View M C R). x.holding) e ∙ l.free;
    no_history = ap (λ (x : View M C R). x.seen) e ∙ l.no_history;
    passes = ap (λ (x : View M C R). x.passes) e ∙ ap (drop 1) (l.passes ∙ ap fresh (next_of n (omega arith)));
    no_order = ap (λ (x : View M C R). x.notices) e ∙ l.no_order;
  }

module _ {C R : Type 0} where
  pub weighs_none : (weigh : Notice → ℕ) (l : List (PassLog C R)) → length l ≡ 1 → notices_of l ≡ [] → weigh_notices weigh l ≡ 0
  weighs_none weigh l one none = weigh_one_notices weigh l one ∙ ap (total_of weigh) none

-- a view of one new pass with this number
pub record IsNewView {M C R : Type 0} (opened : M) (first n : ℕ) (v : View M C R) : Type 0 where
  pub opening : v.opening ≡ Some opened
  pub first_is : v.first ≡ first
  pub free : v.holding ≡ false
  pub no_history : v.seen ≡ []
  pub pass : v.passes ≡ take 1 (fresh (suc n))
  pub no_order : v.notices ≡ []

module _ {M C R : Type 0} where
  pub new_rests : (opened : M) (first n : ℕ) (v : View M C R) → IsNewView opened first n v → rests_of v ≡ true
  new_rests opened first n v e = rests v e.free (ap length e.pass) (ap is_some e.opening)

  pub cut_off : (opened : M) (first n : ℕ) (v w : View M C R) → 0 < n → w ≡ one_pass v → LeftOver opened first n v →
      IsNewView opened first (n - 1) w
  cut_off opened first n v w more e l = record {
    opening = ap (λ (x : View M C R). x.opening) e ∙ l.opening;
    first_is = ap (λ (x : View M C R). x.first) e ∙ l.first_is;
    free = ap (λ (x : View M C R). x.holding) e;
    no_history = ap (λ (x : View M C R). x.seen) e ∙ l.no_history;
    pass = ap (λ (x : View M C R). x.passes) e ∙ ap (take 1) (l.passes ∙ ap fresh (next_of n more));
    no_order = ap (λ (x : View M C R). x.notices) e ∙ l.no_order;
  }

  pub last_left : (opened : M) (first n : ℕ) (v : View M C R) → n ≡ 1 → LeftOver opened first n v → IsNewView opened first 0 v
  last_left opened first n v one l = record {
    opening = l.opening;
    first_is = l.first_is;
    free = l.free;
    no_history = l.no_history;
    pass = l.passes ∙ ap fresh one;
    no_order = l.no_order;
  }

module _ {M C R : Type 0} {G : Ghosts (View M C R)} where
  pub is_new_pass : (id : TableId) (opened : M) (first n : ℕ) (p : Pass M C R G) (seat : SeatOf M C R) → p.seat ≡ seat → p.made ≡ 0 →
      p.learnt ≡ 0 → seat.table_id ≡ id →
      IsNewView opened first n seat.me.0 → IsNewPass id (Some opened) first n p
  is_new_pass id opened first n p seat is made learnt table e =
      let same : p.seat.me.0 ≡ seat.me.0 = ap (λ (x : SeatOf M C R). x.me.0) is in record {
        desk = ap (λ (x : SeatOf M C R). x.table_id) is ∙ table;
        opened_with = ap (λ (x : View M C R). x.opening) same ∙ e.opening;
        first_is = ap (λ (x : View M C R). x.first) same ∙ e.first_is;
        number_is = ap (λ (x : View M C R). number_of x.passes) same ∙ ap number_of e.pass;
        no_history = ap (λ (x : View M C R). x.seen) same ∙ e.no_history;
        no_calls = ap (λ (x : View M C R). calls_of x.passes) same ∙ ap calls_of e.pass;
        no_notices = ap (λ (x : View M C R). notices_of x.passes) same ∙ ap notices_of e.pass;
        no_order = ap (λ (x : View M C R). x.notices) same ∙ e.no_order;
        no_notes = (made, learnt);
      }

  pub length_new : (id : TableId) (opened : Option M) (first n : ℕ) (ps : List (Pass M C R G)) → AreNewPasses id opened first n ps →
      length ps ≡ n
  length_new id opened first zero ps e = ap length e
  length_new id opened first (suc n) [] e = absurd e
  length_new id opened first (suc n) (p ∷ ps) e = ap suc (length_new id opened first n ps e.1)

  pub new_of_desk : (id : TableId) (opened : Option M) (first n : ℕ) (ps : List (Pass M C R G)) → AreNewPasses id opened first n ps →
      AllByRecursion (λ p. desk_of p ≡ id) ps
  new_of_desk id opened first zero ps e = subst (λ l. AllByRecursion (λ p. desk_of p ≡ id) l) (sym e) tt
  new_of_desk id opened first (suc n) [] e = absurd e
  new_of_desk id opened first (suc n) (p ∷ ps) e = (e.0.desk, new_of_desk id opened first n ps e.1)

  -- the passes dealt so far, of count; n are left
  pub record Dealt (id : TableId) (opened : Option M) (first count n : ℕ) (ps : List (Pass M C R G)) : Type 0 where
    pub dealt : length ps + n ≡ count
    pub all : (rest : List (Pass M C R G)) → AreNewPasses id opened first n rest → AreNewPasses id opened first count (ps ++ rest)

  pub dealt_none : (id : TableId) (opened : Option M) (first count : ℕ) (ps : List (Pass M C R G)) → ps ≡ [] →
      Dealt id opened first count count ps
  dealt_none id opened first count ps e = record {
    dealt = (let l : length ps ≡ 0 = ap length e in omega arith);
    all = λ rest new.
        subst (λ l. AreNewPasses id opened first count (l ++ rest)) (sym e) new;
  }

  pub dealt_more : (id : TableId) (opened : Option M) (first count n : ℕ) (ps qs : List (Pass M C R G)) (p : Pass M C R G) → 0 < n →
      qs ≡ ps ++ p ∷ [] →
      IsNewPass id opened first (n - 1) p → Dealt id opened first count n ps → Dealt id opened first count (n - 1) qs
  dealt_more id opened first count n ps qs p more e new d = record {
    dealt = (let l : length qs ≡ length ps + 1 = ap length e ∙ length-append ps (p ∷ []) in let k = d.dealt in omega arith);
    all = λ rest is. subst (λ l. AreNewPasses id opened first count l) (sym (append_assoc ps (p ∷ []) rest) ∙ ap (λ l. l ++ rest) (sym e))
        (d.all (p ∷ rest) (subst (λ k. AreNewPasses id opened first k (p ∷ rest)) (sym (next_of n more)) (new, is)));
  }

  pub dealt_all : (id : TableId) (opened : Option M) (first count n : ℕ) (ps qs : List (Pass M C R G)) (p : Pass M C R G) → n ≡ 1 →
      qs ≡ ps ++ p ∷ [] →
      IsNewPass id opened first 0 p → Dealt id opened first count n ps → AreNewPasses id opened first count qs
  dealt_all id opened first count n ps qs p one e new d =
      subst (λ l. AreNewPasses id opened first count l) (sym e)
      (d.all (p ∷ []) (subst (λ k. AreNewPasses id opened first k (p ∷ [])) (sym one) (new, refl)))
