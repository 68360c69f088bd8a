-- Splitting and joining of seats keep the rule.
use Rattle.std.proofs.Common.{◌≡◌, ◌≢◌, ⊎_elim, ℕ, zero, suc, ◌+◌, ◌≤◌, ◌<◌, true, false, true≢false, List, [], ◌∷◌, ◌++◌, length, set}
use Rattle.std.proofs.Common.{drop, take}
use Rattle.std.proofs.Common.{refl, ap, sym, ◌∙◌, subst, arith, length-append, length-set, eqb, eq-eqb, ne_eqb, cond, Option, Some, None}
use Rattle.std.specs.List.{AllByRecursion}
use mathlib.Core.Option as maybe
use mathlib.Core.Option.{some}
use lib.ListN.{get_elem?}
use Rattle.atomic_table.specs.Table.{Joins, Splits, State}
use Rattle.atomic_table.proofs.Lists.{at_longer, set_else}
use Rattle.history.specs.declared.entry.Entry.{Entry}
use Rattle.desk_rule.specs.declared.view.PassLog.{PassLog}
use Rattle.desk_rule.specs.declared.view.View.{View}
use Rattle.desk_rule.specs.declared.table.Home.{Home}
use Rattle.desk_rule.specs.declared.notice.Notice.{Notice}
use Rattle.desk_rule.specs.History.{total_of, weigh_all}
use Rattle.desk_rule.specs.Notices.{raised_at, raised_by, weigh_notices}
use Rattle.desk_rule.specs.Passes.{AreDifferent, fresh, pass_log}
use Rattle.desk_rule.specs.Kinds.{after_note, after_pass, note_view, one_pass, other_passes}
use Rattle.desk_rule.specs.Rule.{notice_weight_of, pass_count, spent_view, weight_of}
use Rattle.desk_rule.proofs.ListLemmas.{all_append, all_map, at_inside, at_push, prefix_nil, total_append, total_set}
use Rattle.desk_rule.proofs.RuleLemmas.{all_views, differ_append, holder_stays, Own, Rule, Sits}

module _ {C R : Type 0} where
  fresh_map : (P Q : PassLog C R → Type 0) (n : ℕ) → ((k : ℕ) → k < n → P (pass_log k [] []) → Q (pass_log k [] [])) →
      AllByRecursion P (fresh n) → AllByRecursion Q (fresh n)
  fresh_map P Q zero f all = tt
  fresh_map P Q (suc n) f all = (f n (omega arith) all.0, fresh_map P Q n (λ k below. f k (omega arith)) all.1)

pub length_fresh : (C R : Type 0) (n : ℕ) → length (fresh {C = C} {R = R} n) ≡ n
length_fresh C R zero = refl
length_fresh C R (suc n) = let rest = length_fresh C R n in omega arith

pub weigh_fresh : (C R : Type 0) (weigh : Entry C R → ℕ) (n : ℕ) → weigh_all weigh (fresh n) ≡ 0
weigh_fresh C R weigh zero = refl
weigh_fresh C R weigh (suc n) = let rest = weigh_fresh C R weigh n in omega arith

pub weigh_fresh_notices : (C R : Type 0) (weigh : Notice → ℕ) (n : ℕ) → weigh_notices weigh (fresh {C = C} {R = R} n) ≡ 0
weigh_fresh_notices C R weigh zero = refl
weigh_fresh_notices C R weigh (suc n) = let rest = weigh_fresh_notices C R weigh n in omega arith

fresh_below : (C R : Type 0) (n k : ℕ) → k ≤ n → AllByRecursion (λ (q : PassLog C R). q.pass ≢ n) (fresh k)
fresh_below C R n zero le = tt
fresh_below C R n (suc k) le = ((λ e. omega arith), fresh_below C R n k (omega arith))

pub fresh_differ : (C R : Type 0) (n : ℕ) → AreDifferent (fresh {C = C} {R = R} n)
fresh_differ C R zero = tt
fresh_differ C R (suc n) = (fresh_below C R n n (omega arith), fresh_differ C R n)

module _ {M C R : Type 0} (steps : M → C → R → M → Type 0) (owes : R → ℕ) (opening : M) (first passes : ℕ) where
  abbrev V : Type 0
  V = View M C R

  abbrev S : Type 0
  S = Option (Home M C R)

  abbrev Holds : State S V → Type 0
  Holds = Rule steps owes opening first passes

  abbrev Sat : List (Entry C R) → List Notice → maybe.Option ℕ → (ℕ → ℕ) → ℕ → V → Type 0
  Sat = Sits steps owes opening first passes

  abbrev Owns : List (Entry C R) → List Notice → (ℕ → ℕ) → ℕ → PassLog C R → Type 0
  Owns = Own steps owes opening first passes

  -- a new seat gets a part of the view v
  split : (s : State S V) (r : Holds s) (id : ℕ) (v left right : V) (seat_of : ℕ → ℕ) → get_elem? s.views id ≡ some v
      → Sat r.history r.order r.turn seat_of id left → Sat r.history r.order r.turn seat_of (length s.views) right → right.holding ≡ false
      → left.holding ≡ v.holding → (v.holding ≡ true → left.passes ≡ v.passes)
      → length left.passes + length right.passes ≡ length v.passes →
      ((weigh : Entry C R → ℕ) → weigh_all weigh left.passes + weigh_all weigh right.passes ≡ weigh_all weigh v.passes)
      → ((weigh : Notice → ℕ) → weigh_notices weigh left.passes + weigh_notices weigh right.passes ≡ weigh_notices weigh v.passes)
      → ((j k : ℕ) → j ≢ id → j < length s.views → r.seat_of k ≡ j → seat_of k ≡ j)
      → Holds record { words = s.words; homes = s.homes; views = set s.views id left ++ right ∷ [] }
  split s r id v left right seat_of at sits_left sits_right free same_holding same_passes sizes weights notice_weights others =
      let views : List V = set s.views id left in record {
        history = r.history;
        order = r.order;
        machine = r.machine;
        turn = r.turn;
        seat_of = seat_of;
        wide = r.wide;
        word = r.word;
        room = r.room;
        legal = r.legal;
        home = r.home;
        holder = λ j e. (let h = holder_stays steps owes opening first passes s.views id j v left at
            (λ hold some_pass. (same_holding ∙ hold, subst (λ l. 0 < length l) (sym (same_passes hold)) some_pass)) (r.holder j e) in
            (h.0, at_longer views (right ∷ []) j h.0 h.1, h.2, h.3));
        all_passes = (let t = total_set pass_count s.views id v left at in let a = total_append pass_count views (right ∷ []) in let all =
            r.all_passes in omega arith);
        all_calls = λ weigh. (let t = total_set (weight_of weigh) s.views id v left at in let a =
            total_append (weight_of weigh) views (right ∷ []) in let all = r.all_calls weigh in let w = weights weigh in omega arith);
        all_notices = λ weigh. (let t = total_set (notice_weight_of weigh) s.views id v left at in let a =
            total_append (notice_weight_of weigh) views (right ∷ []) in
            let all = r.all_notices weigh in let w = notice_weights weigh in omega arith);
        found = r.found;
        pending = r.pending;
        owed = r.owed;
        eight_bits = r.eight_bits;
        seated = λ j u e. ⊎_elim
            (λ was. all_views steps owes opening first passes (Sat r.history r.order r.turn seat_of) s.views id left sits_left
            (λ i x other at_i. let g = r.seated i x at_i in record {
              opened = g.opened;
              seen = g.seen;
              told = g.told;
              holds = g.holds;
              notices = g.notices;
              told_notices = g.told_notices;
              own = all_map _ _ (λ b p. (p.0, p.1, others i b.pass other (at_inside s.views x i at_i) p.2, p.3)) x.passes g.own;
              differ = g.differ;
              few = g.few;
            }) j u was)
            (λ new. subst (λ (y : ℕ × V). Sat r.history r.order r.turn seat_of y.0 y.1)
            (λ i. (sym (new.0 ∙ length-set s.views id left) i, new.1 i)) sits_right)
            (at_push views right u j e);
      }

  pub note_splits : (id : ℕ) (v : V) → Splits Holds id v v (note_view v)
  note_splits id v s r at = let f = r.seated id v at in
      split s r id v v (note_view v) r.seat_of at f
      (record {
        opened = f.opened;
        seen = f.seen;
        told = prefix_nil r.history;
        holds = λ no. absurd (true≢false (sym no));
        notices = f.notices;
        told_notices = prefix_nil
            r.order;
        own = tt;
        differ = tt;
        few = λ s b. omega arith;
      })
      refl refl (λ _. refl) (omega arith) (λ weigh. omega arith) (λ weigh. omega arith) (λ j k _ _ e. e)

  -- the pass n moves to the seat j
  abbrev moved : (ℕ → ℕ) → ℕ → ℕ → ℕ → ℕ
  moved seat_of n j k = cond (eqb k n) j (seat_of k)

  pub pass_splits : (id n : ℕ) (v : V) → v.passes ≡ fresh (suc n) → 0 < n → v.holding ≡ false →
      Splits Holds id v (other_passes v) (one_pass v)
  pass_splits id n v is some_left free s r at =
      let f = r.seated id v at in
      let j : ℕ = length s.views in
      let seat_of : ℕ → ℕ = moved r.seat_of n j in
      let owns : AllByRecursion (Owns r.history r.order r.seat_of id) (fresh (suc n)) =
      subst (λ l. AllByRecursion (Owns r.history r.order r.seat_of id) l) is f.own in
      let here : seat_of n ≡ j = ap (λ b. cond b j (r.seat_of n)) (eq-eqb n n refl) in
      let long_left : length (drop 1 v.passes) ≡ length (fresh {C = C} {R = R} n) = ap (λ l. length (drop 1 l)) is in
      let long = length_fresh C R n in
      split s r id v (other_passes v) (one_pass v) seat_of at
      (record {
        opened = f.opened;
        seen = f.seen;
        told = f.told;
        holds = λ h. absurd (true≢false (sym h ∙ free));
        own = subst (λ (l : List (PassLog C R)). AllByRecursion (Owns r.history r.order seat_of id) (drop 1 l)) (sym is)
            (fresh_map (Owns r.history r.order r.seat_of id) (Owns r.history r.order seat_of id) n
            (λ k below p. (p.0, p.1, ap (λ b. cond b j (r.seat_of k)) (ne_eqb k n (λ e. omega arith)) ∙ p.2, p.3)) owns.1);
        differ = subst (λ (l : List (PassLog C R)). AreDifferent (drop 1 l)) (sym is) (subst AreDifferent is f.differ).1;
        notices = f.notices;
        told_notices = f.told_notices;
        few = λ t b. (let z : raised_by (drop 1 v.passes) t b ≡ raised_by (fresh {C = C} {R = R} n) t b =
            ap (λ l. raised_by (drop 1 l) t b) is in let none = weigh_fresh_notices C R (raised_at t b) n in omega arith);
      })
      (record {
        opened = f.opened;
        seen = f.seen;
        told = prefix_nil r.history;
        holds = λ no. absurd (true≢false (sym no));
        own = subst (λ (l : List (PassLog C R)). AllByRecursion (Owns r.history r.order seat_of j) (take 1 l)) (sym is)
            ((owns.0.0, owns.0.1, here, owns.0.3), tt);
        differ = subst (λ (l : List (PassLog C R)). AreDifferent (take 1 l)) (sym is) (tt, tt);
        notices = f.notices;
        told_notices = prefix_nil r.order;
        few = λ t b. (let z : raised_by (take 1 v.passes) t b ≡ 0 = ap (λ l. raised_by (take 1 l) t b) is in omega arith);
      })
      refl refl (λ h. absurd (true≢false (sym h ∙ free)))
      (subst (λ (l : List (PassLog C R)). length (drop 1 l) + length (take 1 l) ≡ length l) (sym is) (omega arith))
      (λ weigh. subst (λ (l : List (PassLog C R)). weigh_all weigh (drop 1 l) + weigh_all weigh (take 1 l) ≡ weigh_all weigh l) (sym is)
      (omega arith))
      (λ weigh. subst (λ (l : List (PassLog C R)). weigh_notices weigh (drop 1 l) + weigh_notices weigh (take 1 l) ≡ weigh_notices weigh l)
      (sym is) (omega arith))
      (λ i k other below e. ap (λ b. cond b j (r.seat_of k)) (ne_eqb k n (λ q. other (sym e ∙ (ap r.seat_of q ∙ owns.0.2)))) ∙ e)

  none_some : (m : M) → let t : Option M = None in t ≡ Some m → ⊥
  none_some m e = cc

  -- a seat takes over another's view, which is spent
  join : (s : State S V) (r : Holds s) (id : ℕ) (v : V) (other : ℕ) (w both : V) (seat_of : ℕ → ℕ) → get_elem? s.views id ≡ some v →
      other ≢ id → get_elem? (set s.views id both) other ≡ some w
      → Sat r.history r.order r.turn seat_of id both → w.holding ≡ false → both.holding ≡ v.holding
      → length both.passes ≡ length v.passes + length w.passes →
      ((weigh : Entry C R → ℕ) → weigh_all weigh both.passes ≡ weigh_all weigh v.passes + weigh_all weigh w.passes)
      → ((weigh : Notice → ℕ) → weigh_notices weigh both.passes ≡ weigh_notices weigh v.passes + weigh_notices weigh w.passes)
      → ((j k : ℕ) → j ≢ id → j ≢ other → r.seat_of k ≡ j → seat_of k ≡ j)
      → Holds record { words = s.words; homes = s.homes; views = set (set s.views id both) other spent_view }
  join s r id v other w both seat_of at apart at_other sits free same_holding sizes weights notice_weights others =
      let views : List V = set s.views id both in record {
        history = r.history;
        order = r.order;
        machine = r.machine;
        turn = r.turn;
        seat_of = seat_of;
        wide = r.wide;
        word = r.word;
        room = r.room;
        legal = r.legal;
        home = r.home;
        holder = λ j e. holder_stays steps owes opening first passes views other j w spent_view at_other
            (λ h _. absurd (true≢false (sym h ∙ free)))
            (holder_stays steps owes opening first passes s.views id j v both at (λ h some_pass. (same_holding ∙ h, omega arith))
            (r.holder j e));
        all_passes = (let t = total_set pass_count s.views id v both at in let u =
            total_set pass_count views other w spent_view at_other in let all = r.all_passes in omega arith);
        all_calls = λ weigh. (let t = total_set (weight_of weigh) s.views id v both at in let u =
            total_set (weight_of weigh) views other w spent_view at_other in let all = r.all_calls weigh in let x = weights weigh in
            omega arith);
        all_notices = λ weigh. (let t = total_set (notice_weight_of weigh) s.views id v both at in let u =
            total_set (notice_weight_of weigh) views other w spent_view at_other in
            let all = r.all_notices weigh in let x = notice_weights weigh in omega arith);
        found = r.found;
        pending = r.pending;
        owed = r.owed;
        eight_bits = r.eight_bits;
        seated = all_views steps owes opening first passes (Sat r.history r.order r.turn seat_of) views other spent_view
            (record {
              opened = λ m e. absurd (none_some m e);
              seen = prefix_nil r.history;
              told = prefix_nil r.history;
              holds = λ no. absurd (true≢false (sym no));
              notices =
                  prefix_nil r.order;
              told_notices = prefix_nil r.order;
              own = tt;
              differ = tt;
              few = λ t b. omega arith;
            })
            (λ j u not_other e. all_views steps owes opening first passes (λ i x. i ≢ other → Sat r.history r.order r.turn seat_of i x)
            s.views id both (λ _. sits)
            (λ i x not_id at_i not_that. let g = r.seated i x at_i in record {
              opened = g.opened;
              seen = g.seen;
              told = g.told;
              holds = g.holds;
              notices = g.notices;
              told_notices = g.told_notices;
              own = all_map _ _ (λ b p. (p.0, p.1, others i b.pass not_id not_that p.2, p.3)) x.passes g.own;
              differ = g.differ;
              few = g.few;
            }) j u e not_other);
      }

  sat_other : (s : State S V) (r : Holds s) (id other : ℕ) (w both : V) → other ≢ id → get_elem? (set s.views id both) other ≡ some w →
      Sat r.history r.order r.turn r.seat_of other w
  sat_other s r id other w both apart at_other = r.seated other w (sym (set_else s.views id other both apart) ∙ at_other)

  pub note_joins : (id : ℕ) (v : V) (other : ℕ) (w : V) → w.passes ≡ [] → w.holding ≡ false →
      Joins Holds id v other w (after_note v w) spent_view
  note_joins id v other w no_pass free s r at apart at_other =
      let f = r.seated id v at in let g = sat_other s r id other w (after_note v w) apart at_other in
      join s r id v other w (after_note v w) r.seat_of at apart at_other
      (record {
        opened = f.opened;
        seen = f.seen;
        told = g.seen;
        holds = f.holds;
        notices = f.notices;
        told_notices = g.notices;
        own =
            f.own;
        differ = f.differ;
        few = f.few;
      }) free refl
      (let e : length w.passes ≡ 0 = ap length no_pass in omega arith)
      (λ weigh. let e : weigh_all weigh w.passes ≡ 0 = ap (weigh_all weigh) no_pass in omega arith)
      (λ weigh. let e : weigh_notices weigh w.passes ≡ 0 = ap (weigh_notices weigh) no_pass in omega arith) (λ j k _ _ e. e)

  pub pass_joins : (id : ℕ) (v : V) (other : ℕ) (w : V) → w.holding ≡ false → Joins Holds id v other w (after_pass v w) spent_view
  pass_joins id v other w free s r at apart at_other =
      let f = r.seated id v at in let g = sat_other s r id other w (after_pass v w) apart at_other in
      let seat_of : ℕ → ℕ = λ k. cond (eqb (r.seat_of k) other) id (r.seat_of k) in
      join s r id v other w (after_pass v w) seat_of at apart at_other
      (record {
        opened = f.opened;
        seen = f.seen;
        told = g.seen;
        holds = f.holds;
        own = all_append (Owns r.history r.order seat_of id) v.passes w.passes
            (all_map _ _
            (λ b p.
            (p.0, p.1, ap (λ t. cond t id (r.seat_of b.pass)) (ne_eqb (r.seat_of b.pass) other (λ e. apart (sym e ∙ p.2))) ∙ p.2, p.3))
            v.passes f.own)
            (all_map _ _ (λ b p. (p.0, p.1, ap (λ t. cond t id (r.seat_of b.pass)) (eq-eqb (r.seat_of b.pass) other p.2), p.3)) w.passes
            g.own);
        differ = differ_append v.passes w.passes f.differ g.differ
            (all_map _ _ (λ b p. all_map _ _ (λ c q same. apart (sym q.2 ∙ (ap r.seat_of same ∙ p.2))) w.passes g.own) v.passes f.own);
        notices = f.notices;
        told_notices = g.notices;
        few = λ t b. (let x = f.few t b in let y = g.few t b in let c =
            total_append (λ (a : PassLog C R). total_of (λ _. 1) a.calls) v.passes w.passes in
            let p = total_append (λ (a : PassLog C R). total_of (raised_at t b) a.notices) v.passes w.passes in omega arith);
      })
      free refl (length-append v.passes w.passes) (λ weigh. total_append (λ (a : PassLog C R). total_of weigh a.calls) v.passes w.passes)
      (λ weigh. total_append (λ (a : PassLog C R). total_of weigh a.notices) v.passes w.passes)
      (λ j k not_id not_other e. ap (λ t. cond t id (r.seat_of k)) (ne_eqb (r.seat_of k) other (λ q. not_other (sym e ∙ q))) ∙ e)
