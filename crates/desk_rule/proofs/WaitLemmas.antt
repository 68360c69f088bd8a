-- Loads of word 0 until the turn is taken or no place is left; and the effect of a turn.
use Rattle.std.proofs.Common.{◌≡◌, ℕ, ◌+◌, ◌/◌, ◌%◌, ◌^◌, ◌≤◌, ◌==◌, Bool, true, false, not, ◌&&◌, List, [], ◌∷◌, ◌++◌, length, refl, ap}
use Rattle.std.proofs.Common.{sym, ◌∙◌, subst, arith, eq-eqb, eqb-true, Some, None}
use Rattle.std.specs.Prelude.{is_some}
use Rattle.std.specs.declared.snapshot.Snapshot.{Snapshot}
use mathlib.Core.List.{IsPrefix}
use Rattle.history.specs.declared.entry.Entry.{Entry}
use Rattle.desk_rule.specs.declared.view.View.{View}
use Rattle.desk_rule.specs.declared.table.Home.{Home}
use Rattle.desk_rule.specs.declared.table.LastCall.{LastCall}
use Rattle.desk_rule.specs.declared.notice.Notice.{Notice}
use Rattle.history.specs.History.{entry, IsLegal, Run}
use Rattle.desk_rule.specs.History.{OwnCalls}
use Rattle.history.proofs.RunLemmas.{run_push}
use Rattle.desk_rule.specs.Passes.{number_of}
use Rattle.desk_rule.specs.Kinds.{after_look, after_turn, GetsMachine, Looks, AtSeat}
use Rattle.desk_rule.specs.Seat.{EndsTurn, HoldsTurn, SeatOf}
use Rattle.desk_rule.proofs.ListLemmas.{nil_of, prefix_trans, some_of}
use Rattle.desk_rule.specs.Steps.{Rests, rests_of, TurnAt}
use Rattle.std.proofs.lemmas.Bool.{and_parts, not-true}

module _ {M C R : Type 0} where
  pub rests_facts : (v : View M C R) → rests_of v ≡ true → (v.holding ≡ false) × (length v.passes ≡ 1) × (is_some v.opening ≡ true)
  rests_facts v e =
      let a = and_parts (not v.holding) ((length v.passes == 1) && is_some v.opening) e in
      let b = and_parts (length v.passes == 1) (is_some v.opening) a.1 in
      (not-true v.holding a.0, eqb-true (length v.passes) 1 b.0, b.1)

  pub rests : (v : View M C R) → v.holding ≡ false → length v.passes ≡ 1 → is_some v.opening ≡ true → rests_of v ≡ true
  rests v free one opened = ap (λ x. not x && ((length v.passes == 1) && is_some v.opening)) free ∙
      (ap (λ x. x && is_some v.opening) (eq-eqb (length v.passes) 1 one) ∙ opened)

  -- w is v after some looks
  pub record Follows (v w : View M C R) : Type 0 where
    pub opening : w.opening ≡ v.opening
    pub first : w.first ≡ v.first
    pub holding : w.holding ≡ v.holding
    pub passes : w.passes ≡ v.passes
    pub begins : (es : List (Entry C R)) → IsPrefix w.seen es → IsPrefix w.told es → IsPrefix v.seen es × IsPrefix v.told es
    pub notices : (ns : List Notice) → IsPrefix w.notices ns → IsPrefix w.told_notices ns →
        IsPrefix v.notices ns × IsPrefix v.told_notices ns

  pub follows_refl : (v : View M C R) → Follows v v
  follows_refl v =
      record { opening = refl; first = refl; holding = refl; passes = refl; begins = λ es p q. (p, q); notices = λ ns p q. (p, q) }

  pub follows_trans : (v u w : View M C R) → Follows v u → Follows u w → Follows v w
  follows_trans v u w f g = record {
    opening = g.opening ∙ f.opening;
    first = g.first ∙ f.first;
    holding = g.holding ∙ f.holding;
    passes = g.passes ∙ f.passes;
    begins = λ es p q. let h = g.begins es p q in f.begins es h.0 h.1;
    notices = λ ns p q. let h = g.notices ns p q in f.notices ns h.0 h.1;
  }

  -- a seat in the loop: it is the same seat, nothing is out with it, and its view is up to date
  pub record Waits (p q : SeatOf M C R) : Type 0 where
    pub table : q.table_id ≡ p.table_id
    pub id : q.id ≡ p.id
    pub out : q.me.1 ≡ p.me.1
    pub follows : Follows p.me.0 q.me.0

  pub waits_refl : (p : SeatOf M C R) → Waits p p
  waits_refl p = record { table = refl; id = refl; out = refl; follows = follows_refl p.me.0 }

  pub waits_moved : (p q q' : SeatOf M C R) → q' ≡ q → Waits p q → Waits p q'
  waits_moved p q q' e w = subst (λ x. Waits p x) (sym e) w

  alike : (v w : View M C R) (holding : Bool) (es : List (Entry C R)) (ns : List Notice) → Follows v w →
      after_look w holding es ns ≡ after_look v holding es ns
  alike v w holding es ns f i =
      record {
        opening = f.opening i;
        first = f.first i;
        holding = holding;
        seen = es;
        told = [];
        notices = ns;
        told_notices = [];
        passes =
            f.passes i;
      }

module _ {M C R : Type 0} (steps : M → C → R → M → Type 0) where
  pub looks_later : (v u w : View M C R) (found : ℕ) (holding : Bool) → Follows v u → Looks steps u found holding w →
      Looks steps v found holding w
  looks_later v u w found holding f l = let b = f.begins w.seen l.seen l.told in let n = f.notices w.notices l.notices l.told_notices in
      record {
        is = l.is ∙ alike v u holding w.seen w.notices f;
        seen = b.0;
        told = b.1;
        place = λ m e. l.place m (f.opening ∙ e) ∙ ap (λ n. n + length w.seen) f.first;
        legal = λ m e. l.legal m (f.opening ∙ e);
        own = l.own;
        few = l.few;
        short = l.short;
        notices = n.0;
        told_notices = n.1;
        order = l.order;
        own_notices = l.own_notices;
      }

  pub follows_look : (v w : View M C R) (found : ℕ) → Looks steps v found v.holding w → Follows v w
  follows_look v w found l = record {
    opening = ap (λ (x : View M C R). x.opening) l.is;
    first = ap (λ (x : View M C R). x.first) l.is;
    holding = ap (λ (x : View M C R). x.holding) l.is;
    passes = ap (λ (x : View M C R). x.passes) l.is;
    begins = λ es p q. (prefix_trans v.seen w.seen es l.seen p, prefix_trans v.told w.seen es l.told p);
    notices = λ ns p q. (prefix_trans v.notices w.notices ns l.notices p, prefix_trans v.told_notices w.notices ns l.told_notices p);
  }

  -- one more load
  pub waits_look : (p q q' : SeatOf M C R) (found : ℕ) → Waits p q → (q'.table_id ≡ q.table_id) × (q'.id ≡ q.id) → q'.me.1 ≡ q.me.1 →
      Looks steps q.me.0 found q.me.0.holding q'.me.0 → Waits p q'
  waits_look p q q' found w same out l = record {
    table = same.0 ∙ w.table;
    id = same.1 ∙ w.id;
    out = out ∙ w.out;
    follows = follows_trans p.me.0 q.me.0 q'.me.0 w.follows (follows_look q.me.0 q'.me.0 found l);
  }

  -- a load that finds that no place is left
  pub worn : (p q q' : SeatOf M C R) (word : ℕ) → Rests p → Waits p q → Looks steps q.me.0 word q.me.0.holding q'.me.0 →
      (q'.table_id ≡ q.table_id) × (q'.id ≡ q.id) → q'.me.1 ≡ q.me.1 → word ≡ 2 ^ 63
      → Looks steps p.me.0 (2 ^ 63) false q'.me.0 × Rests q'
  worn p q q' word r w l same out end =
      let f = rests_facts p.me.0 r.1 in
      let now : Looks steps q.me.0 (2 ^ 63) false q'.me.0 =
      subst (λ (x : ℕ × Bool). Looks steps q.me.0 x.0 x.1 q'.me.0) (λ i. (end i, (w.follows.holding ∙ f.0) i)) l in
      let all = waits_look p q q' word w same out l in (
        looks_later p.me.0 q.me.0 q'.me.0 (2 ^ 63) false w.follows now,
        (
          ap length all.out ∙ r.0,
          rests q'.me.0 (all.follows.holding ∙ f.0) (ap length all.follows.passes ∙ f.1)
              (ap is_some all.follows.opening ∙ f.2),
        ),
      )

  -- a turn that was taken
  pub turn_taken : (p q q' : SeatOf M C R) (word found : ℕ) → Rests p → Waits p q → found ≡ word → word % 2 ≡ 0 → word ≤ 2 ^ 63 →
      (word ≡ 2 ^ 63 → ⊥)
      → Looks steps q.me.0 found true q'.me.0 × GetsMachine steps q.me.0 q.me.1 q'.me.0 q'.me.1
      → TurnAt steps p.me.0 (word / 2) q'.me.0 × HoldsTurn steps q'
  turn_taken p q q' word found r w is even le ne did =
      let f = rests_facts p.me.0 r.1 in let l = did.0 in let t = did.1 in
      let nil : q.me.1 ≡ [] = nil_of q.me.1 (ap length w.out ∙ r.0) in
      let opening : q'.me.0.opening ≡ q.me.0.opening = ap (λ (x : View M C R). x.opening) l.is in
      let passes : q'.me.0.passes ≡ q.me.0.passes = ap (λ (x : View M C R). x.passes) l.is in
      let m = some_of q.me.0.opening (ap is_some w.follows.opening ∙ f.2) in
      let place = l.place m.0 m.1 in let short = l.short in (
        (
          subst (λ n. Looks steps p.me.0 n true q'.me.0) (omega arith) (looks_later p.me.0 q.me.0 q'.me.0 found true w.follows l),
          omega
              arith,
        ),
        record {
          holding = ap (λ (x : View M C R). x.holding) l.is;
          one_pass = ap length (passes ∙ w.follows.passes) ∙ f.1;
          opened = ap is_some (opening ∙ w.follows.opening) ∙ f.2;
          home = t.0;
          out = t.1 ∙ ap (λ c. (0, Some t.0) ∷ c) nil;
          machine = λ k e. t.2 k (sym opening ∙ e);
          few = l.few;
          short = omega arith;
        },
      )

  -- the machine is back with the call that it answered
  pub ends : (p q : SeatOf M C R) (home : Home M C R) (n : M) (said : Snapshot C) (told : Snapshot R) (c : C) (r : R) → HoldsTurn steps p →
      ((m : M) → p.me.0.opening ≡ Some m → Run steps m p.me.0.seen home.machine)
      → steps home.machine c r n → said.value ≡ c → told.value ≡ r →
      q.me ≡ (p.me.0, (0, Some record { machine = n; last = Some record { command = said; reply = told } }) ∷ []) → EndsTurn steps q
  ends p q home n said told c r h run step is_c is_r back =
      let v : View M C R = p.me.0 in
      let same : q.me.0 ≡ v = ap (λ (x : AtSeat M C R). x.0) back in
      let said_step : steps home.machine said.value told.value n =
      subst (λ (x : C × R). steps home.machine x.0 x.1 n) (λ i. (sym is_c i, sym is_r i)) step in record {
        holding = ap (λ (x : View M C R). x.holding) same ∙ h.holding;
        one_pass = ap (λ (x : View M C R). length x.passes) same ∙ h.one_pass;
        opened = ap (λ (x : View M C R). is_some x.opening) same ∙ h.opened;
        home = record { machine = n; last = Some record { command = said; reply = told } };
        last = record { command = said; reply = told };
        back = ap (λ (x : AtSeat M C R). x.1) back;
        said = refl;
        machine = λ m from. subst (λ (x : View M C R). Run steps m (x.seen ++ entry (number_of x.passes) said.value told.value ∷ []) n)
            (sym same)
            (run_push steps m home.machine n v.seen (entry (number_of v.passes) said.value told.value)
            (run m (sym (ap (λ (x : View M C R). x.opening) same) ∙ from)) said_step);
      }

  -- the history after the turn is legal
  pub legal_after : (p q : SeatOf M C R) (home : Home M C R) (n : M) (c : C) (r : R) →
      ((m : M) → p.me.0.opening ≡ Some m → Run steps m p.me.0.seen home.machine) → steps home.machine c r n
      → q.me ≡ (after_turn p.me.0 c r, []) → (m : M) → p.me.0.opening ≡ Some m → IsLegal steps m q.me.0.seen
  legal_after p q home n c r run step is m from = (
    n,
    subst (λ (es : List (Entry C R)). Run steps m es n) (sym (ap (λ (x : AtSeat M C R). x.0.seen) is))
        (run_push steps m home.machine n p.me.0.seen (entry (number_of p.me.0.passes) c r) (run m from) step),
  )

module _ {M C R : Type 0} where
  -- the machine left the slot and another one returned
  pub put_back : (p q q' : SeatOf M C R) (h : Home M C R) → q.me ≡ (p.me.0, (0, None) ∷ []) → q'.me ≡ (q.me.0, (0, Some h) ∷ []) →
      q'.me ≡ (p.me.0, (0, Some h) ∷ [])
  put_back p q q' h out back = back ∙ ap (λ (m : AtSeat M C R). (m.0, (0, Some h) ∷ [])) out

  -- the effect of the end of the turn
  pub ended : (p q q' : SeatOf M C R) (n : M) (said : Snapshot C) (told : Snapshot R) (c : C) (r : R) →
      q.me ≡ (p.me.0, (0, Some record { machine = n; last = Some record { command = said; reply = told } }) ∷ []) → said.value ≡ c →
      told.value ≡ r
      → ((h : Home M C R) (l : LastCall C R) → q.me.1 ≡ (0, Some h) ∷ [] → h.last ≡ Some l →
      (q'.me ≡ (after_turn q.me.0 l.command.value l.reply.value, [])) × OwnCalls q'.me.0.seen q'.me.0.passes)
      → (q'.me ≡ (after_turn p.me.0 c r, [])) × OwnCalls q'.me.0.seen q'.me.0.passes
  ended p q q' n said told c r back is_c is_r did =
      let d = did record { machine = n; last = Some record { command = said; reply = told } } record { command = said; reply = told }
      (ap (λ (x : AtSeat M C R). x.1) back) refl in
      let same : q.me.0 ≡ p.me.0 = ap (λ (x : AtSeat M C R). x.0) back in
      (d.0 ∙ (λ i. (after_turn (same i) (is_c i) (is_r i), [])), d.1)
