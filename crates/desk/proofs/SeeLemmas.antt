-- The effects of loads and of a call on a pass, in the machine's states.
use Rattle.std.proofs.Common.{◌≡◌, ℕ, ◌+◌, ◌-◌, ◌^◌, Bool, true, List, [], ◌∷◌, ◌++◌, length, refl, ap, sym, ◌∙◌, subst, arith}
use Rattle.std.proofs.Common.{length-append, Some}
use Rattle.std.specs.Prelude.{is_some}
use mathlib.Core.List.{IsPrefix}
use Rattle.history.specs.declared.entry.Entry.{Entry}
use Rattle.desk_rule.specs.declared.view.PassLog.{PassLog}
use Rattle.desk_rule.specs.declared.view.View.{View}
use Rattle.desk_rule.specs.declared.notice.Notice.{Notice}
use Rattle.history.specs.History.{calls_by, entry, IsLegal, IsLegalFrom, Stepped}
use Rattle.desk_rule.specs.History.{OwnCalls}
use Rattle.desk_rule.specs.Notices.{IsPostAt, notices_by, pending_after}
use Rattle.desk_rule.specs.Passes.{add_call, calls_of, notices_of, number_of}
use Rattle.desk_rule.specs.Kinds.{after_note, after_turn, Looks, take_of, TakesBits}
use Rattle.desk_rule.proofs.ListLemmas.{all_map, prefix_refl, prefix_trans, prefixes_agree, some_of}
use Rattle.desk.specs.declared.pass.Sight.{Ghosts}
use Rattle.desk.specs.Calls.{Calls, HasSeenNote, Learns, next_place, NoteAgrees}
use Rattle.desk.specs.Calls.{PostsOwed, SameNotices, Sees, TakesPending}
use Rattle.desk.specs.Pass.{desk_of, history, Note, notes_learnt, notes_made, number, order, order_told_by, Pass, told_by}
use Rattle.desk_rule.specs.Steps.{TurnAt}
use Rattle.desk.specs.Tally.{Posts}
use Rattle.desk.proofs.CallLemmas.{turn_notices}
use Rattle.desk.proofs.PassLemmas.{call_added, notice_added, own_notices_one, own_one}
use Rattle.history.proofs.RunLemmas.{values_legal}

-- a seat that learnt what the view n has seen, and then looked, has seen all of that
pub told_seen : {M C R : Type 0} (steps : M → C → R → M → Type 0) (v u n w : View M C R) (found : ℕ) (holding : Bool) → u ≡ after_note v n
    → Looks steps u found holding w → IsPrefix n.seen w.seen × IsPrefix n.notices w.notices
told_seen {M} {C} {R} steps v u n w found holding is l = (
  subst (λ es. IsPrefix es w.seen) (ap (λ (x : View M C R). x.told) is) l.told,
  subst (λ ns. IsPrefix ns w.notices) (ap (λ (x : View M C R). x.told_notices) is) l.told_notices,
)

module _ {M C R S : Type 0} {G : Ghosts (View M C R)} (stands : M → S → Type 0) (steps : S → C → R → S → Type 0) where
  -- the pass p, whose view became u by other steps, and then looked
  pub sees : (p q : Pass M C R G) (u : View M C R) (found : ℕ) (holding : Bool) →
      Looks (Stepped stands steps) u found holding q.seat.me.0 → u.opening ≡ p.seat.me.0.opening → u.first ≡ p.seat.me.0.first
      → number_of u.passes ≡ number_of p.seat.me.0.passes → calls_of u.passes ≡ calls_of p.seat.me.0.passes →
      IsPrefix p.seat.me.0.seen u.seen →
      IsPrefix p.seat.me.0.notices u.notices → desk_of q ≡ desk_of p → length u.passes ≡ 1 → Sees stands steps p q
  sees p q u found holding l opened first numbers calls begins noticed table one =
      let v : View M C R = p.seat.me.0 in let w : View M C R = q.seat.me.0 in
      let opened_w : w.opening ≡ v.opening = ap (λ (x : View M C R). x.opening) l.is ∙ opened in
      let passes_w : w.passes ≡ u.passes = ap (λ (x : View M C R). x.passes) l.is in
      let number_w : number_of w.passes ≡ number_of v.passes = ap number_of passes_w ∙ numbers in record {
        same =
            record {
              same_desk = table;
              same_number = number_w;
              same_opening = opened_w;
              same_first =
                  ap (λ (x : View M C R). x.first) l.is ∙ first;
            };
        same_calls = ap calls_of passes_w ∙ calls;
        begins = prefix_trans _ _ _ begins l.seen;
        legal = λ m e. values_legal stands steps m w.seen (l.legal m (opened ∙ e));
        own = ap (λ (n : ℕ). calls_by n w.seen) (sym number_w) ∙ own_one w.seen w.passes (ap length passes_w ∙ one) l.own;
        notices = record {
          begins = prefix_trans _ _ _ noticed l.notices;
          found = l.order;
          own = ap (λ (n : ℕ). notices_by n w.notices) (sym number_w) ∙
              own_notices_one w.notices w.passes (ap length passes_w ∙ one) l.own_notices;
        };
      }

  -- the pass looked, and did nothing else
  pub sees_looked : (p q : Pass M C R G) (found : ℕ) (holding : Bool) →
      Looks (Stepped stands steps) p.seat.me.0 found holding q.seat.me.0 → desk_of q ≡ desk_of p → length p.seat.me.0.passes ≡ 1 →
      Sees stands steps p q
  sees_looked p q found holding l table one =
      sees p q p.seat.me.0 found holding l refl refl refl refl (prefix_refl _) (prefix_refl _) table one

  -- no place is left
  pub sees_worn : (p q : Pass M C R G) (holding : Bool) → Looks (Stepped stands steps) p.seat.me.0 (2 ^ 63) holding q.seat.me.0 →
      desk_of q ≡ desk_of p → length p.seat.me.0.passes ≡ 1 → is_some p.seat.me.0.opening ≡ true
      → Sees stands steps p q × SameNotices p q × (next_place q ≡ 2 ^ 62)
  sees_worn p q holding l table one opened =
      let m = some_of p.seat.me.0.opening opened in let place = l.place m.0 m.1 in let first : q.seat.me.0.first ≡ p.seat.me.0.first =
      ap (λ (x : View M C R). x.first) l.is in
      (sees_looked p q (2 ^ 63) holding l table one, ap (λ (x : View M C R). notices_of x.passes) l.is, omega arith)

  -- what a pass had seen and what it learnt are prefixes of what it has seen then, so one is a prefix of the other
  pub note_agrees : (p q : Pass M C R G) (n : Note M C R G) → Sees stands steps p q → HasSeenNote n q → NoteAgrees n p
  note_agrees p q n s h = (
    prefixes_agree (told_by n) (history p) (history q) h.0 s.begins,
    prefixes_agree (order_told_by n) (order p) (order q) h.1 s.notices.begins,
  )

  -- the pass learnt what a seat with the view n has seen, and then looked
  pub sees_told : (p q : Pass M C R G) (u n : View M C R) (found : ℕ) (holding : Bool) → u ≡ after_note p.seat.me.0 n
      → Looks (Stepped stands steps) u found holding q.seat.me.0 → desk_of q ≡ desk_of p → length p.seat.me.0.passes ≡ 1 →
      Sees stands steps p q
  sees_told p q u n found holding is l table one = let v : View M C R = p.seat.me.0 in
      sees p q u found holding l (ap (λ (x : View M C R). x.opening) is) (ap (λ (x : View M C R). x.first) is)
      (ap (λ (x : View M C R). number_of x.passes) is) (ap (λ (x : View M C R). calls_of x.passes) is)
      (subst (λ es. IsPrefix v.seen es) (sym (ap (λ (x : View M C R). x.seen) is)) (prefix_refl v.seen))
      (subst (λ ns. IsPrefix v.notices ns) (sym (ap (λ (x : View M C R). x.notices) is)) (prefix_refl v.notices))
      table (ap (λ (x : View M C R). length x.passes) is ∙ one)

  -- the pass learnt the note, and then looked
  pub learns_told : (p q : Pass M C R G) (u : View M C R) (n : Note M C R G) (found : ℕ) (holding : Bool) →
      u ≡ after_note p.seat.me.0 n.seat.me.0
      → Looks (Stepped stands steps) u found holding q.seat.me.0 → desk_of q ≡ desk_of p → length p.seat.me.0.passes ≡ 1 →
      notes_learnt q ≡ notes_learnt p + 1
      → notes_made q ≡ notes_made p → Learns stands steps p q n
  learns_told p q u n found holding is l table one counted made =
      let seen = told_seen (Stepped stands steps) p.seat.me.0 u n.seat.me.0 q.seat.me.0 found holding is l in
      let more = sees_told p q u n.seat.me.0 found holding is l table one in
      record { sees = more; seen = seen; agrees = note_agrees p q n more seen; counted = counted; same_made = made }

  -- the pass took what is pending, and then looked
  pub sees_taken : (owes : R → ℕ) (p q : Pass M C R G) (u : View M C R) (server n found : ℕ) (holding : Bool) →
      TakesBits owes p.seat.me.0 server n u →
      Looks (Stepped stands steps) u found holding q.seat.me.0 → desk_of q ≡ desk_of p → length p.seat.me.0.passes ≡ 1
      → Sees stands steps p q
  sees_taken owes p q u server n found holding h l table one =
      let v : View M C R = p.seat.me.0 in let t = h.notices in
      let added = notice_added v.passes (take_of v server n) one in
      let passes = ap (λ (x : View M C R). x.passes) t.is in
      sees p q u found holding l (ap (λ (x : View M C R). x.opening) t.is) (ap (λ (x : View M C R). x.first) t.is)
      (ap number_of passes ∙ added.1) (ap calls_of passes ∙ added.2)
      (subst (λ es. IsPrefix v.seen es) (sym (ap (λ (x : View M C R). x.seen) t.is)) h.seen)
      (prefix_trans v.notices t.before u.notices t.seen (take_of v server n ∷ [], sym (ap (λ (x : View M C R). x.notices) t.is)))
      table (ap length passes ∙ added.0)

  pub takes_pending : (owes : R → ℕ) (p q : Pass M C R G) (u : View M C R) (server n bits found : ℕ) (holding : Bool) →
      TakesBits owes p.seat.me.0 server n u →
      Looks (Stepped stands steps) u found holding q.seat.me.0 → length p.seat.me.0.passes ≡ 1 → n ≡ bits
      → TakesPending p q server bits
  takes_pending owes p q u server n bits found holding h l one same =
      let v : View M C R = p.seat.me.0 in let t = h.notices in let taken : Notice = take_of v server n in
      let added = notice_added v.passes taken one in subst (λ k. TakesPending p q server k) same record {
        one_more = ap (λ (x : View M C R). notices_of x.passes) l.is ∙ (ap (λ (x : View M C R). notices_of x.passes) t.is ∙ added.3);
        between = t.seen.0;
        at = subst (λ ns. IsPrefix ns q.seat.me.0.notices)
            (ap (λ (x : View M C R). x.notices) t.is ∙ ap (λ ns. ns ++ taken ∷ []) (sym t.seen.1)) l.notices;
        all = t.found ∙ ap (λ ns. pending_after ns server) (sym t.seen.1);
      }

  -- one call: the turn was taken, the machine stepped, and what is owed was posted
  pub calls_once : (p q : Pass M C R G) (v1 v2 : View M C R) (place owed : ℕ) (c : C) (r : R) →
      TurnAt (Stepped stands steps) p.seat.me.0 place v1 → v2 ≡ after_turn v1 c r → Posts v2 q.seat.me.0 16 owed
      → OwnCalls v2.seen v2.passes → ((m : M) → v1.opening ≡ Some m → IsLegal (Stepped stands steps) m v2.seen) → desk_of q ≡ desk_of p →
      length p.seat.me.0.passes ≡ 1 → is_some p.seat.me.0.opening ≡ true
      → Calls stands steps p q c r place
  calls_once p q v1 v2 place owed c r turn is posted own legal table one opened =
      let v : View M C R = p.seat.me.0 in let w : View M C R = q.seat.me.0 in let l = turn.0 in
      let passes1 : v1.passes ≡ v.passes = ap (λ (x : View M C R). x.passes) l.is in
      let opening1 : v1.opening ≡ v.opening = ap (λ (x : View M C R). x.opening) l.is in
      let first1 : v1.first ≡ v.first = ap (λ (x : View M C R). x.first) l.is in
      let e1 : Entry C R = entry (number_of v1.passes) c r in
      let e : Entry C R = entry (number p) c r in
      let same_entry : e1 ≡ e = ap (λ (x : List (PassLog C R)). entry (number_of x) c r) passes1 in
      let added = call_added v1.passes e1 (ap length passes1 ∙ one) in
      let passes2 : v2.passes ≡ add_call v1.passes e1 = ap (λ (x : View M C R). x.passes) is in
      let seen2 : w.seen ≡ v1.seen ++ e1 ∷ [] = posted.seen ∙ ap (λ (x : View M C R). x.seen) is in
      let opening2 : w.opening ≡ v.opening = posted.opening ∙ (ap (λ (x : View M C R). x.opening) is ∙ opening1) in
      let same_number : number q ≡ number p = posted.number ∙ (ap number_of passes2 ∙ (added.1 ∙ ap number_of passes1)) in
      let m = some_of v.opening opened in let at = l.place m.0 m.1 in
      let between : v.seen ++ l.seen.0 ≡ v1.seen = l.seen.1 in
      let long : length (v.seen ++ l.seen.0) ≡ length v1.seen = ap length between in record {
        same =
            record {
              same_desk = table;
              same_number = same_number;
              same_opening = opening2;
              same_first =
                  posted.first ∙ (ap (λ (x : View M C R). x.first) is ∙ first1);
            };
        between = l.seen.0;
        ends = seen2 ∙ (λ i. sym between i ++ same_entry i ∷ []);
        at = omega arith;
        one_more = posted.calls ∙ (ap calls_of passes2 ∙ (added.2 ∙ (λ i. calls_of (passes1 i) ++ same_entry i ∷ [])));
        legal = λ k from. subst (λ (es : List (Entry C R)). IsLegalFrom stands steps k es) (sym posted.seen)
            (values_legal stands steps k v2.seen (legal k (opening1 ∙ from)));
        own = (λ i. calls_by (sym same_number i) (posted.seen i)) ∙ (ap (λ (n : ℕ). calls_by n v2.seen) posted.number
            ∙ (own_one v2.seen v2.passes (ap length passes2 ∙ added.0) own ∙ sym posted.calls));
        notices = record {
          begins = prefix_trans v.notices v1.notices w.notices l.notices
              (subst (λ ns. IsPrefix ns w.notices) (ap (λ (x : View M C R). x.notices) is) posted.begins);
          found = posted.found;
          own = ap (λ (n : ℕ). notices_by n w.notices) (sym same_number) ∙ own_notices_one w.notices w.passes posted.one_pass posted.own;
        };
      }

  pub posts_owed : (p q : Pass M C R G) (v1 v2 : View M C R) (place owed : ℕ) (c : C) (r : R) →
      TurnAt (Stepped stands steps) p.seat.me.0 place v1 → v2 ≡ after_turn v1 c r → Posts v2 q.seat.me.0 16 owed
      → is_some p.seat.me.0.opening ≡ true → length p.seat.me.0.passes ≡ 1 → PostsOwed p q place owed
  posts_owed p q v1 v2 place owed c r turn is posted opened one =
      let m = some_of p.seat.me.0.opening opened in
      let at = turn.0.place m.0 m.1 in
      let first : v2.first ≡ p.seat.me.0.first = ap (λ (x : View M C R). x.first) is ∙ ap (λ (x : View M C R). x.first) turn.0.is in
      let long : length v2.seen ≡ length v1.seen + 1 =
      ap (λ (x : View M C R). length x.seen) is ∙ length-append v1.seen (entry (number_of v1.passes) c r ∷ []) in
      let here : (v2.first + length v2.seen) - 1 ≡ place = omega arith in record {
        new = posted.new;
        grown = posted.grown ∙ ap (λ l. l ++ posted.new) (turn_notices (Stepped stands steps) p.seat.me.0 v1 v2 place c r turn is one);
        here = all_map _ _ (λ n e. subst (λ at. IsPostAt at n.act) here e) posted.new posted.here;
        exact = λ s b below. posted.done s b below;
        no_others = λ s b beyond. posted.undone s b beyond;
      }
