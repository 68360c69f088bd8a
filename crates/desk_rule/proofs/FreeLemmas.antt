-- Tries for the turn.
use Rattle.std.proofs.Common.{◌≡◌, ◌≢◌, ℕ, ◌+◌, ◌*◌, ◌/◌, ◌%◌, ◌<◌, ◌^◌, Bool, true, false, true≢false, List, length, length-append, refl}
use Rattle.std.proofs.Common.{ap, sym, ◌∙◌, subst, arith, inl, inr}
use Rattle.std.specs.Prelude.{is_some, slice_index}
use mathlib.Core.Option as maybe
use mathlib.Core.Option.{none, some}
use mathlib.Core.List.{IsPrefix}
use Rattle.desk_rule.specs.declared.turn.NoTurn.{NoTurn}
use Rattle.desk_rule.specs.declared.turn.NoTurn.TheVariants.{Busy, Worn}
use Rattle.history.specs.declared.entry.Entry.{Entry}
use Rattle.desk_rule.specs.declared.view.View.{View}
use Rattle.desk_rule.specs.Kinds.{GetsMachine, Looks, LooksAlone, TellsTurn}
use Rattle.desk_rule.specs.Rule.{turn_bit}
use Rattle.desk_rule.specs.Seat.{SameSeat, SeatOf}
use Rattle.desk_rule.specs.Steps.{HoldsTurnAt, LooksAt, Rests}
use Rattle.desk_rule.specs.Free.{FindsBusy, FindsNoTurn, FreeTurnIsGot, FreeWordIsPlace, MissesTurn, TurnWasTaken, WasOvertaken}
use Rattle.desk_rule.proofs.ListLemmas.{nil_of, some_of}
use Rattle.desk_rule.proofs.WaitLemmas.{Follows, follows_look, follows_trans, looks_later, rests, rests_facts, turn_taken, Waits}
use Rattle.desk_rule.proofs.WaitLemmas.{waits_look, waits_refl}

-- a free turn's word has no turn bit
free_word : (turn : maybe.Option ℕ) (word n : ℕ) → word ≡ 2 * n + turn_bit turn → ((j : ℕ) → turn ≡ some j → ⊥) → word ≡ 2 * n
free_word none word n is never = omega arith
free_word (some j) word n is never = absurd (never j refl)

module _ {M C R : Type 0} (steps : M → C → R → M → Type 0) where
  -- the seat rests after some looks
  pub rests_later : (p q : SeatOf M C R) → Rests p → Waits p q → Rests q
  rests_later p q r w = let f = rests_facts p.me.0 r.1 in (
    ap length w.out ∙ r.0,
    rests q.me.0 (w.follows.holding ∙ f.0) (ap length w.follows.passes ∙ f.1)
        (ap is_some w.follows.opening ∙ f.2),
  )

  -- a look of a seat that rests
  pub resting_look : (p q : SeatOf M C R) (found : ℕ) → Rests p → Looks steps p.me.0 found p.me.0.holding q.me.0 →
      Looks steps p.me.0 found false q.me.0
  resting_look p q found r l = subst (λ (h : Bool). Looks steps p.me.0 found h q.me.0) (rests_facts p.me.0 r.1).0 l

  -- the seat after a try that didn't get the turn
  pub waits_missed : (p q : SeatOf M C R) (found : ℕ) → Rests p → SameSeat p q → Looks steps p.me.0 found false q.me.0 → Rests q → Waits p q
  waits_missed p q found r same l rq = record {
    table = same.0;
    id = same.1;
    out = nil_of q.me.1 rq.0 ∙ sym (nil_of p.me.1 r.0);
    follows = follows_look steps p.me.0 q.me.0 found
        (subst (λ (h : Bool). Looks steps p.me.0 found h q.me.0) (sym (rests_facts p.me.0 r.1).0) l);
  }

  pub holds_later : (p q q' : SeatOf M C R) (place : ℕ) → Waits p q → HoldsTurnAt steps q place q' → HoldsTurnAt steps p place q'
  holds_later p q q' place w h = ((looks_later steps p.me.0 q.me.0 q'.me.0 (2 * place) true w.follows h.0.0, h.0.1), h.1)

  -- a greater word, after an even one
  overtakes : (word place found first : ℕ) (xs ys : List (Entry C R)) → word ≡ 2 * place → word / 2 ≡ first + length xs →
      found / 2 ≡ first + length ys → IsPrefix xs ys → found ≢ word → word < found
  overtakes word place found first xs ys even at now p ne =
      let long : length ys ≡ length xs + length p.0 = sym (ap length p.1) ∙ length-append xs p.0 in omega arith

module _ {M C R : Type 0} (steps : M → C → R → M → Type 0) (owes : R → ℕ) where
  overtaken_later : (v w : View M C R) (looked : ℕ) → Follows v w → WasOvertaken steps owes w looked → WasOvertaken steps owes v looked
  overtaken_later v w looked f o = record {
    view = o.view;
    same = (o.same.0 ∙ f.opening, o.same.1 ∙ f.first, o.same.2 ∙ f.passes);
    found = o.found;
    later = o.later;
    tells = o.tells;
  }

  taken_later : (v w : View M C R) → Follows v w → TurnWasTaken steps owes w → TurnWasTaken steps owes v
  taken_later v w f t = record {
    view = t.view;
    same = (t.same.0 ∙ f.opening, t.same.1 ∙ f.first, t.same.2 ∙ f.passes);
    looked = t.looked;
    tells = t.tells;
    taken = elim t.taken [ inl odd ↦ inl odd | inr o ↦ inr (overtaken_later v w t.looked f o) ];
  }

  pub misses_later : (p q q' : SeatOf M C R) (stop : NoTurn) → Waits p q → MissesTurn steps owes stop q q' → MissesTurn steps owes stop p q'
  misses_later p q q' Busy w m = record {
    found = m.found;
    looks = looks_later steps p.me.0 q.me.0 q'.me.0 m.found false w.follows m.looks;
    rests = m.rests;
    taken = taken_later p.me.0 q.me.0 w.follows m.taken;
  }
  misses_later p q q' Worn w m = (looks_later steps p.me.0 q.me.0 q'.me.0 (2 ^ 63) false w.follows m.0, m.1)

  -- a try that finds no place left
  pub worn_later : (p q q' : SeatOf M C R) (stop : NoTurn) → stop ≡ Worn → Waits p q → MissesTurn steps owes stop q q' →
      MissesTurn steps owes Worn p q'
  worn_later p q q' stop e w m = misses_later p q q' Worn w (subst (λ (x : NoTurn). MissesTurn steps owes x q q') e m)

  -- the seat in a loop after one more try that found the turn taken
  pub waits_busy : (p q q' : SeatOf M C R) (stop : NoTurn) → stop ≡ Busy → Rests p → Waits p q → SameSeat q q' →
      MissesTurn steps owes stop q q' → Waits p q'
  waits_busy p q q' stop e r w same m =
      let b : FindsBusy steps owes q q' = subst (λ (x : NoTurn). MissesTurn steps owes x q q') e m in
      let v = waits_missed steps q q' b.found (rests_later steps p q r w) same b.looks b.rests in record {
        table = v.table ∙ w.table;
        id = v.id ∙ w.id;
        out = v.out ∙ w.out;
        follows = follows_trans p.me.0 q.me.0 q'.me.0 w.follows v.follows;
      }

  -- a look that finds the turn held
  pub found_held : (p q : SeatOf M C R) (word : ℕ) → Rests p → LooksAt steps owes p word q → word % 2 ≡ 1 → FindsBusy steps owes p q
  found_held p q word r l odd = record {
    found = word;
    looks = resting_look steps p q word r l.looks;
    rests = rests_later steps p q r (waits_look steps p p q word (waits_refl p) l.same l.slots l.looks);
    taken = record { view = p.me.0; same = (refl, refl, refl); looked = word; tells = l.turn; taken = inl odd };
  }

  -- a look that finds the turn free, and an exchange that finds another word
  pub found_overtaken : (p q q' : SeatOf M C R) (word place found : ℕ) → Rests p → LooksAt steps owes p word q → word ≡ 2 * place →
      SameSeat q q' → LooksAlone steps q.me found q'.me
      → TellsTurn steps owes q.me.0 found → found ≢ word → FindsBusy steps owes p q'
  found_overtaken p q q' word place found r l even same alone tells ne =
      let w = waits_look steps p p q word (waits_refl p) l.same l.slots l.looks in
      let v = waits_look steps p q q' found w same alone.1 alone.0 in
      let m = some_of p.me.0.opening (rests_facts p.me.0 r.1).2 in
      let later : word < found = overtakes steps word place found p.me.0.first q.me.0.seen q'.me.0.seen even (l.looks.place m.0 m.1)
      (alone.0.place m.0 (w.follows.opening ∙ m.1) ∙ ap (λ n. n + length q'.me.0.seen) w.follows.first) alone.0.seen ne in
      record {
        found = found;
        looks = looks_later steps p.me.0 q.me.0 q'.me.0 found false w.follows
            (resting_look steps q q' found (rests_later steps p q r w) alone.0);
        rests = rests_later steps p q' r v;
        taken = record {
          view = p.me.0;
          same = (refl, refl, refl);
          looked = word;
          tells = l.turn;
          taken = inr record
              { view = q.me.0; same = (w.follows.opening, w.follows.first, w.follows.passes); found = found; later = later; tells = tells };
        };
      }

  -- a look that finds the turn free, and an exchange that takes it
  pub turn_got : (p q q' : SeatOf M C R) (word place found : ℕ) → Rests p → LooksAt steps owes p word q → word ≡ 2 * place →
      (word ≡ 2 ^ 63 → ⊥) → found ≡ word
      → Looks steps q.me.0 found true q'.me.0 × GetsMachine steps q.me.0 q.me.1 q'.me.0 q'.me.1 → HoldsTurnAt steps p place q'
  turn_got p q q' word place found r l even not_end is did =
      let half : word / 2 ≡ place = omega arith in
      let t = turn_taken steps p q q' word found r (waits_look steps p p q word (waits_refl p) l.same l.slots l.looks) is (omega arith)
      l.below not_end did in
      subst (λ (n : ℕ). HoldsTurnAt steps p n q') half t

  -- the seat is the same one
  pub finds_no_turn : (p q : SeatOf M C R) (stop : NoTurn) → SameSeat p q → MissesTurn steps owes stop p q → FindsNoTurn steps owes stop p q
  finds_no_turn p q Busy same m = (same, m)
  finds_no_turn p q Worn same m = record { same = same; looks = m.0; rests = m.1 }

  -- the laws

  pub free_word_is_place : FreeWordIsPlace steps owes
  free_word_is_place opening first passes s r free =
      free_word r.turn (slice_index s.words 0) (first + length r.history) r.word
      (λ j e. let h = r.holder j e in true≢false (sym h.2 ∙ free j h.0 h.1))

  pub free_turn_is_got : FreeTurnIsGot steps owes
  free_turn_is_got v t free = elim t.taken [
    | inl odd ↦ absurd (let h = t.tells.held odd in true≢false (sym h.3 ∙ free h.0 h.1 h.2))
    | inr o
        ↦ o
  ]
