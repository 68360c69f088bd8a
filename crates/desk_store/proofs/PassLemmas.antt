-- What a desk's calls say of a pass by plain values.
use Rattle.std.proofs.Common.{◌≡◌, ℕ, ◌+◌, true, List, [], ◌∷◌, ◌++◌, length, Option, Some, None, refl, ap, sym, ◌∙◌, subst, inr, arith}
use Rattle.std.proofs.Common.{append-nil, append_assoc, length-append}
use Rattle.std.proofs.lemmas.List.{length-map, map-append}
use Rattle.std.specs.List.{flat_map}
use Rattle.std.specs.Prelude.{is_some}
use Rattle.std.specs.Option.{option_map}
use Rattle.history.specs.declared.entry.Entry.{Entry}
use Rattle.history.specs.History.{calls_by, entry, Run}
use Rattle.desk_rule.specs.declared.view.View.{View}
use Rattle.desk.specs.declared.fault.DeskFault.{DeskFault}
use Rattle.desk.specs.declared.pass.Sight.{Ghosts}
use Rattle.desk.specs.Pass.{calls, first_place, history, number, opening, Pass}
use Rattle.desk.specs.Calls.{Calls, FindsNoPlace, IsSamePass, SameNotes, Sees, next_place}
use Rattle.ds_machine.specs.Says.{IsReplyTo}
use Rattle.ds_machine.specs.State.{State}
use Rattle.ds_machine.specs.declared.command.Command.{Command}
use Rattle.ds_machine.specs.declared.reply.Reply.{Reply}
use Rattle.ds_machine.proofs.FitLemmas.{replies_fit}
use Rattle.ds_content.specs.Content.{ContentRecord}
use Rattle.ds_content.specs.Stands.{ContentStands}
use Rattle.ds_store.specs.Turns.{Turn}
use Rattle.ds_store.proofs.TurnLemmas.{turns_answer, turns_run}
use Rattle.desk_store.specs.Called.{FoundWorn, Made, MadeCall}
use Rattle.desk_store.specs.Later.{SeesMoreByCalls, SeesMoreByLooks, SeesMoreByNotes}
use Rattle.desk_store.specs.Record.{Boxed, HasJustItsCalls, HasLegalHistory, IsInTurns, boxed_content, is_content, pass_origin, pass_record}
use Rattle.desk_store.specs.Record.{place_after, turn_by_turn}

-- ---- a turn for each entry
turns_both : (xs ys : List (Entry Command Reply)) → turn_by_turn (xs ++ ys) ≡ turn_by_turn xs ++ turn_by_turn ys
turns_both xs ys = map-append (λ (e : Entry Command Reply). e ∷ []) xs ys

turns_many : (es : List (Entry Command Reply)) → length (turn_by_turn es) ≡ length es
turns_many es = length-map es (λ (e : Entry Command Reply). e ∷ [])

turns_join : (es : List (Entry Command Reply)) → flat_map (λ (xs : List (Entry Command Reply)). xs) (turn_by_turn es) ≡ es
turns_join [] = refl
turns_join (e ∷ es) = ap (λ (l : List (Entry Command Reply)). e ∷ l) (turns_join es)

-- the first of some turns was one of a content that stood for some state
pub first_stood : (es : List (Entry Command Reply)) (e : Entry Command Reply) (old new : ContentRecord) → Run Turn old (es ++ e ∷ []) new →
    (s : State) × ContentStands old s
first_stood [] e old new run = run.1.stood
first_stood (x ∷ es) e old new run = run.1.stood

module _ {Z : Type 0} {G : Ghosts (View (Boxed Z) Command Reply)} (p : Pass (Boxed Z) Command Reply G) where
  pub after_is : place_after (pass_record p) ≡ next_place p
  after_is = ap (λ (n : ℕ). first_place p + n) (turns_many (history p))

  pub is_in_turns : IsInTurns (pass_record p)
  is_in_turns = turns_join (history p)

module _ {Z : Type 0} {G : Ghosts (View (Boxed Z) Command Reply)} (p q : Pass (Boxed Z) Command Reply G) where
  -- no call changes which pass it is
  same_origin : IsSamePass p q → SameNotes p q → pass_origin q ≡ pass_origin p
  same_origin s notes = rw (s.same_desk, s.same_number, s.same_first, notes.0, notes.1) refl

  same_opened : opening q ≡ opening p → option_map boxed_content (opening q) ≡ option_map boxed_content (opening p)
  same_opened e = ap (λ (o : Option (Boxed Z)). option_map boxed_content o) e

  -- ---- it looked, and called nothing
  pub sees_made : Sees is_content Turn p q → SameNotes p q → Made (pass_record p) (pass_record q) []
  sees_made s notes = record {
    same = same_origin s.same notes;
    same_opening = same_opened s.same.same_opening;
    between = s.begins.0;
    seen = sym s.begins.1;
    longer = omega arith;
    calls_are = s.same_calls ∙ sym (append-nil (calls p));
    turned = turn_by_turn s.begins.0;
    turns_are = ap (λ (l : List (Entry Command Reply)). turn_by_turn l) (sym s.begins.1) ∙ turns_both (history p) s.begins.0;
    apart = omega arith;
    just = inr (subst (λ (n : ℕ). calls_by n (history q) ≡ calls q) (sym s.same.same_number) s.own);
  }

  pub found_worn : (fault : DeskFault) → SameNotes p q → FindsNoPlace is_content Turn fault p q →
      FoundWorn (pass_record p) (pass_record q) fault
  found_worn fault notes f = record { fault_is = f.0; made = sees_made f.1 notes; full = after_is q ∙ f.3 }

  -- ---- it called
  module _ (command : Command) (reply : Reply) (place : ℕ) (c : Calls is_content Turn p q command reply place) where
    abbrev new : Entry Command Reply
    new = entry (number p) command reply

    turns_end : turn_by_turn (history q) ≡ (turn_by_turn (history p) ++ turn_by_turn c.between) ++ (new ∷ []) ∷ []
    turns_end =
        ap (λ (l : List (Entry Command Reply)). turn_by_turn l) c.ends ∙ turns_both (history p ++ c.between) (new ∷ [])
        ∙ ap (λ (l : List (List (Entry Command Reply))). l ++ (new ∷ []) ∷ []) (turns_both (history p) c.between)

    just_own : HasJustItsCalls (pass_record q)
    just_own = subst (λ (n : ℕ). calls_by n (history q) ≡ calls q) (sym c.same.same_number) c.own

    legal_from : (o : Option (Boxed Z)) → opening p ≡ o → is_some o ≡ true → HasLegalHistory (pass_record q)
    legal_from None e some = absurd (cc)
    legal_from (Some m) e some =
        let run = c.legal m e m.value refl in
        let turns = subst (λ (es : List (Entry Command Reply)). Run Turn m.value es run.0) c.ends run.1 in
        let stood = first_stood (history p ++ c.between) (entry (number p) command reply) m.value run.0 turns in
        record {
          content = m.value;
          opened_with = same_opened c.same.same_opening ∙ ap (λ (x : Option (Boxed Z)). option_map boxed_content x) e;
          begun = stood.0;
          stood = stood.1;
          legal = λ s at. (let all = turns_run (history q) m.value run.0 run.1 s at in (all.0, all.1));
          own = just_own;
          in_turns = turns_join (history q);
        }

    pub call_made : SameNotes p q → is_some (opening p) ≡ true → MadeCall (pass_record p) (pass_record q) command reply place
    call_made notes some = record {
      made = record {
        same = same_origin c.same notes;
        same_opening = same_opened c.same.same_opening;
        between = c.between ++ entry (number p) command reply ∷ [];
        seen = c.ends ∙ append_assoc (history p) c.between (entry (number p) command reply ∷ []);
        longer = omega (arith, length-append c.between (entry (number p) command reply ∷ []));
        calls_are = c.one_more;
        turned = turn_by_turn c.between ++ (new ∷ []) ∷ [];
        turns_are = turns_end ∙ append_assoc (turn_by_turn (history p)) (turn_by_turn c.between) ((new ∷ []) ∷ []);
        apart = omega (arith, length-append (turn_by_turn c.between) ((new ∷ []) ∷ []));
        just = inr just_own;
      };
      between = c.between;
      ends = c.ends;
      turned = turn_by_turn c.between;
      turns_end = turns_end;
      at = c.at ∙ ap (λ (n : ℕ). first_place p + n)
          (sym (turns_many (history p ++ c.between)) ∙
          ap (λ (l : List (List (Entry Command Reply))). length l) (turns_both (history p) c.between));
      legal = legal_from (opening p) refl some;
    }

    fits_from : (o : Option (Boxed Z)) → opening p ≡ o → is_some o ≡ true → IsReplyTo command reply
    fits_from None e some = absurd (cc)
    fits_from (Some m) e some =
        let run = c.legal m e m.value refl in
        let called = subst (λ (es : List (Entry Command Reply)). Run Turn m.value es run.0) c.ends run.1 in
        let a = turns_answer (history p ++ c.between) (entry (number p) command reply) m.value run.0 called in
        replies_fit a.before a.after command reply a.answered.step

    -- the reply is one to the command
    pub call_fits : is_some (opening p) ≡ true → IsReplyTo command reply
    call_fits some = fits_from (opening p) refl some

module _ {Z : Type 0} {G : Ghosts (View (Boxed Z) Command Reply)} (p : Pass (Boxed Z) Command Reply G) where
  pub sees_by_calls : SeesMoreByCalls p
  sees_by_calls q command reply place c = record {
    same_opening = same_opened p q c.same.same_opening;
    begins = (
      c.between ++ entry (number p) command reply ∷ [],
      sym (append_assoc (history p) c.between (entry (number p) command reply ∷ [])) ∙
          sym c.ends,
    );
  }

  pub sees_by_looks : SeesMoreByLooks p
  sees_by_looks q s = record { same_opening = same_opened p q s.same.same_opening; begins = s.begins }

  pub sees_by_notes : SeesMoreByNotes p
  sees_by_notes q k =
      record { same_opening = same_opened p q k.same.same_opening; begins = ([], append-nil (history p) ∙ sym k.same_history) }
