-- What a desk's calls say of a pass, by the store's part.
use Rattle.std.proofs.Common.{◌≡◌, ℕ, ◌+◌, true, false, List, [], ◌∷◌, ◌++◌, length, Option, Some, None, refl, ap, sym, ◌∙◌, subst, inr}
use Rattle.std.proofs.Common.{arith, append-nil, append_assoc, length-append}
use Rattle.std.specs.Prelude.{is_some}
use Rattle.std.specs.Option.{option_map}
use Rattle.history.specs.declared.entry.Entry.{Entry}
use Rattle.history.specs.History.{calls_by, entry, Run}
use Rattle.history.proofs.RunLemmas.{run_end}
use Rattle.desk_rule.specs.declared.view.View.{View}
use Rattle.desk.specs.declared.fault.DeskFault.{DeskFault}
use Rattle.desk.specs.declared.pass.Sight.{Ghosts}
use Rattle.desk.specs.Pass.{calls, first_place, history, number, opening, Pass}
use Rattle.desk.specs.Calls.{Calls, FindsNoPlace, IsSamePass, SameNotes, Sees, next_place}
use Rattle.ds_machine.specs.Says.{IsReplyTo}
use Rattle.ds_machine.specs.declared.command.Command.{Command}
use Rattle.ds_machine.specs.declared.reply.Reply.{Reply}
use Rattle.ds_machine.proofs.FitLemmas.{replies_fit}
use Rattle.ds_content.specs.Content.{ContentRecord}
use Rattle.ds_store.specs.Turns.{Turn}
use Rattle.ds_store.proofs.TurnLemmas.{turns_answer, turns_run}
use Rattle.desk_store.specs.Called.{FoundWorn, Made, MadeCall}
use Rattle.desk_store.specs.Record.{HasJustItsCalls, HasLegalHistory, IsInTurns, place_after}
use Rattle.desk_store.proofs.PassLemmas.{first_stood}
use Rattle.rs_core.specs.State.{RsRecord}
use Rattle.rs_store.specs.ByRs.{is_by_rs}
use Rattle.rs_store.specs.Laws.{StoreTurnsRun, store_entries}
use Rattle.rs_store.specs.Pair.{PairRecord}
use Rattle.rs_store.specs.Serving.{ClientTurn, passes_for_rs}
use Rattle.rs_store.specs.Turns.{RsTurn}
use Rattle.rs_store.specs.declared.call.RsCommand.{RsCommand}
use Rattle.rs_store.specs.declared.call.RsCommand.TheVariants.{Ask}
use Rattle.rs_store.specs.declared.call.RsReply.{RsReply}
use Rattle.rs_store.specs.declared.call.RsReply.TheVariants.{Replied, NotAllowed, Begun, Exists, NotBegun, Acted, Refused}
use Rattle.desk_store.specs.PairLater.{PairSeesMoreByCalls, PairSeesMoreByLooks, PairSeesMoreByNotes}
use Rattle.desk_store.specs.PairRecord.{BoxedPair, boxed_store, is_pair, pair_origin, pair_record, store_turns}
use Rattle.desk_store.proofs.PartLemmas.{part_both, part_of, turns_both, turns_join, turns_many}

-- ---- a client's command that isn't in RS's name gets the store's reply
in_rs_name : (services : Option RsRecord) (command : Command) → passes_for_rs services command ≡ true → is_by_rs command ≡ false → ⊥
in_rs_name None command passes other = absurd (cc)
in_rs_name (Some rs) command passes other = absurd (cc)

replied_by : (services : Option RsRecord) (command : Command) (reply : RsReply) (old new : ContentRecord) →
    ClientTurn services old command reply new →
    is_by_rs command ≡ false → (r : Reply) × (reply ≡ Replied r)
replied_by services command (Replied r) old new turn other = (r, refl)
replied_by services command NotAllowed old new turn other = absurd (in_rs_name services command turn.0 other)
replied_by services command (Begun s n) old new turn other = absurd turn
replied_by services command Exists old new turn other = absurd turn
replied_by services command (NotBegun fault) old new turn other = absurd turn
replied_by services command (Acted actions replies given) old new turn other = absurd turn
replied_by services command (Refused fault) old new turn other = absurd turn

module _ {Z : Type 0} {G : Ghosts (View (BoxedPair Z) RsCommand RsReply)} (p : Pass (BoxedPair Z) RsCommand RsReply G) where
  pub after_is : place_after (pair_record p) ≡ next_place p
  after_is = ap (λ (n : ℕ). first_place p + n) (turns_many (history p))

  pub is_in_turns : IsInTurns (pair_record p)
  is_in_turns = turns_join (history p)

module _ {Z : Type 0} {G : Ghosts (View (BoxedPair Z) RsCommand RsReply)} (p q : Pass (BoxedPair Z) RsCommand RsReply G) where
  -- no call changes which pass it is
  same_origin : IsSamePass p q → SameNotes p q → pair_origin q ≡ pair_origin p
  same_origin s notes = rw (s.same_desk, s.same_number, s.same_first, notes.0, notes.1) refl

  same_opened : opening q ≡ opening p → option_map boxed_store (opening q) ≡ option_map boxed_store (opening p)
  same_opened e = ap (λ (o : Option (BoxedPair Z)). option_map boxed_store o) e

  just_own : IsSamePass p q → calls_by (number p) (history q) ≡ calls q → HasJustItsCalls (pair_record q)
  just_own same own =
      part_of (number q) (history q) ∙ ap (λ (l : List (Entry RsCommand RsReply)). store_entries l)
      (subst (λ (n : ℕ). calls_by n (history q) ≡ calls q) (sym same.same_number) own)

  -- ---- it looked, and called nothing
  pub sees_made : Sees is_pair RsTurn p q → SameNotes p q → Made (pair_record p) (pair_record q) []
  sees_made s notes = record {
    same = same_origin s.same notes;
    same_opening = same_opened s.same.same_opening;
    between = store_entries s.begins.0;
    seen = ap (λ (l : List (Entry RsCommand RsReply)). store_entries l) (sym s.begins.1) ∙ part_both (history p) s.begins.0;
    longer = omega arith;
    calls_are = ap (λ (l : List (Entry RsCommand RsReply)). store_entries l) s.same_calls ∙ sym (append-nil (store_entries (calls p)));
    turned = store_turns s.begins.0;
    turns_are = ap (λ (l : List (Entry RsCommand RsReply)). store_turns l) (sym s.begins.1) ∙ turns_both (history p) s.begins.0;
    apart = omega arith;
    just = inr (just_own s.same s.own);
  }

  pub found_worn : (fault : DeskFault) → SameNotes p q → FindsNoPlace is_pair RsTurn fault p q →
      FoundWorn (pair_record p) (pair_record q) fault
  found_worn fault notes f = record { fault_is = f.0; made = sees_made f.1 notes; full = after_is q ∙ f.3 }

  -- ---- it called
  replied_from : (o : Option (BoxedPair Z)) → opening p ≡ o → is_some o ≡ true → (command : Command) (reply : RsReply) (place : ℕ) →
      Calls is_pair RsTurn p q (Ask command) reply place → is_by_rs command ≡ false → (r : Reply) × (reply ≡ Replied r)
  replied_from None e some command reply place c other = absurd (cc)
  replied_from (Some m) e some command reply place c other =
      let run = c.legal m e m.value refl in
      let ends = run_end RsTurn m.value run.0 (history p ++ c.between) (entry (number p) (Ask command) reply)
      (subst (λ (es : List (Entry RsCommand RsReply)). Run RsTurn m.value es run.0) c.ends run.1) in
      replied_by ends.0.services command reply ends.0.store run.0.store ends.2.0 other

  pub replied : is_some (opening p) ≡ true → (command : Command) (reply : RsReply) (place : ℕ) →
      Calls is_pair RsTurn p q (Ask command) reply place →
      is_by_rs command ≡ false → (r : Reply) × (reply ≡ Replied r)
  replied some command reply place c other = replied_from (opening p) refl some command reply place c other

  module _ (says : StoreTurnsRun) (command : Command) (reply : Reply) (place : ℕ)
      (c : Calls is_pair RsTurn p q (Ask command) (Replied reply) place) where
    abbrev asked : Entry RsCommand RsReply
    asked = entry (number p) (Ask command) (Replied reply)

    abbrev new : Entry Command Reply
    new = entry (number p) command reply

    ends : store_entries (history q) ≡ (store_entries (history p) ++ store_entries c.between) ++ new ∷ []
    ends =
        ap (λ (l : List (Entry RsCommand RsReply)). store_entries l) c.ends ∙ part_both (history p ++ c.between) (asked ∷ [])
        ∙ ap (λ (l : List (Entry Command Reply)). l ++ new ∷ []) (part_both (history p) c.between)

    turns_end : store_turns (history q) ≡ (store_turns (history p) ++ store_turns c.between) ++ (new ∷ []) ∷ []
    turns_end =
        ap (λ (l : List (Entry RsCommand RsReply)). store_turns l) c.ends ∙ turns_both (history p ++ c.between) (asked ∷ [])
        ∙ ap (λ (l : List (List (Entry Command Reply))). l ++ (new ∷ []) ∷ []) (turns_both (history p) c.between)

    store_run : (m : BoxedPair Z) (t : PairRecord) → Run RsTurn m.value (history q) t →
        Run Turn m.value.store ((store_entries (history p) ++ store_entries c.between) ++ new ∷ []) t.store
    store_run m t run = subst (λ (es : List (Entry Command Reply)). Run Turn m.value.store es t.store) ends (says (history q) m.value t run)

    legal_from : (o : Option (BoxedPair Z)) → opening p ≡ o → is_some o ≡ true → HasLegalHistory (pair_record q)
    legal_from None e some = absurd (cc)
    legal_from (Some m) e some =
        let run = c.legal m e m.value refl in
        let stood = first_stood (store_entries (history p) ++ store_entries c.between) new m.value.store run.0.store
        (store_run m run.0 run.1) in
        record {
          content = m.value.store;
          opened_with = same_opened c.same.same_opening ∙ ap (λ (x : Option (BoxedPair Z)). option_map boxed_store x) e;
          begun = stood.0;
          stood = stood.1;
          legal = λ s at. (let all = turns_run (store_entries (history q)) m.value.store run.0.store (says (history q) m.value run.0 run.1)
              s at in (all.0, all.1));
          own = just_own c.same c.own;
          in_turns = turns_join (history q);
        }

    pub call_made : SameNotes p q → is_some (opening p) ≡ true → MadeCall (pair_record p) (pair_record q) command reply place
    call_made notes some = record {
      made = record {
        same = same_origin c.same notes;
        same_opening = same_opened c.same.same_opening;
        between = store_entries c.between ++ new ∷ [];
        seen = ends ∙ append_assoc (store_entries (history p)) (store_entries c.between) (new ∷ []);
        longer = omega (arith, length-append (store_entries c.between) (new ∷ []));
        calls_are = ap (λ (l : List (Entry RsCommand RsReply)). store_entries l) c.one_more ∙ part_both (calls p) (asked ∷ []);
        turned = store_turns c.between ++ (new ∷ []) ∷ [];
        turns_are = turns_end ∙ append_assoc (store_turns (history p)) (store_turns c.between) ((new ∷ []) ∷ []);
        apart = omega (arith, length-append (store_turns c.between) ((new ∷ []) ∷ []));
        just = inr (just_own c.same c.own);
      };
      between = store_entries c.between;
      ends = ends;
      turned = store_turns c.between;
      turns_end = turns_end;
      at = c.at ∙ ap (λ (n : ℕ). first_place p + n)
          (sym (turns_many (history p ++ c.between)) ∙
          ap (λ (l : List (List (Entry Command Reply))). length l) (turns_both (history p) c.between));
      legal = legal_from (opening p) refl some;
    }

    fits_from : (o : Option (BoxedPair Z)) → opening p ≡ o → is_some o ≡ true → IsReplyTo command reply
    fits_from None e some = absurd (cc)
    fits_from (Some m) e some =
        let run = c.legal m e m.value refl in
        let a = turns_answer (store_entries (history p) ++ store_entries c.between) new m.value.store run.0.store
        (store_run m run.0 run.1) in
        replies_fit a.before a.after command reply a.answered.step

    -- the reply is one to the command
    pub call_fits : is_some (opening p) ≡ true → IsReplyTo command reply
    call_fits some = fits_from (opening p) refl some

module _ {Z : Type 0} {G : Ghosts (View (BoxedPair Z) RsCommand RsReply)} (p : Pass (BoxedPair Z) RsCommand RsReply G) where
  pub sees_by_calls : PairSeesMoreByCalls p
  sees_by_calls q command reply place c = record {
    same_opening = same_opened p q c.same.same_opening;
    begins = (
      store_entries (c.between ++ entry (number p) command reply ∷ []),
      sym (part_both (history p) (c.between ++ entry (number p) command reply ∷ []))
          ∙ ap (λ (l : List (Entry RsCommand RsReply)). store_entries l)
          (sym (append_assoc (history p) c.between (entry (number p) command reply ∷ [])) ∙ sym c.ends),
    );
  }

  pub sees_by_looks : PairSeesMoreByLooks p
  sees_by_looks q s = record {
    same_opening = same_opened p q s.same.same_opening;
    begins = (
      store_entries s.begins.0,
      sym (part_both (history p) s.begins.0) ∙
          ap (λ (l : List (Entry RsCommand RsReply)). store_entries l) s.begins.1,
    );
  }

  pub sees_by_notes : PairSeesMoreByNotes p
  sees_by_notes q k = record {
    same_opening = same_opened p q k.same.same_opening;
    begins =
        ([], append-nil (store_entries (history p)) ∙ ap (λ (l : List (Entry RsCommand RsReply)). store_entries l) (sym k.same_history));
  }
