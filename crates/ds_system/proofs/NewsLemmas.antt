-- What a table does with the news of one label.
use Rattle.std.proofs.Common.{◌≡◌, ◌||◌, ℕ, Bool, true, false, cond, List, [], Option, Some, None, Result, Ok, refl, ap, sym, ◌∙◌, subst}
use Rattle.std.proofs.Common.{inl, inr, ◌⊎◌, append-nil}
use Rattle.std.proofs.lemmas.Bool.{or_left, or_right}
use Rattle.ds_names.specs.Endpoint.{EndpointRecord}
use Rattle.ds_names.specs.Key.{label_key}
use Rattle.ds_names.proofs.Tests.{opposed}
use Rattle.ds_entry.specs.Change.{ChangeRecord}
use Rattle.ds_entry.specs.Left.{endpoint_in}
use Rattle.ds_entry.specs.declared.item.Item.{Item}
use Rattle.ds_held.proofs.MergeLemmas.{no_some}
use Rattle.ds_machine.specs.Parts.{held_at}
use Rattle.driver_tables.specs.declared.moves.Move.{Move}
use Rattle.driver_tables.specs.declared.fault.TableFault.{TableFault}
use Rattle.driver_tables.specs.Driver.{has_label}
use Rattle.driver_tables.specs.DriverTable.{DriverTable}
use Rattle.driver_tables.specs.Doing.{does}
use Rattle.driver_tables.specs.Changed.{all_moves, notes, changing}
use Rattle.driver_tables.specs.Label.{endpoint_now, newest, is_same_state, is_old_for}
use Rattle.driver_tables.proofs.RunLemmas.{changed_so}
use Rattle.rs_to_store.specs.News.{told}
use Rattle.rs_to_store.specs.Following.{news_of, as_round, taking}
use Rattle.ds_system.specs.Sending.{is_late, is_passed}
use Rattle.ds_system.proofs.CutLemmas.{moves_of_rounds, round_at, table_past}

pub same_some : {X : Type 0} (x y : X) → Some x ≡ Some y → x ≡ y
same_some x y e = cc

neither : (a b : Bool) → a ≡ false → b ≡ false → a || b ≡ false
neither false b p q = q
neither true b p q = opposed true refl p

-- a state is the one that the label has now
abbrev is_now_at : DriverTable → List ℕ → Option EndpointRecord → Bool
is_now_at x l state = is_same_state (endpoint_now x.states l) state

-- the moves of a state, none if the label has it already, and the table after them
abbrev pub moves_for : Bool → DriverTable → List ℕ → Option EndpointRecord → List Move
moves_for now x l state = cond now [] (all_moves x l state)

abbrev pub table_with : Bool → DriverTable → List ℕ → Option EndpointRecord → DriverTable
table_with now x l state = does (notes x l state) (moves_for now x l state)

-- the map's change of the label was passed over, if there is one and some unit has the label
pub record Skips (held : List Item) (x : DriverTable) (l : List ℕ) : Type 0 where
  pub past : table_past held x l ≡ x
  pub none : moves_of_rounds (round_at held x l) ≡ []
  pub why : (c : ChangeRecord) → held_at held (label_key l) ≡ Some c → has_label x.units l ≡ true → is_passed x l c ≡ true

-- or it is the label's state now
pub record Notes (held : List Item) (x : DriverTable) (l : List ℕ) : Type 0 where
  pub change : ChangeRecord
  pub there : held_at held (label_key l) ≡ Some change
  pub fresh : is_passed x l change ≡ false
  pub now : Bool
  pub answer : changing x l (endpoint_in change.body) ≡
      (Ok (moves_for now x l (endpoint_in change.body)), table_with now x l (endpoint_in change.body))
  pub past : table_past held x l ≡ table_with now x l (endpoint_in change.body)
  pub moves : moves_of_rounds (round_at held x l) ≡ moves_for now x l (endpoint_in change.body)

-- the news of the label
record IsTold (held : List Item) (x : DriverTable) (l : List ℕ) : Type 0 where
  change : ChangeRecord
  there : held_at held (label_key l) ≡ Some change
  fresh : is_late x l change ≡ false
  news : news_of held x l ≡ Some (endpoint_in change.body)

module _ (held : List Item) (x : DriverTable) (l : List ℕ) where
  told_is : (state : Option EndpointRecord) → news_of held x l ≡ Some state → IsTold held x l
  told_is state e = by (held_at held (label_key l)) refl e
    where
      by : (o : Option ChangeRecord) → held_at held (label_key l) ≡ o → told (newest x.states l) o ≡ Some state → IsTold held x l
      by None q k = no_some state k
      by (Some c) q k = by_late (is_late x l c) refl k
        where
          by_late : (b : Bool) → is_late x l c ≡ b → cond b None (Some (endpoint_in c.body)) ≡ Some state → IsTold held x l
          by_late true f j = no_some state j
          by_late false f j = record { change = c; there = q; fresh = f; news = e ∙ sym j }

  untold : (c : ChangeRecord) → news_of held x l ≡ None → held_at held (label_key l) ≡ Some c → is_late x l c ≡ true
  untold c e there = by (is_late x l c) refl (ap (told (newest x.states l)) (sym there) ∙ e)
    where
      by : (b : Bool) → is_late x l c ≡ b → cond b None (Some (endpoint_in c.body)) ≡ None → is_late x l c ≡ true
      by true f k = f
      by false f k = no_some (endpoint_in c.body) (sym k)

  -- the effect of the news
  module _ (t : IsTold held x l) where
    abbrev state : Option EndpointRecord
    state = endpoint_in t.change.body

    -- the answer to it, by the judgement of the state
    answer_is : (has old now : Bool) → has_label x.units l ≡ has → is_old_for x.states l state ≡ old → is_now_at x l state ≡ now →
        changing x l state ≡ changed_so x l state has old now
    answer_is has old now a b c =
        ap (λ (z : Bool). changed_so x l state z (is_old_for x.states l state) (is_now_at x l state)) a
        ∙ (ap (λ (z : Bool). changed_so x l state has z (is_now_at x l state)) b ∙ ap (changed_so x l state has old) c)

    taking_is : (out : Result (List Move) TableFault × DriverTable) → changing x l state ≡ out →
        taking x l (news_of held x l) ≡ as_round x out
    taking_is out e = ap (taking x l) t.news ∙ ap (as_round x) e

    skipped : (out : Result (List Move) TableFault × DriverTable) → changing x l state ≡ out → moves_of_rounds (as_round x out).0 ≡ [] →
        (as_round x out).1 ≡ x
        → (has_label x.units l ≡ true → is_passed x l t.change ≡ true) → Skips held x l
    skipped out e none past why = record {
      past = ap (λ (p : List (List Move) × DriverTable). p.1) (taking_is out e) ∙ past;
      none = ap (λ (p : List (List Move) × DriverTable). moves_of_rounds p.0) (taking_is out e) ∙ none;
      why = λ c there has. subst (λ (z : ChangeRecord). is_passed x l z ≡ true) (same_some t.change c (sym t.there ∙ there)) (why has);
    }

    noted : (now : Bool) → is_old_for x.states l state ≡ false →
        changing x l state ≡ (Ok (moves_for now x l state), table_with now x l state) → Notes held x l
    noted now b e = record {
      change = t.change;
      there = t.there;
      fresh = neither (is_late x l t.change) (is_old_for x.states l state) t.fresh b;
      now = now;
      answer = e;
      past = ap (λ (p : List (List Move) × DriverTable). p.1) (taking_is (Ok (moves_for now x l state), table_with now x l state) e);
      moves = ap (λ (p : List (List Move) × DriverTable). moves_of_rounds p.0)
          (taking_is (Ok (moves_for now x l state), table_with now x l state) e) ∙ append-nil (moves_for now x l state);
    }

    by_tests : (has : Bool) → has_label x.units l ≡ has → (old : Bool) → is_old_for x.states l state ≡ old → Skips held x l ⊎ Notes held x l
    by_tests false a old b =
        inl (skipped (changed_so x l state false old (is_now_at x l state)) (answer_is false old (is_now_at x l state) a b refl) refl refl
        (λ has. opposed (has_label x.units l) has a))
    by_tests true a true b =
        inl (skipped (changed_so x l state true true (is_now_at x l state)) (answer_is true true (is_now_at x l state) a b refl) refl refl
        (λ has. or_right (is_late x l t.change) (is_old_for x.states l state) b))
    by_tests true a false b = inr (noted (is_now_at x l state) b (answer_is true false (is_now_at x l state) a b refl))

  of_told : IsTold held x l → Skips held x l ⊎ Notes held x l
  of_told t = by_tests t (has_label x.units l) refl (is_old_for x.states l (endpoint_in t.change.body)) refl

  pub skips_or_notes : Skips held x l ⊎ Notes held x l
  skips_or_notes = by (news_of held x l) refl
    where
      by : (n : Option (Option EndpointRecord)) → news_of held x l ≡ n → Skips held x l ⊎ Notes held x l
      by (Some s) q = of_told (told_is s q)
      by None q = inl (record {
        past = ap (λ (n : Option (Option EndpointRecord)). (taking x l n).1) q;
        none = ap (λ (n : Option (Option EndpointRecord)). moves_of_rounds (taking x l n).0) q;
        why = λ c there has. or_left (is_late x l c) (is_old_for x.states l (endpoint_in c.body)) (untold c q there);
      })
