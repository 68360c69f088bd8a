-- What a table knows of a label comes from changes that were made.
use Rattle.std.proofs.Common.{◌≡◌, ◌||◌, ℕ, ◌≤◌, nat_lt, Bool, true, false, cond, List, [], ◌∷◌, ◌++◌, Option, Some, None, refl, ap}
use Rattle.std.proofs.Common.{sym, ◌∙◌, subst, inl, inr, ◌⊎◌, arith, Contains}
use Rattle.std.proofs.lemmas.Bool.Decides.{nat_tests}
use Rattle.std.proofs.lemmas.List.Elements.{Contains-append_left}
use Rattle.ds_names.specs.Endpoint.{EndpointRecord}
use Rattle.ds_names.specs.Key.{label_key}
use Rattle.ds_names.specs.Name.{is_same_name}
use Rattle.ds_entry.specs.Change.{ChangeRecord}
use Rattle.ds_entry.specs.Left.{endpoint_in}
use Rattle.ds_entry.specs.declared.item.Item.{Item}
use Rattle.ds_held.proofs.MergeLemmas.{no_some}
use Rattle.ds_machine.specs.Parts.{held_at}
use Rattle.driver_tables.specs.declared.moves.Move.{Move}
use Rattle.driver_tables.specs.declared.fault.TableFault.{TableFault}
use Rattle.driver_tables.specs.DriverTable.{DriverTable}
use Rattle.driver_tables.specs.Label.{LabelState, endpoint_now, newest, newer, is_old_for}
use Rattle.driver_tables.proofs.TestLemmas.{same_name}
use Rattle.driver_tables.proofs.UnitLemmas.{now_after, newest_after}
use Rattle.rs_core.specs.Action.{label_put, label_gone}
use Rattle.rs_to_store.specs.News.{is_below_newest}
use Rattle.rs_to_store.specs.Following.{Follows}
use Rattle.ds_system.specs.Sending.{is_late}
use Rattle.ds_system.proofs.CutLemmas.{table_past}
use Rattle.ds_system.proofs.LabelLemmas.{noted}
use Rattle.ds_system.proofs.NewsLemmas.{same_some, Notes, skips_or_notes}

-- ---- a label's change that was made
-- the change puts or deletes the label, and was made
abbrev pub IsLabelMade : List ChangeRecord → List ℕ → ChangeRecord → Type 0
IsLabelMade made l c =
    ((e : EndpointRecord) × (c ≡ label_put l e) × Contains made (label_put l e))
    ⊎ ((g : ℕ) × (c ≡ label_gone l g) × Contains made (label_gone l g))

-- ---- what a table knows
-- its endpoint and its newest generation come from a put that was made; where it has no endpoint now, a tombstone was made of
-- no lesser generation
pub record IsTold (made : List ChangeRecord) (t : DriverTable) : Type 0 where
  pub now : (l : List ℕ) (e : EndpointRecord) → endpoint_now t.states l ≡ Some e → Contains made (label_put l e)
  pub newest_is : (l : List ℕ) (g : ℕ) → newest t.states l ≡ Some g →
      (e : EndpointRecord) × Contains made (label_put l e) × (e.generation ≡ g)
  pub gone : (l : List ℕ) (g : ℕ) → newest t.states l ≡ Some g → endpoint_now t.states l ≡ None →
      (h : ℕ) × Contains made (label_gone l h) × (g ≤ h)

pub told_more : (made more : List ChangeRecord) (t : DriverTable) → IsTold made t → IsTold (made ++ more) t
told_more made more t k = record {
  now = λ l e q. Contains-append_left made more _ (k.now l e q);
  newest_is = λ l g q. (let r = k.newest_is l g q in (r.0, Contains-append_left made more _ r.1, r.2));
  gone = λ l g q n. (let r = k.gone l g q n in (r.0, Contains-append_left made more _ r.1, r.2));
}

-- equal states tell the same
pub told_same : (made : List ChangeRecord) (t u : DriverTable) → u.states ≡ t.states → IsTold made t → IsTold made u
told_same made t u e k = record {
  now = λ l f q. k.now l f (ap (λ (z : List LabelState). endpoint_now z l) (sym e) ∙ q);
  newest_is = λ l g q. k.newest_is l g (ap (λ (z : List LabelState). newest z l) (sym e) ∙ q);
  gone = λ l g q n. k.gone l g (ap (λ (z : List LabelState). newest z l) (sym e) ∙ q)
      (ap (λ (z : List LabelState). endpoint_now z l) (sym e) ∙ n);
}

-- ---- one label
module _ (made : List ChangeRecord) (held : List Item)
    (all : (l : List ℕ) (c : ChangeRecord) → held_at held (label_key l) ≡ Some c → IsLabelMade made l c) where
  module _ (x : DriverTable) (l : List ℕ) (n : Notes held x l) (k : IsTold made x) where
    abbrev y : DriverTable
    y = table_past held x l

    now_by : (label : List ℕ) (b : Bool) → is_same_name l label ≡ b →
        endpoint_now y.states label ≡ cond b (endpoint_in n.change.body) (endpoint_now x.states label)
    now_by label b q =
        ap (λ (z : DriverTable). endpoint_now z.states label) n.past
        ∙ (now_after x.states (noted l (endpoint_in n.change.body)) label ∙
        ap (λ (b : Bool). cond b (endpoint_in n.change.body) (endpoint_now x.states label)) q)

    newest_by : (label : List ℕ) (b : Bool) → is_same_name l label ≡ b →
        newest y.states label ≡ cond b (newer (newest x.states label) (endpoint_in n.change.body)) (newest x.states label)
    newest_by label b q =
        ap (λ (z : DriverTable). newest z.states label) n.past
        ∙ (newest_after x.states (noted l (endpoint_in n.change.body)) label ∙
        ap (λ (b : Bool). cond b (newer (newest x.states label) (endpoint_in n.change.body)) (newest x.states label)) q)

    -- the label's parts, from what it was and the change
    pub record TellsLabel (label : List ℕ) : Type 0 where
      pub now : (e : EndpointRecord) → endpoint_now y.states label ≡ Some e → Contains made (label_put label e)
      pub newest_is : (g : ℕ) → newest y.states label ≡ Some g →
          (e : EndpointRecord) × Contains made (label_put label e) × (e.generation ≡ g)
      pub gone : (g : ℕ) → newest y.states label ≡ Some g → endpoint_now y.states label ≡ None →
          (h : ℕ) × Contains made (label_gone label h) × (g ≤ h)

    other : (label : List ℕ) → is_same_name l label ≡ false → TellsLabel label
    other label q = record {
      now = λ e p. k.now label e (sym (now_by label false q) ∙ p);
      newest_is = λ g p. k.newest_is label g (sym (newest_by label false q) ∙ p);
      gone = λ g p m. k.gone label g (sym (newest_by label false q) ∙ p) (sym (now_by label false q) ∙ m);
    }

    module _ (own : is_same_name l l ≡ true) where
      of_put : (e : EndpointRecord) → n.change ≡ label_put l e → Contains made (label_put l e) → TellsLabel l
      of_put e same h = record {
        now = λ f p. subst (λ (z : EndpointRecord). Contains made (label_put l z)) (same_some e f (sym now_is ∙ p)) h;
        newest_is = λ g p. either (newest x.states l) refl g (sym (newest_is_so (newest x.states l) refl) ∙ p);
        gone = λ g p m. no_some e (sym m ∙ now_is);
      }
        where
          state : endpoint_in n.change.body ≡ Some e
          state = ap (λ (z : ChangeRecord). endpoint_in z.body) same

          now_is : endpoint_now y.states l ≡ Some e
          now_is = now_by l true own ∙ state

          newest_is_so : (o : Option ℕ) → newest x.states l ≡ o → newest y.states l ≡ newer o (Some e)
          newest_is_so o q = newest_by l true own ∙ (ap (newer (newest x.states l)) state ∙ ap (λ (z : Option ℕ). newer z (Some e)) q)

          some_number : (m n : ℕ) → Some m ≡ Some n → m ≡ n
          some_number m n q = cc

          either : (o : Option ℕ) → newest x.states l ≡ o → (g : ℕ) → newer o (Some e) ≡ Some g →
              (f : EndpointRecord) × Contains made (label_put l f) × (f.generation ≡ g)
          either None q g p = (e, h, some_number e.generation g p)
          either (Some old) q g p = by (nat_lt old e.generation) p
            where
              by : (b : Bool) → Some (cond b e.generation old) ≡ Some g →
                  (f : EndpointRecord) × Contains made (label_put l f) × (f.generation ≡ g)
              by true p = (e, h, some_number e.generation g p)
              by false p = k.newest_is l g (q ∙ p)

      of_gone : (h : ℕ) → n.change ≡ label_gone l h → Contains made (label_gone l h) → TellsLabel l
      of_gone h same c = record {
        now = λ f p. no_some f (sym now_is ∙ p);
        newest_is = λ g p. k.newest_is l g (sym newest_same ∙ p);
        gone = λ g p m. (h, c, not_below g (sym newest_same ∙ p));
      }
        where
          state : endpoint_in n.change.body ≡ None
          state = ap (λ (z : ChangeRecord). endpoint_in z.body) same

          now_is : endpoint_now y.states l ≡ None
          now_is = now_by l true own ∙ state

          newer_none : (o : Option ℕ) → newer o None ≡ o
          newer_none None = refl
          newer_none (Some g) = refl

          newest_same : newest y.states l ≡ newest x.states l
          newest_same = newest_by l true own ∙ (ap (newer (newest x.states l)) state ∙ newer_none (newest x.states l))

          first_false : (p q : Bool) → p || q ≡ false → p ≡ false
          first_false false q e = refl
          first_false true q e = e

          fresh : is_late x l n.change ≡ false
          fresh = first_false (is_late x l n.change) (is_old_for x.states l (endpoint_in n.change.body)) n.fresh

          below : is_below_newest (newest x.states l) h ≡ false
          below = sym (ap (is_late x l) same) ∙ fresh

          at_most : (g : ℕ) → nat_lt h g ≡ false → g ≤ h
          at_most g q = grind (arith, nat_tests)

          not_below : (g : ℕ) → newest x.states l ≡ Some g → g ≤ h
          not_below g q = at_most g (sym (ap (λ (o : Option ℕ). is_below_newest o h) q) ∙ below)

    each : (label : List ℕ) → TellsLabel label
    each label = by (is_same_name l label) refl
      where
        by : (b : Bool) → is_same_name l label ≡ b → TellsLabel label
        by false q = other label q
        by true q =
            let same : l ≡ label = same_name l label q in
            let own : is_same_name l l ≡ true = ap (is_same_name l) same ∙ q in
            subst TellsLabel same (elim (all l n.change n.there)
            [ inl p ↦ of_put own p.0 p.1 p.2 | inr g ↦ of_gone own g.0 g.1 g.2 ])

    noted_told : IsTold made y
    noted_told = record {
      now = λ label e p. (each label).now e p;
      newest_is = λ label g p. (each label).newest_is g p;
      gone = λ label g p m. (each label).gone g p m;
    }

  past_told : (x : DriverTable) (l : List ℕ) → IsTold made x → IsTold made (table_past held x l)
  past_told x l k = elim (skips_or_notes held x l) [
    | inl s ↦ subst (IsTold made) (sym s.past) k
    | inr n ↦ noted_told x l n k
  ]

  -- ---- a follow
  pub follow_told : (labels : List (List ℕ)) (t : DriverTable) (rounds : List (List Move)) (fault : Option TableFault) (u : DriverTable) →
      Follows held labels t rounds fault u → IsTold made t → IsTold made u
  follow_told [] t rounds fault u f k = subst (IsTold made) (sym f.2) k
  follow_told (l ∷ labels) t rounds fault u (inl (later, is, rest)) k =
      follow_told labels (table_past held t l) later fault u rest (past_told t l k)
  follow_told (l ∷ labels) t rounds fault u (inr stop) k = subst (IsTold made) (sym stop.table_is) k
