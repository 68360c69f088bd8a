-- What is held with its marks after a change or a floor was put at its place, or memory for it ran out.
use Rattle.std.proofs.Common.{◌≡◌, ℕ, List, length, Result, Ok, Err, sym, ap, ◌∙◌, subst}
use Rattle.std.specs.Result.{OnOk, OnErr}
use Rattle.ds_entry.specs.Change.{ChangeRecord}
use Rattle.ds_entry.specs.declared.floor.Floor.{Floor}
use Rattle.ds_join.specs.declared.merge.Merge.TheVariants.{Taken}
use Rattle.ds_held.specs.Held.{Holding, held_changes, held_floors, IsSound}
use Rattle.ds_held.specs.Merge.{after_merge}
use Rattle.ds_held.specs.Raise.{after_raise}
use Rattle.ds_held.specs.Kept.{left_by_floor, marks_left, put_at, IsFloorPlace, IsPlace}
use Rattle.ds_index.specs.Marked.{MarkedHolding}
use Rattle.ds_index.specs.Beside.{floor_marks_of, marked_by, IsBeside, IsBesideFloors}
use Rattle.ds_index.specs.Put.{IsPutMarked, IsRaisedMarked}
use Rattle.ds_index.proofs.MarkLemmas.{beside_put, marks_with, beside_raised, marks_kept}
use Rattle.ds_index.proofs.FloorMarkLemmas.{floor_beside_raised, floor_marks_raised}

module _ {M : Type 0} (h : Holding) (ms fs : List M) (beside : IsBeside h ms) (floors : IsBesideFloors h fs) where
  -- a change and its mark
  pub record IsPutBeside {U E : Type 0} (old : MarkedHolding M) (c : ChangeRecord) (m : M) (r : Result U E) (new : Holding) (ns : List M) :
      Type 0 where
    pub marks : IsBeside new ns
    pub floor_marks : IsBesideFloors new fs
    pub put : OnOk r (IsPutMarked old c m (marked_by new ns fs))
    pub same : OnErr r (marked_by new ns fs ≡ old)

  module _ (c : ChangeRecord) (place : Result ℕ ℕ) (at : IsPlace (held_changes h) c.key place) (m : M) where
    put_facts : {U E : Type 0} (r : Result U E) (new : Holding) (ns : List M) → IsSound new → OnOk r (new ≡ after_merge h c (Ok Taken)) →
        OnOk r (held_changes new ≡ put_at (held_changes h) place c)
        → OnOk r (ns ≡ put_at ms place m) → OnErr r (new ≡ h) → OnErr r (ns ≡ ms) → IsPutBeside (marked_by h ms fs) c m r new ns
    put_facts (Ok u) new ns sound after list marks same same_marks = record {
      marks = beside_put h ms beside c place at m new ns marks list sound;
      floor_marks = floors ∙ sym (ap (λ (x : Holding). length (held_floors x)) after);
      put = record {
        held = after;
        marks = marks_with h ms beside c place at m new ns marks list;
        floor_marks = ap (λ (x : Holding). floor_marks_of x fs) after;
      };
      same = tt;
    }
    put_facts (Err e) new ns sound after list marks same same_marks = record {
      marks = subst (λ (x : Holding). IsBeside x ns) (sym same) (subst (IsBeside h) (sym same_marks) beside);
      floor_marks = subst (λ (x : Holding). IsBesideFloors x fs) (sym same) floors;
      put = tt;
      same = ap (λ (x : Holding). marked_by x ns fs) same ∙ ap (λ l. marked_by h l fs) same_marks;
    }

    pub put_beside : {U E : Type 0} (old : MarkedHolding M) → marked_by h ms fs ≡ old → (r : Result U E) (new : Holding) (ns : List M) →
        IsSound new → OnOk r (new ≡ after_merge h c (Ok Taken))
        → OnOk r (held_changes new ≡ put_at (held_changes h) place c) → OnOk r (ns ≡ put_at ms place m) → OnErr r (new ≡ h) →
        OnErr r (ns ≡ ms) → IsPutBeside old c m r new ns
    put_beside old is r new ns sound after list marks same same_marks =
        subst (λ (o : MarkedHolding M). IsPutBeside o c m r new ns) is (put_facts r new ns sound after list marks same same_marks)

  -- a floor and its mark
  pub record IsRaisedBeside {U E : Type 0} (old : MarkedHolding M) (f : Floor) (m : M) (r : Result U E) (new : Holding) (ns gs : List M) :
      Type 0 where
    pub marks : IsBeside new ns
    pub floor_marks : IsBesideFloors new gs
    pub raised : OnOk r (IsRaisedMarked old f m (marked_by new ns gs))
    pub same : OnErr r (marked_by new ns gs ≡ old)

  module _ (f : Floor) (place : Result ℕ ℕ) (at : IsFloorPlace (held_floors h) f.owner place) (m : M) where
    raised_facts : {U E : Type 0} (r : Result U E) (new : Holding) (ns gs : List M) → IsSound new →
        OnOk r (new ≡ after_raise h f (Ok Taken)) → OnOk r (held_changes new ≡ left_by_floor f (held_changes h))
        → OnOk r (ns ≡ marks_left f (held_changes h) ms) → OnOk r (gs ≡ put_at fs place m) → OnErr r (new ≡ h) → OnErr r (ns ≡ ms) →
        OnErr r (gs ≡ fs) → IsRaisedBeside (marked_by h ms fs) f m r new ns gs
    raised_facts (Ok u) new ns gs sound after list marks floor_marks same same_marks same_floor_marks = record {
      marks = beside_raised h ms beside f new ns marks list sound;
      floor_marks = floor_beside_raised h fs floors f place at m new gs after floor_marks;
      raised = record {
        held = after;
        marks = marks_kept h ms beside f new ns marks list;
        floor_marks = floor_marks_raised h fs floors f place at m new gs after floor_marks;
      };
      same = tt;
    }
    raised_facts (Err e) new ns gs sound after list marks floor_marks same same_marks same_floor_marks = record {
      marks = subst (λ (x : Holding). IsBeside x ns) (sym same) (subst (IsBeside h) (sym same_marks) beside);
      floor_marks = subst (λ (x : Holding). IsBesideFloors x gs) (sym same) (subst (IsBesideFloors h) (sym same_floor_marks) floors);
      raised = tt;
      same = ap (λ (x : Holding). marked_by x ns gs) same ∙ ap (λ l. marked_by h l gs) same_marks ∙ ap (marked_by h ms) same_floor_marks;
    }

    pub raised_with : {U E : Type 0} (old : MarkedHolding M) → marked_by h ms fs ≡ old →
        (r : Result U E) (new : Holding) (ns gs : List M) → IsSound new → OnOk r (new ≡ after_raise h f (Ok Taken))
        → OnOk r (held_changes new ≡ left_by_floor f (held_changes h)) → OnOk r (ns ≡ marks_left f (held_changes h) ms) →
        OnOk r (gs ≡ put_at fs place m) → OnErr r (new ≡ h) → OnErr r (ns ≡ ms) → OnErr r (gs ≡ fs)
        → IsRaisedBeside old f m r new ns gs
    raised_with old is r new ns gs sound after list marks floor_marks same same_marks same_floor_marks =
        subst (λ (o : MarkedHolding M). IsRaisedBeside o f m r new ns gs) is
        (raised_facts r new ns gs sound after list marks floor_marks same same_marks same_floor_marks)
