-- What a holder of changes and floors lists: no floor voids a label, so a raised floor drops none.
use Rattle.std.proofs.Common.{◌≡◌, ℕ, ◌&&◌, nat_le, not, false, cond, List, Option, Some, None, Result, Ok, Err, refl, sym, ap, ◌∙◌, subst}
use Rattle.std.specs.Ordering.{eq_by_cmp}
use Rattle.std.specs.FinMap.{get, get-retain_keys}
use Rattle.std.specs.Option.{option_map}
use Rattle.std.specs.Result.{OnOk, OnErr}
use Rattle.std.proofs.lemmas.Option.{same_Some}
use Rattle.ds_names.specs.declared.key.Key.{Key}
use Rattle.ds_names.specs.declared.kind.Kind.TheVariants.{Label}
use Rattle.ds_names.specs.Key.{name_cmp, label_key}
use Rattle.ds_names.proofs.OrderLemmas.{exact_keys}
use Rattle.ds_entry.specs.Change.{ChangeRecord}
use Rattle.ds_entry.specs.Void.{voids}
use Rattle.ds_entry.specs.declared.floor.Floor.{Floor}
use Rattle.ds_join.specs.declared.merge.Merge.TheVariants.{Taken}
use Rattle.ds_held.specs.Held.{Holding, held_for, IsSound}
use Rattle.ds_held.specs.Raise.{stays, after_raise}
use Rattle.ds_index.specs.Marked.{MarkedHolding}
use Rattle.ds_index.specs.Put.{IsPutMarked, IsRaisedMarked}
use Rattle.ds_index.specs.declared.named.Named.{Named}
use Rattle.ds_index.specs.Named.{named_at}
use Rattle.ds_index.specs.Indexed.{endpoint_left, holder_for, IsIndexed}
use Rattle.ds_index.proofs.IndexedLemmas.{other_indexed}
use Rattle.ds_names.specs.Kind.{is_label}

-- No floor voids a label.
label_stands : (f : Floor) (c : ChangeRecord) → c.key.kind ≡ Label → voids f c ≡ false
label_stands f c e = ap (λ k. not (is_label k) && (eq_by_cmp name_cmp c.owner f.owner && nat_le c.version.epoch f.generation)) e

-- the labels are listed as they are held after the change of another key
pub other_put : {M U E : Type 0} (old new : MarkedHolding M) (c : ChangeRecord) (m : M) (r : Result U E) (names : List Named) →
    IsIndexed old.held.changes names → (c.key.kind ≡ Label → ⊥)
    → OnOk r (IsPutMarked old c m new) → OnErr r (new ≡ old) → IsIndexed new.held.changes names
other_put old new c m (Ok u) names i other put same =
    subst (λ (h : Holding). IsIndexed h.changes names) (sym put.held) (other_indexed old.held.changes c names i other)
other_put old new c m (Err e) names i other put same = subst (λ h. IsIndexed h.held.changes names) (sym same) i

-- and after a floor is raised
module _ (old : Holding) (sound : IsSound old) (f : Floor) (names : List Named) (i : IsIndexed old.changes names) where
  same_label : (name : List ℕ) → held_for (after_raise old f (Ok Taken)) (label_key name) ≡ held_for old (label_key name)
  same_label name =
      get-retain_keys old.changes (λ k. stays f (get old.changes k)) (label_key name)
      (λ x t. ap (λ k. stays f (get old.changes k)) (sym (exact_keys (label_key name) x t)))
      ∙ by_held (held_for old (label_key name)) refl
    where
      by_held : (o : Option ChangeRecord) → held_for old (label_key name) ≡ o → cond (stays f o) o None ≡ o
      by_held None e = refl
      by_held (Some c) e = ap (λ b. cond (not b) (Some c) None)
          (label_stands f c (ap (λ (k : Key). k.kind) (sound.own (label_key name) c e)))

  same_holder : (name : List ℕ) → holder_for (after_raise old f (Ok Taken)).changes name ≡ holder_for old.changes name
  same_holder name = ap (option_map endpoint_left) (same_label name)

  raised_indexed : IsIndexed (after_raise old f (Ok Taken)).changes names
  raised_indexed = record {
    listed = λ p e. i.listed p (sym (same_holder p.name) ∙ e);
    held = λ p h. same_holder p.name ∙ i.held p h;
  }

pub raised_kept : {M U E : Type 0} (old new : MarkedHolding M) (f : Floor) (m : M) (r : Result U E) (names : List Named) →
    IsSound old.held → IsIndexed old.held.changes names
    → OnOk r (IsRaisedMarked old f m new) → OnErr r (new ≡ old) → IsIndexed new.held.changes names
raised_kept old new f m (Ok u) names sound i raised same =
    subst (λ (h : Holding). IsIndexed h.changes names) (sym raised.held) (raised_indexed old.held sound f names i)
raised_kept old new f m (Err e) names sound i raised same = subst (λ h. IsIndexed h.held.changes names) (sym same) i

-- what is listed of a label that is held
pub listed_is : (o : Option ChangeRecord) (name : List ℕ) (before : Named) →
    option_map (λ (c : ChangeRecord). named_at (endpoint_left c) name) o ≡ Some before
    → (before.name ≡ name) × (option_map endpoint_left o ≡ Some before.endpoint)
listed_is None name before e = absurd (cc)
listed_is (Some c) name before e =
    let is = same_Some (named_at (endpoint_left c) name) before e in
    (ap (λ (p : Named). p.name) (sym is), ap (λ (p : Named). Some p.endpoint) is)

pub unlisted_is : (o : Option ChangeRecord) (name : List ℕ) → option_map (λ (c : ChangeRecord). named_at (endpoint_left c) name) o ≡ None →
    o ≡ None
unlisted_is None name e = refl
unlisted_is (Some c) name e = absurd (cc)
