-- The first cause by what is held for the key, and after it that of the limits.
use Rattle.std.proofs.Common.{◌≡◌, ℕ, Bool, true, false, not, ◌&&◌, cond, List, ◌++◌, map, Option, Some, None, refl, ap, sym, ◌∙◌}
use Rattle.std.proofs.lemmas.List.Folds.{find-append}
use Rattle.std.specs.List.{find}
use Rattle.std.specs.Option.{option_or}
use Rattle.ds_names.specs.declared.version.Version.{Version}
use Rattle.ds_entry.specs.declared.body.Body.{Body}
use Rattle.ds_entry.specs.Change.{ChangeRecord, change_of}
use Rattle.ds_machine.specs.Order.{first_cause, by_version, by_room}
use Rattle.ds_machine.specs.Standing.{Standing, against_change}
use Rattle.ds_machine.specs.Asking.{AskedChange, is_live, against_asked}
use Rattle.ds_machine.specs.declared.refusal.Cause.{Cause}
use Rattle.ds_machine.specs.declared.refusal.Cause.TheVariants as causes
use Rattle.ds_machine.specs.declared.refusal.Refusal.TheVariants as refusals
use Rattle.ds_store.specs.declared.asked.Asked.{Asked}
use Rattle.ds_store.specs.Asked.{request_of, cause_by_need, by_held}
use Rattle.ds_store.specs.Standing.{cause_by_room}

in_front : (p : Cause → Bool) (xs ys : List Cause) (cause : Cause) → find p xs ≡ Some cause → find p (xs ++ ys) ≡ Some cause
in_front p xs ys cause e = find-append p xs ys ∙ ap (λ o. option_or o (find p ys)) e

behind : (p : Cause → Bool) (xs ys : List Cause) → find p xs ≡ None → find p (xs ++ ys) ≡ find p ys
behind p xs ys e = find-append p xs ys ∙ ap (λ o. option_or o (find p ys)) e

-- ---- against a change
module _ (t : Standing) (c : ChangeRecord) (owner : List ℕ) (version : Version) (body : Body) (o : owner ≡ c.owner)
    (v : version ≡ c.version) (b : body ≡ c.body) where
  same : find (against_change t (change_of c.key owner version body)) (by_version (Some version)) ≡ find (against_change t c)
      (by_version (Some c.version))
  same = ap (λ (x : List ℕ). find (against_change t (change_of c.key x version body)) (by_version (Some version))) o
      ∙ ap (λ (x : Version). find (against_change t (change_of c.key c.owner x body)) (by_version (Some x))) v
      ∙ ap (λ (x : Body). find (against_change t (change_of c.key c.owner c.version x)) (by_version (Some c.version))) b

  pub change_stands : (r : Option Cause) (cause : Cause) →
      r ≡ find (against_change t (change_of c.key owner version body)) (by_version (Some version)) → r ≡ Some cause →
      Some cause ≡ first_cause (Some c.version) (against_change t c)
  change_stands r cause e s = sym (in_front (against_change t c) (by_version (Some c.version)) (map causes.Refused by_room) cause
      (sym same ∙ sym e ∙ s))

  pub change_left : (r : Option Cause) (room : Option Cause) →
      r ≡ find (against_change t (change_of c.key owner version body)) (by_version (Some version)) → r ≡ None →
      room ≡ cause_by_room t → room ≡ first_cause (Some c.version) (against_change t c)
  change_left r room e s w =
      w ∙ sym (behind (against_change t c) (by_version (Some c.version)) (map causes.Refused by_room) (sym same ∙ sym e ∙ s))

-- ---- against what a caller asks for
needs_first : (x y : Bool) (rest : Option Cause) →
    cond x (Some (causes.Refused refusals.Exists)) (cond y (Some (causes.Refused refusals.NotFound)) rest)
    ≡ option_or (cond x (Some (causes.Refused refusals.Exists)) (cond y (Some (causes.Refused refusals.NotFound)) None)) rest
needs_first true y rest = refl
needs_first false true rest = refl
needs_first false false rest = refl

module _ (t : Standing) (owner : List ℕ) (x : Asked) (body : Body) where
  abbrev a : AskedChange
  a = request_of x

  pub asked_stands : (r : Option Cause) (cause : Cause) →
      r ≡ find (against_change t (change_of a.key owner a.version body)) (by_version (Some a.version)) → r ≡ Some cause →
      Some cause ≡ find (against_asked t (Some owner) a body) (by_held a.version)
  asked_stands r cause e s = sym (in_front (against_asked t (Some owner) a body) (by_version (Some a.version)) (map causes.Refused by_room)
      cause (sym e ∙ s))

  module _ (r : Option Cause) (e : r ≡ find (against_change t (change_of a.key owner a.version body)) (by_version (Some a.version)))
      (n : r ≡ None) (need : Option Cause) (w : need ≡ cause_by_need x.need (is_live t.held)) where
    past : find (against_asked t (Some owner) a body) (by_held a.version) ≡ option_or need (cause_by_room t)
    past =
        behind (against_asked t (Some owner) a body) (by_version (Some a.version)) (map causes.Refused by_room) (sym e ∙ n)
        ∙ needs_first (is_live t.held && not a.over_live) (not (is_live t.held) && not a.over_none) (cause_by_room t) ∙
        ap (λ o. option_or o (cause_by_room t)) (sym w)

    pub asked_needs : (cause : Cause) → need ≡ Some cause → Some cause ≡ find (against_asked t (Some owner) a body) (by_held a.version)
    asked_needs cause s = sym (past ∙ ap (λ o. option_or o (cause_by_room t)) s)

    pub asked_left : need ≡ None → (room : Option Cause) → room ≡ cause_by_room t →
        room ≡ find (against_asked t (Some owner) a body) (by_held a.version)
    asked_left m room q = q ∙ sym (past ∙ ap (λ o. option_or o (cause_by_room t)) m)
