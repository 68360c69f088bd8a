-- What no cause applies to is a change.
use Rattle.std.proofs.Common.{◌≡◌, ℕ, ◌<◌, ◌≤◌, ◌^◌, Bool, true, false, not, ◌&&◌, ◌==◌, nat_le, List, ◌++◌, map, Option, Some, None}
use Rattle.std.proofs.Common.{IfNone, refl, ap, ap₂, sym, ◌∙◌, arith, Contains}
use Rattle.std.proofs.lemmas.Bool.Decides.{nat_tests}
use Rattle.std.specs.Option.{unwrap_or}
use Rattle.std.specs.Cmp.Lexicographic.{other_text}
use Rattle.ds_names.specs.declared.kind.Kind.{Kind}
use Rattle.ds_names.specs.declared.kind.Kind.TheVariants.{Label, U32, Str, Mem}
use Rattle.ds_names.specs.declared.version.Version.{Version}
use Rattle.ds_names.specs.Kind.{kind_place, is_label}
use Rattle.ds_entry.specs.declared.body.Value.TheVariants as values
use Rattle.ds_entry.specs.declared.body.Body.{Body}
use Rattle.ds_entry.specs.declared.body.Body.TheVariants.{Put, Gone}
use Rattle.ds_entry.specs.Change.{ChangeRecord, IsChange, IsBody, IsOfKind, IsLabelChange, IsLabelBody, IsBelowSweeps, KeepsRule, kind_of}
use Rattle.ds_entry.specs.Change.{is_of_kind, is_label_body}
use Rattle.ds_machine.specs.Order.{first_cause, by_command, by_version, by_room}
use Rattle.ds_machine.specs.Standing.{Standing}
use Rattle.ds_machine.specs.Asking.{AskedChange, against_asked, change_asked, is_label_change, is_callers_version}
use Rattle.ds_machine.specs.declared.refusal.Cause.{Cause}
use Rattle.ds_machine.specs.declared.refusal.Cause.TheVariants as causes
use Rattle.ds_machine.specs.declared.refusal.Refusal.TheVariants as refusals
use Rattle.ds_machine.proofs.PartLemmas.{missing}
use Rattle.ds_entry.proofs.CoversLemmas.{same_name-refl}
use Rattle.ds_store.specs.Asked.{is_void_under, NamesRs}
use Rattle.ds_names.specs.Endpoint.{is_rs}
use Rattle.ds_names.specs.Name.{IsName, is_same_name, rs_name}
use Rattle.std.proofs.lemmas.Bool.{and_parts, eqb-true, not-false, not-true}

excluded : (a b : Bool) → a && not b ≡ false → a ≡ true → b ≡ true
excluded true b e t = not-false b e
excluded false b e t = absurd (cc)

positive : (n : ℕ) → not (n == 0) ≡ true → 0 < n
positive n e = grind (arith, nat_tests)

below : (n : ℕ) → not (nat_le 4294967295 n) ≡ true → n < 4294967295
below n e = grind (arith, nat_tests)

same_kind : (a b : Kind) → (kind_place a == kind_place b) ≡ true → a ≡ b
same_kind Label Label e = refl
same_kind U32 U32 e = refl
same_kind Str Str e = refl
same_kind Mem Mem e = refl
same_kind Label U32 e = absurd (cc)
same_kind Label Str e = absurd (cc)
same_kind Label Mem e = absurd (cc)
same_kind U32 Label e = absurd (cc)
same_kind U32 Str e = absurd (cc)
same_kind U32 Mem e = absurd (cc)
same_kind Str Label e = absurd (cc)
same_kind Str U32 e = absurd (cc)
same_kind Str Mem e = absurd (cc)
same_kind Mem Label e = absurd (cc)
same_kind Mem U32 e = absurd (cc)
same_kind Mem Str e = absurd (cc)

of_kind : (kind : Kind) (body : Body) → is_of_kind kind body ≡ true → IsOfKind kind body
of_kind kind (Put value) e = same_kind (kind_of value) kind e
of_kind kind Gone e = tt

label_body : (version : Version) (body : Body) → is_label_body version body ≡ true → IsLabelBody version body
label_body version (Put (values.Label e)) t = let b = and_parts (version.seq == 0) (version.epoch == e.generation) t in
    (eqb-true version.seq 0 b.0, eqb-true version.epoch e.generation b.1)
label_body version (Put (values.U32 n)) t = absurd (cc)
label_body version (Put (values.Str s)) t = absurd (cc)
label_body version (Put (values.Mem s)) t = absurd (cc)
label_body version Gone t = eqb-true version.seq 1 t

below_sweeps : (version : Version) (body : Body) → version.seq < 4294967295 → IsBelowSweeps version body
below_sweeps version (Put value) l = l
below_sweeps version Gone l = tt

-- all causes in their order
abbrev order : Version → List Cause
order v = map causes.Refused by_command ++ by_version (Some v) ++ map causes.Refused by_room

-- the parts are in their ranges
module _ (caller : Option (List ℕ)) (a : AskedChange) (body : Body) (name : IsName a.key.name) (owner : IsName (unwrap_or caller rs_name))
    (epoch : a.version.epoch ≤ 2097151) (seq : a.version.seq < 2 ^ 32) (valid : IsBody body) where
  abbrev c : ChangeRecord
  c = change_asked caller a body

  module _ (t : Standing) (none : first_cause (Some a.version) (against_asked t caller a body) ≡ None) (named : NamesRs caller a.caller)
    where
      free : (cause : Cause) → Contains (order a.version) cause → against_asked t caller a body cause ≡ false
      free cause h = missing (against_asked t caller a body) (order a.version) cause none h

      keeps_label : is_label a.key.kind ≡ true → IsLabelChange c
      keeps_label labels =
          let change = excluded (is_label a.key.kind) (is_label_change a body)
          (free (causes.Refused refusals.BadLabel) (5, omega arith, refl)) labels in
          let from_rs = excluded (is_label a.key.kind) (is_rs a.caller) (free (causes.Refused refusals.NotAllowed) (8, omega arith, refl))
          labels in
          let other = and_parts (not (is_same_name a.key.name rs_name)) (not (a.version.epoch == 0) && is_label_body a.version body)
          change in
          let rest = and_parts (not (a.version.epoch == 0)) (is_label_body a.version body) other.1 in
          record {
            owner = ap (λ (o : Option (List ℕ)). unwrap_or o rs_name) (named from_rs);
            name = other_text a.key.name rs_name (sym (not-true (is_same_name a.key.name rs_name) other.0));
            epoch = positive a.version.epoch rest.0;
            body = label_body a.version body rest.1;
          }

      keeps_version : is_label a.key.kind ≡ false → IsBelowSweeps a.version body
      keeps_version other =
          let version = excluded (not (is_label a.key.kind)) (is_callers_version a)
          (free (causes.Refused refusals.BadVersion) (6, omega arith, refl)) (ap not other) in
          below_sweeps a.version body (below a.version.seq
          (and_parts (a.version.epoch == a.caller.generation) (not (nat_le 4294967295 a.version.seq)) version).1)

      keeps : (kind : Kind) → a.key.kind ≡ kind → KeepsRule kind c
      keeps Label e = keeps_label (ap is_label e)
      keeps U32 e = keeps_version (ap is_label e)
      keeps Str e = keeps_version (ap is_label e)
      keeps Mem e = keeps_version (ap is_label e)

      is_change : IsChange c
      is_change =
          let of_its_kind = of_kind a.key.kind body
          (not-false (is_of_kind a.key.kind body) (free (causes.Refused refusals.BadKind) (4, omega arith, refl))) in
          record { name = name; owner = owner; epoch = epoch; seq = seq; body = valid; kind = of_its_kind; rule = keeps a.key.kind refl }

  pub made_asked : (r : Option Cause) (t : Standing) → r ≡ first_cause (Some a.version) (against_asked t caller a body) →
      IfNone r (NamesRs caller a.caller → IsChange c)
  made_asked None t e = λ named. is_change t (let back : first_cause (Some a.version) (against_asked t caller a body) ≡ None = cc in back)
      named
  made_asked (Some cause) t e = tt

-- ---- a floor over what is asked for
pub void_by_epoch : (floor : Option ℕ) (generation : ℕ) → floor ≡ Some generation → (c : ChangeRecord) → is_label c.key.kind ≡ false →
    (m n : ℕ) → m ≡ c.version.epoch → n ≡ generation → nat_le m n ≡ is_void_under floor c
void_by_epoch floor generation e c l m n p q =
    ap₂ nat_le p q
    ∙ sym (ap (λ (o : Option ℕ). is_void_under o c) e ∙
    ap₂ (λ (x y : Bool). not x && (y && nat_le c.version.epoch generation)) l (same_name-refl c.owner c.owner refl))
