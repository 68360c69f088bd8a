-- A table's keys, and names as a test.
use Rattle.std.proofs.Common.{◌≡◌, ℕ, ◌<◌, ◌≤◌, ◌&&◌, Bool, true, false, nat_le, List, [], ◌∷◌, length, map, cond, Option, Some, None}
use Rattle.std.proofs.Common.{option_map, unwrap_or, All, string_bytes, refl, ap, arith, inl, inr, zero, suc}
use Rattle.std.specs.List.{list_all}
use Rattle.std.specs.Map.{keys_of}
use Rattle.std.specs.Option.{is_some, option_and_then}
use Rattle.std.proofs.lemmas.Bool.{and_parts, cases_Bool, false≢true}
use Rattle.std.proofs.lemmas.Bool.Decides.{nat_tests}
use Rattle.toml.specs.Data.{as_str}
use Rattle.toml.specs.declared.value.Value.{Value}
use Rattle.toml.specs.View.{view, items_view, members_view}
use Rattle.toml.proofs.Views.{Entry}
use Rattle.ds_names.specs.Name.{IsName, is_name_byte}
use Rattle.rs_settings.specs.Values.{keys_pass, item_count, is_name, name_read, name_in, names_of, each_of}
use Rattle.rs_settings.specs.Draft.{text_in_value}
use Rattle.ds_names.proofs.Tests.{none_from}

-- the keys of a table pass a test where those of its members do
pub keys_pass-view : (test : List ℕ → Bool) (es : List Entry) →
    list_all (λ k. test (string_bytes k)) (keys_of es) ≡ keys_pass test (members_view es)
keys_pass-view test [] = refl
keys_pass-view test (e ∷ es) = ap (λ b. test (string_bytes e.0) && b) (keys_pass-view test es)

pub item_count-view : (vs : List Value) → item_count (items_view vs) ≡ length vs
item_count-view [] = refl
item_count-view (v ∷ vs) = grind (arith, item_count-view vs)

pub is_name-true : (bytes : List ℕ) → IsName bytes → is_name bytes ≡ true
unfolding is_name
is_name-true bytes h =
    let some : 0 < length bytes = h.some in
    let limit : length bytes ≤ 64 = h.limit in
    let allowed : list_all is_name_byte bytes ≡ true = h.allowed in
    grind (arith, nat_tests)

pub is_name-IsName : (bytes : List ℕ) → is_name bytes ≡ true → IsName bytes
unfolding is_name
is_name-IsName bytes h =
    let (sizes, allowed) = and_parts (nat_le 1 (length bytes) && nat_le (length bytes) 64) (list_all is_name_byte bytes) h in
    let (low, high) = and_parts (nat_le 1 (length bytes)) (nat_le (length bytes) 64) sizes in
    record { some = grind (arith, nat_tests); limit = grind (arith, nat_tests); allowed = allowed }

pub name_of-name : (bytes : List ℕ) → IsName bytes → name_read bytes ≡ Some bytes
name_of-name bytes h = rw (is_name-true bytes h)

pub name_of-none : (bytes : List ℕ) → (IsName bytes → ⊥) → name_read bytes ≡ None
name_of-none bytes bad = elim (cases_Bool (is_name bytes)) [
  | inl t ↦ absurd (bad (is_name-IsName bytes t))
  | inr f ↦ rw f
]

-- what is read of a name's value is its text
name_of-some : (bytes : List ℕ) → is_some (name_read bytes) ≡ true → (name_read bytes ≡ Some bytes) × IsName bytes
name_of-some bytes h = elim (cases_Bool (is_name bytes)) [
  | inl t ↦ (rw t, is_name-IsName bytes t)
  | inr f ↦ (let bad : false ≡ true = rw f at h in absurd (false≢true bad))
]

text_of-some : (o : Option (List ℕ)) → is_some (option_and_then name_read o) ≡ true →
    (option_and_then name_read o ≡ Some (unwrap_or o [])) × IsName (unwrap_or o [])
text_of-some None h = absurd (false≢true h)
text_of-some (Some s) h = name_of-some s h

pub name_in-text : (v : Value) → is_some (name_in (view v)) ≡ true → (name_in (view v) ≡ Some (text_in_value v)) × IsName (text_in_value v)
name_in-text v h = text_of-some (as_str (view v)) h

-- the names of values that are all names, and of others
pub each_of-names : (vs : List Value) → each_of name_in (items_view vs) ≡ cond (list_all (λ v. is_some (name_in (view v))) vs)
    (Some (map text_in_value vs)) None
each_of-names [] = refl
each_of-names (v ∷ vs) = elim (cases_Bool (is_some (name_in (view v)))) [
  | inl t ↦ rw ((name_in-text v t).0, each_of-names vs) (by_rest (list_all (λ w. is_some (name_in (view w))) vs))
  | inr f ↦ rw (none_from (name_in (view v)) f) refl
]
  where
    by_rest : (b : Bool) → option_map (λ past. text_in_value v ∷ past) (cond b (Some (map text_in_value vs)) None) ≡ cond b
        (Some (text_in_value v ∷ map text_in_value vs)) None
    by_rest true = refl
    by_rest false = refl

pub all-names : (vs : List Value) → list_all (λ v. is_some (name_in (view v))) vs ≡ true → All IsName (map text_in_value vs)
all-names [] h k d l = absurd (omega arith)
all-names (v ∷ vs) h zero d l = (name_in-text v
    (and_parts (is_some (name_in (view v))) (list_all (λ w. is_some (name_in (view w))) vs) h).0).1
all-names (v ∷ vs) h (suc k) d l = all-names vs
    (and_parts (is_some (name_in (view v))) (list_all (λ w. is_some (name_in (view w))) vs) h).1 k d (omega arith)

pub names_of-long : (vs : List Value) → 64 < length vs → names_of (items_view vs) ≡ None
names_of-long vs long =
    let e : nat_le (item_count (items_view vs)) 64 ≡ false = rw (item_count-view vs) (grind (arith, nat_tests)) in
    rw e

pub names_of-short : (vs : List Value) → length vs ≤ 64 → names_of (items_view vs) ≡ each_of name_in (items_view vs)
names_of-short vs short =
    let e : nat_le (item_count (items_view vs)) 64 ≡ true = rw (item_count-view vs) (grind (arith, nat_tests)) in
    rw e
