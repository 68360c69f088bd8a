-- The tables of a document, in order.
use Rattle.std.proofs.Common.{◌≡◌, ◌≢◌, ℕ, ◌<◌, ◌≤◌, ◌&&◌, true, false, nat_le, List, [], ◌∷◌, ◌++◌, length, get_or, drop, ◌+◌, map, Some}
use Rattle.std.proofs.Common.{None, refl, sym, subst, ap, ◌∙◌, arith, inl, inr, zero, suc, length-append}
use Rattle.std.specs.List.{All, list_all}
use Rattle.std.proofs.lemmas.List.Elements.{All-append}
use Rattle.std.proofs.lemmas.List.{drop_all, map-append}
use Rattle.std.specs.Option.{is_some}
use Rattle.std.specs.Prelude.{Result, Ok, Err}
use Rattle.std.proofs.lemmas.Bool.Decides.{nat_tests}
use Rattle.std.proofs.lemmas.Bool.{cases_Bool}
use Rattle.std.specs.Str.{IsUtf8, is_utf8}
use Rattle.std.proofs.lemmas.Str.{is_utf8-from_IsUtf8, IsUtf8-from_is_utf8}
use Rattle.toml.specs.Parse.{parse_document, lines}
use Rattle.toml.specs.Errors.{IsBlank}
use Rattle.toml.specs.Data.{Data, string, integer, float, boolean, datetime, array, table, Items, item, Members, no_members, as_table}
use Rattle.toml.specs.Text.{are_tables}
use Rattle.toml.specs.declared.value.Value.{Value}
use Rattle.toml.specs.View.{view, items_view}
use Rattle.toml.proofs.Views.{items_view-drop}
use Rattle.rs_settings.specs.declared.fault.SettingsFault.{SettingsFault}
use Rattle.rs_settings.specs.declared.format.Format.{Format}
use Rattle.rs_settings.specs.declared.service.Service.{Service}
use Rattle.rs_settings.specs.Values.{item_count}
use Rattle.rs_settings.specs.Service.{service_from, services_in, go_on}
use Rattle.rs_settings.specs.Settings.{SettingsRecord, document, MayTakeMemory, TakesMemory}
use Rattle.rs_settings.proofs.ValueLemmas.{item_count-view}

services_in-step : (format : Format) (before : List Service) (vs : List Value) (i : ℕ) (d : Value) → i < length vs →
    services_in format before (items_view (drop i vs)) ≡ go_on (λ s. services_in format (before ++ s ∷ []) (items_view (drop (i + 1) vs)))
    (service_from format (length before) (as_table (view (get_or vs i d))))
services_in-step format before vs i d h = rw (items_view-drop vs i d h)

-- past the last table
pub services_in-end : (format : Format) (before : List Service) (vs : List Value) (i : ℕ) → length vs ≤ i →
    services_in format before (items_view (drop i vs)) ≡ Ok before
services_in-end format before vs i h = rw (drop_all i vs h)

-- one more table that is a service
pub services_in-more : (format : Format) (before : List Service) (vs : List Value) (i : ℕ) (d : Value) (s : Service)
    (r : Result (List Service) SettingsFault) → i < length vs →
    services_in format before (items_view (drop i vs)) ≡ r → service_from format (length before) (as_table (view (get_or vs i d))) ≡ Ok s →
    services_in format (before ++ s ∷ []) (items_view (drop (i + 1) vs)) ≡ r
services_in-more format before vs i d s r l so e = sym (services_in-step format before vs i d l ∙ rw e refl) ∙ so

-- a table that has a fault
pub services_in-fault : (format : Format) (before : List Service) (vs : List Value) (i : ℕ) (d : Value) (f : SettingsFault)
    (r : Result (List Service) SettingsFault) → i < length vs →
    services_in format before (items_view (drop i vs)) ≡ r →
    service_from format (length before) (as_table (view (get_or vs i d))) ≡ Err f → r ≡ Err f
services_in-fault format before vs i d f r l so e = sym so ∙ services_in-step format before vs i d l ∙ rw e refl

table_first : (d : Data) (ds : Items) → is_some (as_table d) && are_tables ds ≡ are_tables (item d ds)
table_first (string s) ds = refl
table_first (integer z) ds = refl
table_first (float x) ds = refl
table_first (boolean b) ds = refl
table_first (datetime t) ds = refl
table_first (array es) ds = refl
table_first (table ms) ds = refl

pub are_tables-view : (vs : List Value) → list_all (λ v. is_some (as_table (view v))) vs ≡ are_tables (items_view vs)
are_tables-view [] = refl
are_tables-view (v ∷ vs) = ap (λ b. is_some (as_table (view v)) && b) (are_tables-view vs) ∙ table_first (view v) (items_view vs)

pub few-yes : (vs : List Value) → length vs ≤ 64 → nat_le (item_count (items_view vs)) 64 ≡ true
few-yes vs short = rw (item_count-view vs) (grind (arith, nat_tests))

pub few-no : (vs : List Value) → 64 < length vs → nat_le (item_count (items_view vs)) 64 ≡ false
few-no vs long = rw (item_count-view vs) (grind (arith, nat_tests))

pub document-read : (text : List ℕ) (doc : Members) → IsUtf8 text → parse_document text ≡ Some doc → document text ≡ Some doc
unfolding document
document-read text doc utf8 e = rw (is_utf8-from_IsUtf8 text utf8) e

pub document-refused : (text : List ℕ) → (IsUtf8 text → parse_document text ≡ None) → document text ≡ None
unfolding document
document-refused text h = elim (cases_Bool (is_utf8 text)) [
  | inl t ↦ rw t (h (IsUtf8-from_is_utf8 text t))
  | inr f ↦ rw f
]

-- a fact of each element, and of one more at the end
pub each-last : {X : Type 0} (P : X → Type 0) (xs ys : List X) (x : X) → ys ≡ xs ++ x ∷ [] → All P xs → P x → All P ys
each-last {X} P xs ys x e all here = subst (λ zs. All P zs) (sym e) (All-append P xs (x ∷ []) all (single x here))
  where
    single : (x : X) → P x → All P (x ∷ [])
    single x here zero d l = here
    single x here (suc k) d l = absurd (omega arith)

pub length-last : {X : Type 0} (xs ys : List X) (x : X) → ys ≡ xs ++ x ∷ [] → length ys ≡ length xs + 1
length-last xs ys x e = ap length e ∙ simp length-append

-- a map over one more at the end
pub map-last : {X Y : Type 0} (f : X → Y) (xs ys : List X) (x : X) → ys ≡ xs ++ x ∷ [] → map f ys ≡ map f xs ++ f x ∷ []
map-last f xs ys x e = ap (map f) e ∙ map-append f xs (x ∷ [])

moved : {X : Type 0} (Q : X → Type 0) (y x : X) → x ≡ y → Q y → Q x
moved Q y x e h = subst Q (sym e) h

-- a fact of each element's image, at one of them
pub each-at : {X Y : Type 0} (P : Y → Type 0) (f : X → Y) (xs : List X) (k : ℕ) (x : X) → All P (map f xs) → k < length xs →
    x ≡ get_or xs k x → P (f x)
each-at P f [] k x all l e = absurd (omega arith)
each-at P f (y ∷ ys) zero x all l e = moved (λ z. P (f z)) y x e (all zero (f x) (omega arith))
each-at P f (y ∷ ys) (suc k) x all l e = each-at P f ys k x (λ j d m. all (suc j) d (omega arith)) (omega arith) e

-- a list with an element at an index isn't empty, nor is what is built from it
pub some-at : {X : Type 0} (xs : List X) (k : ℕ) → k < length xs → xs ≢ []
some-at [] k l = absurd (omega arith)
some-at (x ∷ xs) k l = λ e. cc

pub map-some : {X Y : Type 0} (f : X → Y) (xs : List X) → xs ≢ [] → map f xs ≢ []
map-some f [] n = absurd (n refl)
map-some f (x ∷ xs) n = λ e. cc

-- a text of white space and comments alone is a document without fields, which takes no memory
blank-document : (text : List ℕ) → IsBlank text → parse_document text ≡ Some no_members
unfolding parse_document lines
blank-document text blank = rw blank refl

not-blank : (text : List ℕ) (doc : Members) → parse_document text ≡ Some doc → doc ≢ no_members → ¬ IsBlank text
not-blank text doc e some = λ blank. some (let k = sym e ∙ blank-document text blank in cc)

parsed-of : (text : List ℕ) (doc : Members) → document text ≡ Some doc → IsUtf8 text × (parse_document text ≡ Some doc)
unfolding document
parsed-of text doc e = elim (cases_Bool (is_utf8 text)) [
  | inl t ↦ (IsUtf8-from_is_utf8 text t, (let f = rw t at e in f))
  | inr f ↦ absurd (let g = rw f at e in cc)
]

-- a document whose settings take memory isn't empty
pub may-take : (read : Members → Result SettingsRecord SettingsFault) (text : List ℕ) (doc : Members) →
    (TakesMemory (read no_members) → ⊥) →
    document text ≡ Some doc → TakesMemory (read doc) → MayTakeMemory text
may-take read text doc empty e takes =
    let (utf8, parsed) = parsed-of text doc e in
    (utf8, not-blank text doc parsed (λ same. empty (subst (λ (d : Members). TakesMemory (read d)) same takes)))
