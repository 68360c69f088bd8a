-- Facts about the items of rows.
use Rattle.std.proofs.Common.{◌≡◌, length, ℕ, ◌+◌, ◌≤◌, List, [], ◌∷◌, ◌++◌, take, drop, refl, sym, ap, ◌∙◌, subst, arith, zero, suc}
use Rattle.std.proofs.Math.Nat.{le-max_left, le-max_right}
use Rattle.std.proofs.lemmas.List.{take-append-le, drop-append-le, length-drop, length-append, nil_from_length}
use Rattle.std.proofs.lemmas.List.Sums.{sum_by-cons, sum_by_push}
use Rattle.ds_names.specs.Endpoint.{endpoint_of}
use Rattle.ds_names.specs.declared.kind.Kind.{Kind}
use Rattle.ds_names.specs.declared.kind.Kind.TheVariants as kinds
use Rattle.ds_names.specs.declared.version.Version.{Version}
use Rattle.ds_entry.specs.Change.{change_of}
use Rattle.ds_entry.specs.Floor.{floor_of}
use Rattle.ds_entry.specs.Item.{IsItem}
use Rattle.ds_entry.specs.declared.body.Body.{Body}
use Rattle.ds_entry.specs.declared.item.Item.{Item}
use Rattle.ds_entry.specs.declared.item.Item.TheVariants.{Change as Changed, Floor as Floored}
use Rattle.ds_packed.specs.Names.{key_name_in, names_length, owner_in}
use Rattle.ds_packed.specs.declared.names.Names.{Names}
use Rattle.ds_packed.specs.declared.row.Row.{Row}
use Rattle.ds_packed.specs.declared.row.Row.TheVariants as rows
use Rattle.ds_packed.specs.Row.{labelled, named, row_item, row_length, AddsRow}
use Rattle.ds_packed.specs.Rows.{unpacked, AreRows, HasRows}

-- there are as many items as rows
pub unpacked_length : (names : List ℕ) (rs : List Row) → length (unpacked names rs) ≡ length rs
unpacked_length names [] = refl
unpacked_length names (r ∷ rs) = omega (arith, unpacked_length (drop (row_length r) names) rs)

-- ---- the first rows
pub unpacked_first : (n : ℕ) (names : List ℕ) (rs : List Row) → unpacked names (take n rs) ≡ take n (unpacked names rs)
unpacked_first zero names rs = refl
unpacked_first (suc n) names [] = refl
unpacked_first (suc n) names (r ∷ rs) = ap (λ is. row_item names r ∷ is) (unpacked_first n (drop (row_length r) names) rs)

pub first_rows : (n : ℕ) (names : List ℕ) (rs : List Row) → HasRows names rs → HasRows names (take n rs)
first_rows zero names rs h = tt
first_rows (suc n) names [] h = tt
first_rows (suc n) names (r ∷ rs) h = (h.0, h.1, first_rows n (drop (row_length r) names) rs h.2)

-- The rows after the first.
rows_after : (names : List ℕ) (r : Row) (rs : List Row) → AreRows names (r ∷ rs) → AreRows (drop (row_length r) names) rs
rows_after names r rs h = record {
  there = h.there.2;
  whole = omega (arith, h.whole, h.there.0, length-drop (row_length r) names, sum_by-cons row_length r rs);
}

-- ---- one row more
-- Bytes after a change's names aren't looked at.
named_front : (names more : List ℕ) (place : Names) (kind : Kind) (version : Version) (body : Body) → names_length place ≤ length names →
    named (names ++ more) place kind version body ≡ named names place kind version body
named_front names more place kind version body l =
    let at : place.owner_from + place.owner ≤ length names = omega (arith, l, le-max_right place.name (place.owner_from + place.owner)) in
    ap (λ n. change_of (record { name = n; kind = kind }) (owner_in (names ++ more) place) version body)
    (take-append-le place.name names more (omega (arith, l, le-max_left place.name (place.owner_from + place.owner))))
    ∙ ap (λ o. change_of (record { name = key_name_in names place; kind = kind }) o version body)
    (ap (take place.owner) (drop-append-le place.owner_from names more (omega (arith, at))) ∙
    take-append-le place.owner (drop place.owner_from names) more (omega (arith, at, length-drop place.owner_from names)))

-- Nor are those after a row's.
row_item_front : (names more : List ℕ) (r : Row) → row_length r ≤ length names → row_item (names ++ more) r ≡ row_item names r
row_item_front names more (rows.Label name slot generation) l =
    ap (λ n. Changed (labelled n (endpoint_of generation slot))) (take-append-le name names more l)
row_item_front names more (rows.U32 place version number) l = ap Changed (named_front names more place kinds.U32 version _ l)
row_item_front names more (rows.Gone place version kind) l = ap Changed (named_front names more place kind version _ l)
row_item_front names more (rows.Floor owner generation) l = ap (λ o. Floored (floor_of o generation)) (take-append-le owner names more l)

-- the items of rows, and one row more
pub record Pushed (names : List ℕ) (rs : List Row) (r : Row) (i : Item) (new : List ℕ) : Type 0 where
  pub items : unpacked new (rs ++ r ∷ []) ≡ unpacked names rs ++ i ∷ []
  pub fit : AreRows new (rs ++ r ∷ [])

pub rows_push : (names : List ℕ) (rs : List Row) (r : Row) (i : Item) (new : List ℕ) → AreRows names rs → AddsRow i r names new →
    IsItem i → Pushed names rs r i new
rows_push names [] r i new fit a is =
    let e = a.added ∙ ap (λ ns. ns ++ a.names) (nil_from_length names fit.whole) in
    let f = ap (λ ns. row_item ns r) e ∙ a.item_is in
    let l : length new ≡ row_length r = ap length e ∙ a.length_is in
    record {
      items = ap (λ j. j ∷ []) f;
      fit = record { there = (omega (arith, l), subst IsItem (sym f) is, tt); whole = omega (arith, l) };
    }
rows_push names (r0 ∷ rs) r i new fit a is =
    let e = ap (λ ns. row_item ns r0) a.added ∙ row_item_front names a.names r0 fit.there.0 in
    let f = ap (drop (row_length r0)) a.added ∙ drop-append-le (row_length r0) names a.names fit.there.0 in
    let b : AddsRow i r (drop (row_length r0) names) (drop (row_length r0) new) =
    record { names = a.names; added = f; length_is = a.length_is; item_is = a.item_is } in
    let p = rows_push (drop (row_length r0) names) rs r i (drop (row_length r0) new) (rows_after names r0 rs fit) b is in
    let l : length new ≡ length names + length a.names = ap length a.added ∙ length-append names a.names in
    record {
      items = ap (λ j. j ∷ unpacked (drop (row_length r0) new) (rs ++ r ∷ [])) e ∙ ap (λ js. row_item names r0 ∷ js) p.items;
      fit = record {
        there = (omega (arith, fit.there.0, l), subst IsItem (sym e) fit.there.1, p.fit.there);
        whole = omega (arith, fit.whole, l, a.length_is, sum_by_push row_length (r0 ∷ rs) r);
      };
    }

pub rows_fit : (names : List ℕ) (rs all : List Row) (r : Row) (i : Item) (new : List ℕ) → AreRows names rs → AddsRow i r names new →
    IsItem i → all ≡ rs ++ r ∷ [] → AreRows new all
rows_fit names rs all r i new fit a is e = subst (AreRows new) (sym e) (rows_push names rs r i new fit a is).fit
