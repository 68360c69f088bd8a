-- Lines of items, in order.
use Rattle.std.proofs.Common.{◌≡◌, ℕ, ◌<◌, List, [], ◌∷◌, ◌++◌, length, take, drop, sym, ap, ◌∙◌, append_assoc, append-nil, arith}
use Rattle.std.proofs.Common.{length-append}
use Rattle.std.specs.List.{All, flat_map}
use Rattle.std.proofs.lemmas.List.{take-append-drop}
use Rattle.std.proofs.lemmas.List.Elements.{All-head, All-tail}
use Rattle.std.proofs.lemmas.Grind.{flat_map-append}
use Rattle.ds_entry.specs.Item.{IsItem}
use Rattle.ds_entry.specs.declared.item.Item.{Item}
use Rattle.ds_line.specs.ItemFault.{HasNoItem}
use Rattle.ds_line.specs.ItemSpelling.{item_spelling}
use Rattle.line_io.specs.Lines.{EndsLine}
use Rattle.ds_line.proofs.ItemLemmas.{items_apart, item_ends}
use Rattle.c_values.specs.Lines.{AreLines, BeginsWithItem}

-- an item's line is some bytes
pub item_some : (i : Item) → IsItem i → 0 < length (item_spelling i)
item_some i is = let ends : EndsLine (item_spelling i) = item_ends i is in
    omega (arith, ap length ends.parts, length-append ends.front (10 ∷ []))

-- one more item is in front of the rest
pub lines_with : (text rest : List ℕ) (items : List Item) (i : Item) (n : ℕ) → text ≡ flat_map item_spelling items ++ rest
    → take n rest ≡ item_spelling i → text ≡ flat_map item_spelling (items ++ i ∷ []) ++ drop n rest
lines_with text rest items i n e t =
    e ∙ ap (λ l. flat_map item_spelling items ++ l) (sym (take-append-drop n rest) ∙ ap (λ l. l ++ drop n rest) t)
    ∙ sym (append_assoc (flat_map item_spelling items) (item_spelling i) (drop n rest))
    ∙ ap (λ l. l ++ drop n rest) (sym (flat_map-append item_spelling items (i ∷ []) ∙
    ap (λ l. flat_map item_spelling items ++ l) (append-nil (item_spelling i))))

-- a text that has the lines of some items, and then of one more, begins with the first of them
pub begins_with : (text : List ℕ) (items : List Item) (i : Item) (after : List ℕ) → All IsItem items → IsItem i
    → text ≡ flat_map item_spelling items ++ (item_spelling i ++ after) → BeginsWithItem text
begins_with text [] i after each is e = record { item = i; rest = after; is = is; front = e }
begins_with text (x ∷ xs) i after each is e = record {
  item = x;
  rest = flat_map item_spelling xs ++ (item_spelling i ++ after);
  is = All-head IsItem x xs each;
  front = e ∙ append_assoc (item_spelling x) (flat_map item_spelling xs) (item_spelling i ++ after);
}

-- the rest of some items' lines, after the lines of the first of them, has the lines of the others
left_of : (xs ys : List Item) (r : List ℕ) → All IsItem xs → All IsItem ys → flat_map item_spelling xs ++ r ≡ flat_map item_spelling ys
    → (zs : List Item) × All IsItem zs × (r ≡ flat_map item_spelling zs)
left_of [] ys r xis yis e = (ys, yis, e)
left_of (x ∷ xs) [] r xis yis e =
    absurd (let some : 0 < length (item_spelling x) = item_some x (All-head IsItem x xs xis) in
    omega
    (arith, ap length e, length-append (flat_map item_spelling (x ∷ xs)) r, length-append (item_spelling x) (flat_map item_spelling xs)))
left_of (x ∷ xs) (y ∷ ys) r xis yis e =
    left_of xs ys r (All-tail IsItem x xs xis) (All-tail IsItem y ys yis)
    (items_apart x y (flat_map item_spelling xs ++ r) (flat_map item_spelling ys) (All-head IsItem x xs xis) (All-head IsItem y ys yis)
    (sym (append_assoc (item_spelling x) (flat_map item_spelling xs) r) ∙ e)).1

none_at : (rest : List ℕ) (zs : List Item) → 0 < length rest → HasNoItem rest → All IsItem zs → rest ≡ flat_map item_spelling zs → ⊥
none_at rest [] some none is e = omega (arith, ap length e)
none_at rest (z ∷ zs) some none is e = none z (flat_map item_spelling zs) (All-head IsItem z zs is) e

-- if no item's line comes after the lines of some items, the text isn't the lines of any items
pub none_after : (text rest : List ℕ) (xs ys : List Item) → All IsItem xs → text ≡ flat_map item_spelling xs ++ rest → 0 < length rest →
    HasNoItem rest → ¬ AreLines ys text
none_after text rest xs ys xis e some none are =
    let left : (zs : List Item) × All IsItem zs × (rest ≡ flat_map item_spelling zs) =
    left_of xs ys rest xis are.each (sym e ∙ are.text_is) in
    none_at rest left.0 some none left.1 left.2
