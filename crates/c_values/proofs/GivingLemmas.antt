-- Pieces of text at the front of a buffer.
use Rattle.std.proofs.Common.{◌≡◌, ℕ, ◌+◌, ◌-◌, ◌<◌, List, [], ◌∷◌, ◌++◌, length, map, take, drop, get_or, refl, sym, ap, ◌∙◌, append_assoc}
use Rattle.std.proofs.Common.{append-nil, inl, subst, arith}
use Rattle.std.specs.List.{concat}
use Rattle.std.proofs.Math.Seq.{take-append_seam, drop-append-add}
use Rattle.std.proofs.lemmas.List.{take_more, take_all, length-map, length-drop, drop-map, drop-drop}
use Rattle.std.proofs.lemmas.List as lists
use Rattle.std.proofs.lemmas.List.Folds.{concat-append}
use Rattle.ds_entry.specs.declared.item.Item.{Item}
use Rattle.ds_line.specs.ItemSpelling.{item_spelling}
use Rattle.c_values.specs.declared.giving.Given.{Given}
use Rattle.c_values.specs.Pieces.{GivesPieces}

-- the next piece is the line of the next item
pub next_line : (items : List Item) (i : ℕ) (x : Item) → i < length items → x ≡ get_or items i x →
    item_spelling x ≡ get_or (map item_spelling items) i []
next_line items i x lt is = ap item_spelling is ∙ sym (lists.get_or-map item_spelling items i x [] lt)

-- the pieces up to the next one
pub one_more : (items : List Item) (i : ℕ) (x : Item) → i < length items → x ≡ get_or items i x
    → concat (take (i + 1) (map item_spelling items)) ≡ concat (take i (map item_spelling items)) ++ item_spelling x
one_more items i x lt is =
    let ps : List (List ℕ) = map item_spelling items in
    let below : i < length ps = simp length-map lt in
    ap concat (take_more ps i [] below ∙ ap (λ p. take i ps ++ p ∷ []) (sym (next_line items i x lt is)))
    ∙ concat-append (take i ps) (item_spelling x ∷ []) ∙ ap (λ l. concat (take i ps) ++ l) (append-nil (item_spelling x))

-- bytes that are put after a front
pub put_after : (front old room new p : List ℕ) (at : ℕ) → at ≡ length front → room ≡ front ++ drop at old
    → new ≡ take at room ++ (p ++ drop (at + length p) room) → new ≡ (front ++ p) ++ drop (at + length p) old
put_after front old room new p at is e put =
    let seam : take at room ≡ front = ap (λ n. take n room) is ∙ ap (take (length front)) e ∙ take-append_seam front (drop at old) in
    let past : drop (at + length p) room ≡ drop (at + length p) old =
    ap (λ n. drop (n + length p) room) is ∙ ap (drop (length front + length p)) e ∙ drop-append-add front (drop at old) (length p) ∙
    drop-drop (length p) at old in
    put ∙ ap (λ l. l ++ (p ++ drop (at + length p) room)) seam ∙ ap (λ l. front ++ (p ++ l)) past ∙
    sym (append_assoc front p (drop (at + length p) old))

-- all that is given of some pieces, where as many were given as there are
pub all_given : (items : List Item) (old room : List ℕ) (count taken : ℕ) → count ≡ length items
    → taken ≡ length (concat (take count (map item_spelling items))) →
    room ≡ concat (take count (map item_spelling items)) ++ drop taken old
    → GivesPieces (map item_spelling items) old (record { count = length items; length = taken; stop = 0 }) room
all_given items old room count taken all is e = record {
  count = omega (arith, length-map items item_spelling);
  length_is = is ∙ ap (λ n. length (concat (take n (map item_spelling items)))) all;
  room = e ∙ ap (λ n. concat (take n (map item_spelling items)) ++ drop taken old) all;
  stop = inl refl;
  whole = λ h. sym (length-map items item_spelling);
  full = λ (h : 0 ≡ 1). absurd (omega arith);
  wants = λ (h : 0 ≡ 20). absurd (omega arith);
}

-- the copies of the pieces after the first ones
pub given_after : (items : List Item) (first : ℕ) (old new : List ℕ) (given : Given) →
    GivesPieces (map item_spelling (take (length items - first) (drop first items))) old given new
    → GivesPieces (drop first (map item_spelling items)) old given new
given_after items first old new given gives =
    let all : take (length items - first) (drop first items) ≡ drop first items =
    take_all (length items - first) (drop first items) (omega (arith, length-drop first items)) in
    subst (λ (ps : List (List ℕ)). GivesPieces ps old given new) (ap (map item_spelling) all ∙ sym (drop-map item_spelling first items))
    gives
