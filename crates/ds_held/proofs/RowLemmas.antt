-- Slots and an order of slot numbers as one list.
use Rattle.std.proofs.Common.{◌≡◌, ◌≢◌, ℕ, zero, suc, ◌<◌, ◌≤◌, List, [], ◌∷◌, ◌++◌, length, set, Option, None, Some, Result, Ok, Err, Bor}
use Rattle.std.proofs.Common.{◌⊎◌, inl, inr, refl, sym, ap, ◌∙◌, subst, arith}
use Rattle.std.proofs.lemmas.Option.{same_Some, none-some, slice_get-get_or, slice_get_past, slice_get_within}
use Rattle.std.proofs.lemmas.List.{get_or-set_same, get_or-set_other, length-set, length_push}
use Rattle.std.proofs.lemmas.List.Edits.{length-insert, length-remove}
use Rattle.std.specs.Option.{option_copied, IfSome}
use Rattle.std.specs.Result.{IfOk, OnOk, OnErr}
use Rattle.std.specs.Slice.{IsItemAt}
use Rattle.std.specs.List.{slice_get, insert, remove, cons_option}
use Rattle.ds_held.specs.Rows.{in_slot, rows_of, AreFilled, AreBelow, IsLone, IsAmong, AreListed, AreNumbersApart, AreSpare, AreInSlots}
use Rattle.ds_held.specs.Rows.{IsFreeSlot}

-- ---- numbers that are apart
among : (order : List ℕ) (i s t : ℕ) → IsLone s order → slice_get order i ≡ Some t → s ≢ t
among [] i s t l e = absurd (cc)
among (u ∷ order) zero s t l e = λ f. l.0 (f ∙ sym (same_Some u t e))
among (u ∷ order) (suc i) s t l e = among order i s t l.1 e

lone_inserted : (s n i : ℕ) (order : List ℕ) → IsLone s order → s ≢ n → IsLone s (insert order i n)
lone_inserted s n zero order l d = (d, l)
lone_inserted s n (suc i) [] l d = (d, tt)
lone_inserted s n (suc i) (t ∷ order) l d = (l.0, lone_inserted s n i order l.1 d)

apart_inserted : (n i : ℕ) (order : List ℕ) → IsLone n order → AreNumbersApart order → AreNumbersApart (insert order i n)
apart_inserted n zero order l a = (l, a)
apart_inserted n (suc i) [] l a = (tt, tt)
apart_inserted n (suc i) (s ∷ order) l a = (lone_inserted s n i order a.0 (λ e. l.0 (sym e)), apart_inserted n i order l.1 a.1)

lone_removed : (s i : ℕ) (order : List ℕ) → i < length order → IsLone s order → IsLone s (remove order i)
lone_removed s i [] w l = absurd (omega (arith, w))
lone_removed s zero (t ∷ order) w l = l.1
lone_removed s (suc i) (t ∷ order) w l = (l.0, lone_removed s i order (omega (arith, w)) l.1)

apart_removed : (i : ℕ) (order : List ℕ) → i < length order → AreNumbersApart order → AreNumbersApart (remove order i)
apart_removed i [] w a = absurd (omega (arith, w))
apart_removed zero (t ∷ order) w a = a.1
apart_removed (suc i) (t ∷ order) w a = (lone_removed t i order (omega (arith, w)) a.0, apart_removed i order (omega (arith, w)) a.1)

-- the number that is removed isn't among the others
removed_lone : (s i : ℕ) (order : List ℕ) → AreNumbersApart order → slice_get order i ≡ Some s → IsLone s (remove order i)
removed_lone s i [] a e = absurd (cc)
removed_lone s zero (t ∷ order) a e = subst (λ n. IsLone n order) (same_Some t s e) a.0
removed_lone s (suc i) (t ∷ order) a e = ((λ f. among order i t s a.0 e (sym f)), removed_lone s i order a.1 e)

-- ---- numbers that are there
eq_or_not : (i k : ℕ) → (i ≡ k) ⊎ (i ≢ k)
eq_or_not zero zero = inl refl
eq_or_not zero (suc k) = inr (λ e. omega (arith, e))
eq_or_not (suc i) zero = inr (λ e. omega (arith, e))
eq_or_not (suc i) (suc k) = elim (eq_or_not i k) [ inl e ↦ inl (ap suc e) | inr other ↦ inr (λ e. other (omega (arith, e))) ]

among_self : (s i : ℕ) (order : List ℕ) → IsAmong s (insert order i s)
among_self s zero order = inl refl
among_self s (suc i) [] = inl refl
among_self s (suc i) (t ∷ order) = inr (among_self s i order)

among_more : (s n i : ℕ) (order : List ℕ) → IsAmong s order → IsAmong s (insert order i n)
among_more s n zero order a = inr a
among_more s n (suc i) [] a = absurd a
among_more s n (suc i) (t ∷ order) (inl e) = inl e
among_more s n (suc i) (t ∷ order) (inr a) = inr (among_more s n i order a)

among_left : (s u i : ℕ) (order : List ℕ) → slice_get order i ≡ Some u → s ≢ u → IsAmong s order → IsAmong s (remove order i)
among_left s u i [] h d a = absurd a
among_left s u zero (t ∷ order) h d (inl e) = absurd (d (e ∙ same_Some t u h))
among_left s u zero (t ∷ order) h d (inr a) = a
among_left s u (suc i) (t ∷ order) h d (inl e) = inl e
among_left s u (suc i) (t ∷ order) h d (inr a) = inr (among_left s u i order h d a)

among_at : (s : ℕ) (order : List ℕ) → IsAmong s order → (k : ℕ) × (slice_get order k ≡ Some s)
among_at s [] a = absurd a
among_at s (t ∷ order) (inl e) = (0, ap (λ n. Some n) (sym e))
among_at s (t ∷ order) (inr a) = let rest = among_at s order a in (suc rest.0, rest.1)

at_among : (s i : ℕ) (order : List ℕ) → slice_get order i ≡ Some s → IsAmong s order
at_among s i [] h = absurd (cc)
at_among s zero (t ∷ order) h = inl (sym (same_Some t s h))
at_among s (suc i) (t ∷ order) h = inr (at_among s i order h)

-- ---- spare numbers, of which the last is taken, or to which one is added
lone_front : (s t : ℕ) (rest : List ℕ) → IsLone s (rest ++ t ∷ []) → IsLone s rest × (s ≢ t)
lone_front s t [] l = (tt, l.0)
lone_front s t (u ∷ rest) l = ((l.0, (lone_front s t rest l.1).0), (lone_front s t rest l.1).1)

lone_push : (s t : ℕ) (rest : List ℕ) → IsLone s rest → s ≢ t → IsLone s (rest ++ t ∷ [])
lone_push s t [] l d = (d, tt)
lone_push s t (u ∷ rest) l d = (l.0, lone_push s t rest l.1 d)

spare_taken : (s : ℕ) (rest order : List ℕ) → AreSpare (rest ++ s ∷ []) order → (i : ℕ) → AreSpare rest (insert order i s)
spare_taken s [] order h i = tt
spare_taken s (t ∷ rest) order h i =
    let front = lone_front t s rest h.1.0 in (lone_inserted t s i order h.0 front.1, (front.0, spare_taken s rest order h.1.1 i))

spare_lone : (s : ℕ) (rest order : List ℕ) → AreSpare (rest ++ s ∷ []) order → IsLone s order
spare_lone s [] order h = h.0
spare_lone s (t ∷ rest) order h = spare_lone s rest order h.1.1

spare_added : (s i : ℕ) (spare order : List ℕ) → AreNumbersApart order → slice_get order i ≡ Some s → AreSpare spare order →
    AreSpare (spare ++ s ∷ []) (remove order i)
spare_added s i [] order a e h = (removed_lone s i order a e, (tt, tt))
spare_added s i (t ∷ spare) order a e h = (
  lone_removed t i order (slice_get_within order i s e) h.0,
  (lone_push t s spare h.1.0 (among order i t s h.0 e), spare_added s i spare order a e h.1.1),
)

below_front : (n s : ℕ) (rest : List ℕ) → AreBelow n (rest ++ s ∷ []) → AreBelow n rest × (s < n)
below_front n s [] b = (tt, b.0)
below_front n s (t ∷ rest) b = ((b.0, (below_front n s rest b.1).0), (below_front n s rest b.1).1)

below_push : (n s : ℕ) (rest : List ℕ) → AreBelow n rest → s < n → AreBelow n (rest ++ s ∷ [])
below_push n s [] b l = (l, tt)
below_push n s (t ∷ rest) b l = (b.0, below_push n s rest b.1 l)

-- ---- what is in the slots
module _ {T : Type 0} where
  in_range : (slots : List (Option T)) (s : ℕ) (x : T) → in_slot slots s ≡ Some x → s < length slots
  in_range [] s x e = absurd (none-some x e)
  in_range (y ∷ slots) zero x e = omega arith
  in_range (y ∷ slots) (suc s) x e = let rest = in_range slots s x e in omega (arith, rest)

  -- an empty slot more changes nothing
  front_same : (slots : List (Option T)) (s : ℕ) → in_slot (slots ++ None ∷ []) s ≡ in_slot slots s
  front_same [] zero = refl
  front_same [] (suc s) = refl
  front_same (y ∷ slots) zero = refl
  front_same (y ∷ slots) (suc s) = front_same slots s

  pub rows_more : (order : List ℕ) (slots : List (Option T)) → rows_of order (slots ++ None ∷ []) ≡ rows_of order slots
  rows_more [] slots = refl
  rows_more (s ∷ order) slots = ap (λ o. cons_option o (rows_of order (slots ++ None ∷ []))) (front_same slots s) ∙
      ap (cons_option (in_slot slots s)) (rows_more order slots)

  filled_more : (order : List ℕ) (slots : List (Option T)) → AreFilled order slots → AreFilled order (slots ++ None ∷ [])
  filled_more [] slots f = tt
  filled_more (s ∷ order) slots f = ((f.0.0, front_same slots s ∙ f.0.1), filled_more order slots f.1)

  lone_past : (order : List ℕ) (slots : List (Option T)) (s : ℕ) → AreFilled order slots → length slots ≤ s → IsLone s order
  lone_past [] slots s f l = tt
  lone_past (t ∷ order) slots s f l =
      ((λ e. let low = in_range slots t f.0.0 f.0.1 in absurd (omega (arith, e, low, l))), lone_past order slots s f.1 l)

  -- there are as many rows as numbers
  pub length_rows : (order : List ℕ) (slots : List (Option T)) → AreFilled order slots → length (rows_of order slots) ≡ length order
  length_rows [] slots f = refl
  length_rows (s ∷ order) slots f = ap (λ o. length (cons_option o (rows_of order slots))) f.0.1 ∙ ap suc (length_rows order slots f.1)

  -- the row at an index is what is in the slot whose number is there
  pub row_there : (order : List ℕ) (slots : List (Option T)) (i s : ℕ) → AreFilled order slots → slice_get order i ≡ Some s →
      slice_get (rows_of order slots) i ≡ in_slot slots s
  row_there [] slots i s f e = absurd (cc)
  row_there (t ∷ order) slots zero s f e =
      ap (λ o. slice_get (cons_option o (rows_of order slots)) 0) f.0.1 ∙ sym f.0.1 ∙ ap (in_slot slots) (same_Some t s e)
  row_there (t ∷ order) slots (suc i) s f e =
      ap (λ o. slice_get (cons_option o (rows_of order slots)) (suc i)) f.0.1 ∙ row_there order slots i s f.1 e

  pub length_is : (order : List ℕ) (slots : List (Option T)) (v : List T) → AreFilled order slots → rows_of order slots ≡ v →
      length order ≡ length v
  length_is order slots v f e = sym (length_rows order slots f) ∙ ap length e

  pub no_row : (order : List ℕ) (slots : List (Option T)) (i : ℕ) → AreFilled order slots → length order ≤ i →
      slice_get (rows_of order slots) i ≡ None
  no_row order slots i f l = slice_get_past (rows_of order slots) i (let n = length_rows order slots f in omega (arith, n, l))

  pub slot_at : (order : List ℕ) (slots : List (Option T)) (i s : ℕ) → AreFilled order slots → slice_get order i ≡ Some s →
      (x : T) × (in_slot slots s ≡ Some x)
  slot_at [] slots i s f e = absurd (cc)
  slot_at (t ∷ order) slots zero s f e = (f.0.0, ap (in_slot slots) (sym (same_Some t s e)) ∙ f.0.1)
  slot_at (t ∷ order) slots (suc i) s f e = slot_at order slots i s f.1 e

  pub slot_within : (order : List ℕ) (slots : List (Option T)) (i s : ℕ) → AreFilled order slots → slice_get order i ≡ Some s →
      s < length slots
  slot_within order slots i s f e = let at = slot_at order slots i s f e in in_range slots s at.0 at.1

  -- ---- another content of a slot that isn't in the order
  passed_by : (order : List ℕ) (slots : List (Option T)) (s : ℕ) (y : Option T) → IsLone s order →
      rows_of order (set slots s y) ≡ rows_of order slots
  passed_by [] slots s y l = refl
  passed_by (t ∷ order) slots s y l =
      ap (λ o. cons_option o (rows_of order (set slots s y))) (get_or-set_other slots s t y None (λ e. l.0 (sym e))) ∙
      ap (cons_option (in_slot slots t)) (passed_by order slots s y l.1)

  filled_by : (order : List ℕ) (slots : List (Option T)) (s : ℕ) (y : Option T) → IsLone s order → AreFilled order slots →
      AreFilled order (set slots s y)
  filled_by [] slots s y l f = tt
  filled_by (t ∷ order) slots s y l f =
      ((f.0.0, get_or-set_other slots s t y None (λ e. l.0 (sym e)) ∙ f.0.1), filled_by order slots s y l.1 f.1)

  -- ---- a number more, or one less
  inserted : (order : List ℕ) (slots : List (Option T)) (i s : ℕ) (x : T) → AreFilled order slots → in_slot slots s ≡ Some x →
      rows_of (insert order i s) slots ≡ insert (rows_of order slots) i x
  inserted order slots zero s x f e = ap (λ o. cons_option o (rows_of order slots)) e
  inserted [] slots (suc i) s x f e = ap (λ o. cons_option o []) e
  inserted (t ∷ order) slots (suc i) s x f e =
      ap (λ o. cons_option o (rows_of (insert order i s) slots)) f.0.1
      ∙ ap (λ l. f.0.0 ∷ l) (inserted order slots i s x f.1 e)
      ∙ ap (λ o. insert (cons_option o (rows_of order slots)) (suc i) x) (sym f.0.1)

  filled_inserted : (order : List ℕ) (slots : List (Option T)) (i s : ℕ) (x : T) → AreFilled order slots → in_slot slots s ≡ Some x →
      AreFilled (insert order i s) slots
  filled_inserted order slots zero s x f e = ((x, e), f)
  filled_inserted [] slots (suc i) s x f e = ((x, e), tt)
  filled_inserted (t ∷ order) slots (suc i) s x f e = (f.0, filled_inserted order slots i s x f.1 e)

  removed : (order : List ℕ) (slots : List (Option T)) (i : ℕ) → AreFilled order slots → i < length order →
      rows_of (remove order i) slots ≡ remove (rows_of order slots) i
  removed [] slots i f w = absurd (omega (arith, w))
  removed (t ∷ order) slots zero f w = ap (λ o. remove (cons_option o (rows_of order slots)) 0) (sym f.0.1)
  removed (t ∷ order) slots (suc i) f w =
      ap (λ o. cons_option o (rows_of (remove order i) slots)) f.0.1
      ∙ ap (λ l. f.0.0 ∷ l) (removed order slots i f.1 (omega (arith, w)))
      ∙ ap (λ o. remove (cons_option o (rows_of order slots)) (suc i)) (sym f.0.1)

  filled_removed : (order : List ℕ) (slots : List (Option T)) (i : ℕ) → AreFilled order slots → i < length order →
      AreFilled (remove order i) slots
  filled_removed [] slots i f w = absurd (omega (arith, w))
  filled_removed (t ∷ order) slots zero f w = f.1
  filled_removed (t ∷ order) slots (suc i) f w = (f.0, filled_removed order slots i f.1 (omega (arith, w)))

  -- ---- another element in a slot of the order
  pub written : (order : List ℕ) (slots : List (Option T)) (i s : ℕ) (x : T) → AreFilled order slots → AreNumbersApart order →
      slice_get order i ≡ Some s
      → rows_of order (set slots s (Some x)) ≡ set (rows_of order slots) i x
  written [] slots i s x f a e = absurd (cc)
  written (t ∷ order) slots zero s x f a e =
      ap (λ n. rows_of (t ∷ order) (set slots n (Some x))) (sym (same_Some t s e))
      ∙ ap (λ o. cons_option o (rows_of order (set slots t (Some x))))
      (get_or-set_same slots t (Some x) None (in_range slots t f.0.0 f.0.1))
      ∙ ap (λ l. x ∷ l) (passed_by order slots t (Some x) a.0)
      ∙ ap (λ o. set (cons_option o (rows_of order slots)) 0 x) (sym f.0.1)
  written (t ∷ order) slots (suc i) s x f a e =
      ap (λ o. cons_option o (rows_of order (set slots s (Some x))))
      (get_or-set_other slots s t (Some x) None (among order i t s a.0 e) ∙ f.0.1)
      ∙ ap (λ l. f.0.0 ∷ l) (written order slots i s x f.1 a.1 e)
      ∙ ap (λ o. set (cons_option o (rows_of order slots)) (suc i) x) (sym f.0.1)

  pub filled_written : (order : List ℕ) (slots : List (Option T)) (i s : ℕ) (x : T) → AreFilled order slots → AreNumbersApart order →
      slice_get order i ≡ Some s → AreFilled order (set slots s (Some x))
  filled_written [] slots i s x f a e = absurd (cc)
  filled_written (t ∷ order) slots zero s x f a e =
      subst (λ n. AreFilled (t ∷ order) (set slots n (Some x))) (same_Some t s e)
      ((x, get_or-set_same slots t (Some x) None (in_range slots t f.0.0 f.0.1)), filled_by order slots t (Some x) a.0 f.1)
  filled_written (t ∷ order) slots (suc i) s x f a e =
      ((f.0.0, get_or-set_other slots s t (Some x) None (among order i t s a.0 e) ∙ f.0.1), filled_written order slots i s x f.1 a.1 e)

  -- ---- slots with an element are in the order
  listed_more : (order : List ℕ) (slots : List (Option T)) → AreListed order slots → AreListed order (slots ++ None ∷ [])
  listed_more order slots l s x e = l s x (sym (front_same slots s) ∙ e)

  listed_inserted : (order : List ℕ) (slots : List (Option T)) (i s : ℕ) (x : T) → AreListed order slots →
      AreListed (insert order i s) (set slots s (Some x))
  listed_inserted order slots i s x l t y e = elim (eq_or_not t s) [
    | inl q ↦ subst (λ n. IsAmong n (insert order i s)) (sym q) (among_self s i order)
    | inr d ↦ among_more t s i order (l t y (sym (get_or-set_other slots s t (Some x) None d) ∙ e))
  ]

  listed_removed : (order : List ℕ) (slots : List (Option T)) (i s : ℕ) → slice_get order i ≡ Some s → s < length slots →
      AreListed order slots → AreListed (remove order i) (set slots s None)
  listed_removed order slots i s h w l t y e = elim (eq_or_not t s) [
    | inl q ↦ absurd (none-some y (sym (get_or-set_same slots s None None w) ∙ ap (in_slot (set slots s None)) (sym q) ∙ e))
    | inr d ↦ among_left t s i order h d (l t y (sym (get_or-set_other slots s t None None d) ∙ e))
  ]

  pub listed_written : (order : List ℕ) (slots : List (Option T)) (i s : ℕ) (x : T) → slice_get order i ≡ Some s → AreListed order slots →
      AreListed order (set slots s (Some x))
  listed_written order slots i s x h l t y e = elim (eq_or_not t s) [
    | inl q ↦ subst (λ n. IsAmong n order) (sym q) (at_among s i order h)
    | inr d ↦ l t y (sym (get_or-set_other slots s t (Some x) None d) ∙ e)
  ]

  -- what is found in a slot is in the list
  pub found_listed : (order : List ℕ) (slots : List (Option T)) (v : List T) → AreFilled order slots → AreListed order slots →
      rows_of order slots ≡ v
      → (s : ℕ) (r : Option (Bor T)) → option_copied r ≡ in_slot slots s → IfSome r (λ x. (k : ℕ) × (slice_get v k ≡ Some x.now))
  found_listed order slots v f l is s None e = tt
  found_listed order slots v f l is s (Some x) e =
      let at = among_at s order (l s x.now (sym e)) in
      (at.0, ap (λ m. slice_get m at.0) (sym is) ∙ row_there order slots at.0 s f at.1 ∙ sym e)

  -- ---- the steps
  pub free_last : (order rest : List ℕ) (s : ℕ) (slots : List (Option T)) (n : ℕ) → AreInSlots order (rest ++ s ∷ []) slots n → (m : ℕ) →
      n ≤ m → IsFreeSlot order s rest slots m
  free_last order rest s slots n r m w = record {
    filled = r.filled;
    listed = r.listed;
    apart = r.apart;
    lone = spare_lone s rest order r.others;
    within = (below_front (length slots) s rest r.below).1;
    below = (below_front (length slots) s rest r.below).0;
    others = spare_taken s rest order r.others;
    all = let more = length_push rest s in let each = r.all in omega (arith, more, each);
    room = let few = r.room in omega (arith, few, w);
  }

  pub free_new : (order : List ℕ) (slots : List (Option T)) (n : ℕ) → AreInSlots order [] slots n → (m : ℕ) →
      length (slots ++ None ∷ []) ≤ m → IsFreeSlot order (length slots) [] (slots ++ None ∷ []) m
  free_new order slots n r m w = record {
    filled = filled_more order slots r.filled;
    listed = listed_more order slots r.listed;
    apart = r.apart;
    lone = lone_past order slots (length slots) r.filled (omega arith);
    within = let more = length_push slots None in omega (arith, more);
    below = tt;
    others = λ index. tt;
    all = let more = length_push slots None in let each = r.all in omega (arith, more, each);
    room = w;
  }

  -- a new slot, if there is memory for it
  pub fresh : {E : Type 0} (order : List ℕ) (slots : List (Option T)) (n : ℕ) → AreInSlots order [] slots n →
      (r : Result ℕ E) (p : List ℕ) (q : List (Option T)) (m : ℕ)
      → p ≡ [] → OnOk r (q ≡ slots ++ None ∷ []) → IfOk r (λ s. s ≡ length slots) → OnOk r (length q ≤ m) →
      IfOk r (λ s. IsFreeSlot order s p q m)
  fresh order slots n r (Ok s) p q m a b c d =
      subst (λ l. IsFreeSlot order s l q m) (sym a)
      (subst (λ l. IsFreeSlot order s [] l m) (sym b)
      (subst (λ t. IsFreeSlot order t [] (slots ++ None ∷ []) m) (sym c) (free_new order slots n r m (subst (λ l. length l ≤ m) b d))))
  fresh order slots n r (Err e) p q m a b c d = tt

  pub fresh_list : {E : Type 0} (order : List ℕ) (slots : List (Option T)) (r : Result ℕ E) (q : List (Option T)) →
      OnOk r (q ≡ slots ++ None ∷ []) → OnErr r (q ≡ slots) → rows_of order q ≡ rows_of order slots
  fresh_list order slots (Ok s) q a b = ap (rows_of order) a ∙ rows_more order slots
  fresh_list order slots (Err e) q a b = ap (rows_of order) b

  module _ (order : List ℕ) (s : ℕ) (spare : List ℕ) (slots : List (Option T)) (n : ℕ) (r : IsFreeSlot order s spare slots n) (i : ℕ)
      (x : T) where
    here : in_slot (set slots s (Some x)) s ≡ Some x
    here = get_or-set_same slots s (Some x) None r.within

    pub list_inserted : rows_of (insert order i s) (set slots s (Some x)) ≡ insert (rows_of order slots) i x
    list_inserted =
        inserted order (set slots s (Some x)) i s x (filled_by order slots s (Some x) r.lone r.filled) here ∙
        ap (λ l. insert l i x) (passed_by order slots s (Some x) r.lone)

    pub rows_inserted : i ≤ length order → AreInSlots (insert order i s) spare (set slots s (Some x)) n
    rows_inserted w = record {
      filled = filled_inserted order (set slots s (Some x)) i s x (filled_by order slots s (Some x) r.lone r.filled) here;
      listed = listed_inserted order slots i s x r.listed;
      apart = apart_inserted s i order r.lone r.apart;
      below = subst (λ m. AreBelow m spare) (sym (length-set slots s (Some x))) r.below;
      others = r.others i;
      all = let more = length-insert order i s w in let same = length-set slots s (Some x) in let each = r.all in
          omega (arith, more, same, each);
      room = let same = length-set slots s (Some x) in let few = r.room in omega (arith, same, few);
    }

  module _ (order spare : List ℕ) (slots : List (Option T)) (n : ℕ) (r : AreInSlots order spare slots n) (i s : ℕ)
      (e : slice_get order i ≡ Some s) where
    inside : i < length order
    inside = slice_get_within order i s e

    pub list_removed : rows_of (remove order i) (set slots s None) ≡ remove (rows_of order slots) i
    list_removed = passed_by (remove order i) slots s None (removed_lone s i order r.apart e) ∙ removed order slots i r.filled inside

    pub rows_removed : AreInSlots (remove order i) (spare ++ s ∷ []) (set slots s None) n
    rows_removed = record {
      filled = filled_by (remove order i) slots s None (removed_lone s i order r.apart e) (filled_removed order slots i r.filled inside);
      listed = listed_removed order slots i s e (slot_within order slots i s r.filled e) r.listed;
      apart = apart_removed i order inside r.apart;
      below = subst (λ m. AreBelow m (spare ++ s ∷ [])) (sym (length-set slots s None))
          (below_push (length slots) s spare r.below (slot_within order slots i s r.filled e));
      others = spare_added s i spare order r.apart e r.others;
      all = let less = length-remove order i inside in let more = length_push spare s in let same = length-set slots s None in let each =
          r.all in omega (arith, less, more, same, each);
      room = let same = length-set slots s None in let few = r.room in omega (arith, same, few);
    }

    -- the list of spare slots has memory for one more
    pub has_room : (m : ℕ) → n ≤ m → length spare < m
    has_room m w = let each = r.all in let few = r.room in let low = inside in omega (arith, each, few, low, w)

  pub rows_nothing : (order spare : List ℕ) (slots : List (Option T)) (n : ℕ) → order ≡ [] → spare ≡ [] → slots ≡ [] →
      AreInSlots order spare slots n
  rows_nothing order spare slots n a b c =
      subst (λ l. AreInSlots l spare slots n) (sym a)
      (subst (λ l. AreInSlots [] l slots n) (sym b) (subst (λ (l : List (Option T)). AreInSlots [] [] l n) (sym c)
      (record {
        filled = tt;
        listed = λ s x e. absurd (none-some x e);
        apart = tt;
        below = tt;
        others = tt;
        all = omega arith;
        room =
            omega arith;
      })))

  pub rows_same : (order spare : List ℕ) (slots : List (Option T)) (n : ℕ) → AreInSlots order spare slots n →
      (o p : List ℕ) (q : List (Option T)) (m : ℕ) → o ≡ order → p ≡ spare → q ≡ slots → n ≤ m → AreInSlots o p q m
  rows_same order spare slots n r o p q m a b c w =
      subst (λ l. AreInSlots l p q m) (sym a) (subst (λ l. AreInSlots order l q m) (sym b) (subst (λ l. AreInSlots order spare l m) (sym c)
      (record {
        filled = r.filled;
        listed = r.listed;
        apart = r.apart;
        below = r.below;
        others = r.others;
        all = r.all;
        room = let few = r.room in
            omega (arith, few, w);
      })))

-- what a look at an index gives
pub found_at : {X : Type 0} (xs : List X) (i : ℕ) (r : Option (Bor X)) → IsItemAt xs i r → option_copied r ≡ slice_get xs i
found_at xs i (Some x) h = ap (λ y. Some y) h.1 ∙ sym (slice_get-get_or xs i x.now h.3.0)
found_at xs i None h = sym (slice_get_past xs i h.3)
