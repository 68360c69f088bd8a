-- Changes, and marks beside them, dropped one by one, the last first.
use Rattle.std.proofs.Common.{◌≡◌, ℕ, zero, suc, ◌+◌, ◌<◌, ◌≤◌, List, [], ◌∷◌, ◌++◌, length, get_or, take, drop, Bool, true, false, not}
use Rattle.std.proofs.Common.{cond, ◌&&◌, is_some, append_assoc, append-nil, refl, sym, ap, ◌∙◌, subst, arith}
use Rattle.std.proofs.lemmas.List.{take_all, drop_all, take_more, drop_more, get_or_append_left, get_or-take, length-take-le, length-drop}
use Rattle.std.proofs.lemmas.List.{length-append}
use Rattle.std.specs.List.{slice_get, remove}
use Rattle.ds_entry.specs.Change.{ChangeRecord}
use Rattle.ds_entry.specs.Left.{value_of}
use Rattle.ds_entry.specs.Void.{voids}
use Rattle.ds_entry.specs.declared.floor.Floor.{Floor}
use Rattle.ds_held.specs.Kept.{left_by_floor, marks_left, puts_void_by}

pub one_and : (k n : ℕ) → suc k + n ≡ suc (k + n)
one_and k n = omega arith

pub get_drop : {X : Type 0} (i : ℕ) (xs : List X) → slice_get (drop i xs) 0 ≡ slice_get xs i
get_drop zero [] = refl
get_drop zero (x ∷ xs) = refl
get_drop (suc i) [] = refl
get_drop (suc i) (x ∷ xs) = get_drop i xs

-- The element between two lists, removed.
removed : {X : Type 0} (xs ys : List X) (x : X) (i : ℕ) → length xs ≡ i → remove (xs ++ (x ∷ ys)) i ≡ xs ++ ys
removed [] ys x zero e = refl
removed [] ys x (suc i) e = absurd (omega (arith, e))
removed (z ∷ xs) ys x zero e = absurd (omega (arith, e))
removed (z ∷ xs) ys x (suc i) e = ap (λ l. z ∷ l) (removed xs ys x i (omega (arith, e)))

-- A list of which only what follows the index is changed: to `back`.
module _ {X : Type 0} (xs : List X) (i : ℕ) where
  abbrev with_back : List X → List X
  with_back back = take i xs ++ back

  module _ (x : X) (within : i < length xs) (at : x ≡ get_or xs i x) where
    taken : take (i + 1) xs ≡ take i xs ++ x ∷ []
    taken = take_more xs i x within ∙ ap (λ y. take i xs ++ y ∷ []) (sym at)

    left : drop i xs ≡ x ∷ drop (i + 1) xs
    left = drop_more xs i x within ∙ ap (λ y. y ∷ drop (i + 1) xs) (sym at)

    one_back : (back : List X) → take (i + 1) xs ++ back ≡ take i xs ++ (x ∷ back)
    one_back back = ap (λ l. l ++ back) taken ∙ append_assoc (take i xs) (x ∷ []) back

    one_removed : (back : List X) → remove (take (i + 1) xs ++ back) i ≡ take i xs ++ back
    one_removed back = ap (λ l. remove l i) (one_back back) ∙ removed (take i xs) back x i (length-take-le i xs (omega (arith, within)))

  -- The element before what is changed.
  read_before : (back : List X) (x : X) → i < length xs → x ≡ get_or (take (i + 1) xs ++ back) i x → x ≡ get_or xs i x
  read_before back x within e =
      let long = length-take-le (i + 1) xs (omega (arith, within)) in
      e ∙ get_or_append_left (take (i + 1) xs) back x i (omega (arith, long)) ∙ get_or-take (i + 1) xs i x (omega arith)

-- What is held, and the marks, when those before the index are still to be judged.
at_most_one : (b : Bool) → cond b 1 0 ≤ 1
at_most_one true = omega arith
at_most_one false = omega arith

module _ (f : Floor) where
  pub record DroppedAlone (cs : List ChangeRecord) (kept : List ChangeRecord) (i : ℕ) : Type 0 where
    pub low : i ≤ length cs
    pub changes : kept ≡ take i cs ++ left_by_floor f (drop i cs)

  pub alone_at_last : (cs : List ChangeRecord) (i : ℕ) → i ≡ length cs → DroppedAlone cs cs i
  alone_at_last cs i e = record {
    low = omega (arith, e);
    changes = sym (append-nil cs) ∙ ap (λ l. l ++ left_by_floor f []) (sym (take_all i cs (omega (arith, e)))) ∙
        ap (λ l. take i cs ++ left_by_floor f l) (sym (drop_all i cs (omega (arith, e))));
  }

  module _ (cs kept : List ChangeRecord) (i : ℕ) (d : DroppedAlone cs kept (i + 1)) (c : ChangeRecord) (at : c ≡ get_or kept i c) where
    within : i < length cs
    within = let low = d.low in omega (arith, low)

    here : c ≡ get_or cs i c
    here = read_before cs i (left_by_floor f (drop (i + 1) cs)) c within (at ∙ ap (λ l. get_or l i c) d.changes)

    pub alone_void : voids f c ≡ true → DroppedAlone cs (remove kept i) i
    alone_void v = record {
      low = omega (arith, within);
      changes = ap (λ l. remove l i) d.changes ∙ one_removed cs i c within here (left_by_floor f (drop (i + 1) cs))
          ∙ ap (λ l. take i cs ++ l) (sym (ap (left_by_floor f) (left cs i c within here) ∙
          ap (λ b. cond (not b) (c ∷ left_by_floor f (drop (i + 1) cs)) (left_by_floor f (drop (i + 1) cs))) v));
    }

    pub alone_kept : voids f c ≡ false → DroppedAlone cs kept i
    alone_kept v = record {
      low = omega (arith, within);
      changes = d.changes ∙ one_back cs i c within here (left_by_floor f (drop (i + 1) cs))
          ∙ ap (λ l. take i cs ++ l) (sym (ap (left_by_floor f) (left cs i c within here) ∙
          ap (λ b. cond (not b) (c ∷ left_by_floor f (drop (i + 1) cs)) (left_by_floor f (drop (i + 1) cs))) v));
    }

    -- the index of the change among those that are kept
    pub alone_inside : i < length kept
    alone_inside =
        let long = ap length d.changes ∙ length-append (take (i + 1) cs) (left_by_floor f (drop (i + 1) cs)) in let front =
        length-take-le (i + 1) cs (omega (arith, within)) in omega (arith, long, front)

  pub alone_changes : (cs kept : List ChangeRecord) → DroppedAlone cs kept 0 → kept ≡ left_by_floor f cs
  alone_changes cs kept d = d.changes

  -- the puts among the dropped
  more_puts : (c : ChangeRecord) (cs : List ChangeRecord) (n : ℕ) → voids f c ≡ true → n ≡ cond (is_some (value_of c)) 1 0 →
      length (puts_void_by f (c ∷ cs)) ≡ length (puts_void_by f cs) + n
  more_puts c cs n v e = ap (λ b. length (cond (b && is_some (value_of c)) (c ∷ puts_void_by f cs) (puts_void_by f cs))) v ∙
      by_put (is_some (value_of c)) ∙ ap (λ m. length (puts_void_by f cs) + m) (sym e)
    where
      by_put : (b : Bool) → length (cond b (c ∷ puts_void_by f cs) (puts_void_by f cs)) ≡ length (puts_void_by f cs) + cond b 1 0
      by_put true = omega arith
      by_put false = omega arith

  no_more_puts : (c : ChangeRecord) (cs : List ChangeRecord) → voids f c ≡ false → puts_void_by f (c ∷ cs) ≡ puts_void_by f cs
  no_more_puts c cs v = ap (λ b. cond (b && is_some (value_of c)) (c ∷ puts_void_by f cs) (puts_void_by f cs)) v

  -- no more puts were dropped than there are changes
  few_puts : (cs : List ChangeRecord) → length (puts_void_by f cs) ≤ length cs
  few_puts [] = omega arith
  few_puts (c ∷ cs) = by_test (voids f c && is_some (value_of c)) (few_puts cs)
    where
      by_test : (b : Bool) → length (puts_void_by f cs) ≤ length cs →
          length (cond b (c ∷ puts_void_by f cs) (puts_void_by f cs)) ≤ suc (length cs)
      by_test true h = omega (arith, h)
      by_test false h = omega (arith, h)

  module _ {M : Type 0} where
    pub record Dropped (cs : List ChangeRecord) (ms : List M) (kept : List ChangeRecord) (marks : List M) (i count : ℕ) : Type 0 where
      pub alone : DroppedAlone cs kept i
      pub beside : marks ≡ take i ms ++ marks_left f (drop i cs) (drop i ms)
      pub counted : count ≡ length (puts_void_by f (drop i cs))

    pub dropped_at_last : (cs : List ChangeRecord) (ms : List M) (i : ℕ) → length ms ≡ length cs → i ≡ length cs → Dropped cs ms cs ms i 0
    dropped_at_last cs ms i same e =
        let none : drop i cs ≡ [] = drop_all i cs (omega (arith, e)) in record {
          alone = alone_at_last cs i e;
          beside = sym (append-nil ms) ∙ ap (λ l. l ++ []) (sym (take_all i ms (omega (arith, e, same)))) ∙
              ap (λ l. take i ms ++ marks_left f l (drop i ms)) (sym none);
          counted = sym (ap (λ l. length (puts_void_by f l)) none);
        }

    module _ (cs : List ChangeRecord) (ms : List M) (same : length ms ≡ length cs) (kept : List ChangeRecord) (marks : List M)
        (i count : ℕ) (d : Dropped cs ms kept marks (i + 1) count) (c : ChangeRecord) (at : c ≡ get_or kept i c) where
      inner : i < length cs
      inner = within cs kept i d.alone c at

      -- the mark of the change
      abbrev mark_at : (m : M) → Type 0
      mark_at m = m ≡ get_or ms i m

      with_mark : (m : M) → mark_at m → drop i ms ≡ m ∷ drop (i + 1) ms
      with_mark m e = left ms i m (omega (arith, inner, same)) e

      first_mark : (m : M) × mark_at m
      first_mark = some_mark ms i (omega (arith, inner, same))
        where
          some_mark : (xs : List M) (j : ℕ) → j < length xs → (m : M) × (m ≡ get_or xs j m)
          some_mark [] j w = absurd (omega (arith, w))
          some_mark (x ∷ xs) zero w = (x, refl)
          some_mark (x ∷ xs) (suc j) w = some_mark xs j (omega (arith, w))

      two_left : (m : M) → mark_at m → marks_left f (drop i cs) (drop i ms) ≡ cond (voids f c)
          (marks_left f (drop (i + 1) cs) (drop (i + 1) ms)) (m ∷ marks_left f (drop (i + 1) cs) (drop (i + 1) ms))
      two_left m e = ap (λ l. marks_left f l (drop i ms)) (left cs i c inner (here cs kept i d.alone c at)) ∙
          ap (marks_left f (c ∷ drop (i + 1) cs)) (with_mark m e)

      pub dropped_void : voids f c ≡ true → (n : ℕ) → n ≡ cond (is_some (value_of c)) 1 0 →
          Dropped cs ms (remove kept i) (remove marks i) i (count + n)
      dropped_void v n e =
          let m = first_mark in record {
            alone = alone_void cs kept i d.alone c at v;
            beside = ap (λ l. remove l i) d.beside ∙
                one_removed ms i m.0 (omega (arith, inner, same)) m.1 (marks_left f (drop (i + 1) cs) (drop (i + 1) ms))
                ∙ ap (λ l. take i ms ++ l) (sym (two_left m.0 m.1 ∙
                ap (λ b. cond b (marks_left f (drop (i + 1) cs) (drop (i + 1) ms))
                (m.0 ∷ marks_left f (drop (i + 1) cs) (drop (i + 1) ms))) v));
            counted = ap (λ k. k + n) d.counted ∙ sym
                (ap (λ l. length (puts_void_by f l)) (left cs i c inner (here cs kept i d.alone c at)) ∙
                more_puts c (drop (i + 1) cs) n v e);
          }

      pub dropped_kept : voids f c ≡ false → Dropped cs ms kept marks i count
      dropped_kept v =
          let m = first_mark in record {
            alone = alone_kept cs kept i d.alone c at v;
            beside = d.beside ∙ one_back ms i m.0 (omega (arith, inner, same)) m.1 (marks_left f (drop (i + 1) cs) (drop (i + 1) ms))
                ∙ ap (λ l. take i ms ++ l) (sym (two_left m.0 m.1 ∙
                ap (λ b. cond b (marks_left f (drop (i + 1) cs) (drop (i + 1) ms))
                (m.0 ∷ marks_left f (drop (i + 1) cs) (drop (i + 1) ms))) v));
            counted = d.counted ∙ sym (ap (λ l. length (puts_void_by f l)) (left cs i c inner (here cs kept i d.alone c at)) ∙
                ap length (no_more_puts c (drop (i + 1) cs) v));
          }

      pub mark_inside : i < length marks
      mark_inside =
          let long = ap length d.beside ∙ length-append (take (i + 1) ms) (marks_left f (drop (i + 1) cs) (drop (i + 1) ms)) in
          let front = length-take-le (i + 1) ms (omega (arith, inner, same)) in omega (arith, long, front)

    pub dropped_so : (cs : List ChangeRecord) (ms : List M) (kept kept' : List ChangeRecord) (marks marks' : List M) (i count : ℕ) →
        Dropped cs ms kept marks i count
        → kept' ≡ kept → marks' ≡ marks → Dropped cs ms kept' marks' i count
    dropped_so cs ms kept kept' marks marks' i count d a b =
        subst (λ (l : List ChangeRecord). Dropped cs ms l marks' i count) (sym a)
        (subst (λ (l : List M). Dropped cs ms kept l i count) (sym b) d)

    -- no more puts were dropped than there are changes at the index and after it
    pub room_for_one : (cs : List ChangeRecord) (ms : List M) (kept : List ChangeRecord) (marks : List M) (i count : ℕ) →
        Dropped cs ms kept marks i count
        → 0 < i → (c : ChangeRecord) (n : ℕ) → n ≡ cond (is_some (value_of c)) 1 0 → count + n ≤ length cs
    room_for_one cs ms kept marks i count d low c n e =
        let few = few_puts (drop i cs) in let long = length-drop i cs in let below = d.alone.low in let one =
        at_most_one (is_some (value_of c)) in omega (arith, few, long, d.counted, below, low, one, e)
