-- Moves at the front of a buffer.
use Rattle.std.proofs.Common.{◌≡◌, ℕ, zero, suc, ◌+◌, ◌-◌, ◌<◌, ◌≤◌, min, List, [], ◌∷◌, ◌++◌, length, map, take, drop, refl, sym, ap, ◌∙◌}
use Rattle.std.proofs.Common.{subst, arith, append_assoc, length-append, length-take}
use Rattle.std.specs.Prelude.{slice_set, Some}
use Rattle.std.specs.List.{slice_get}
use Rattle.std.proofs.lemmas.List.{take_all, take_at, take-append-le, drop-append-le, drop_all, set_split, length-map, length-drop}
use Rattle.std.proofs.lemmas.List.{map-append}
use Rattle.std.proofs.lemmas.Slice.{drop-append-drop}
use Rattle.driver_tables.specs.declared.moves.Move.{Move}
use Rattle.c_store.specs.declared.giving.TableMove.{TableMove}
use Rattle.std.proofs.lemmas.Option.{slice_get_within}
use Rattle.rs_to_store.specs.Submitting.{all_in}
use Rattle.rs_to_store.proofs.ListLemmas.{next_taken}
use Rattle.rs_to_store.proofs.SubmitLemmas.{all_more}
use Rattle.c_store.specs.Giving.{told_move, GivesMoves}

-- what a list leaves of another past it
pub drop_over : {X : Type 0} (n : ℕ) (xs ys : List X) → drop n (xs ++ ys) ≡ drop n xs ++ drop (n - length xs) ys
drop_over n [] ys = sym (ap (λ l. l ++ drop (n - 0) ys) (drop_all n [] (omega arith)) ∙
    ap (λ m. drop m ys) (let e : n - 0 ≡ n = omega arith in e))
drop_over zero (x ∷ xs) ys = ap (λ m. (x ∷ xs) ++ drop m ys) (let e : 0 ≡ 0 - length (x ∷ xs) = omega arith in e)
drop_over (suc n) (x ∷ xs) ys = drop_over n xs ys ∙
    ap (λ m. drop n xs ++ drop m ys) (let e : n - length xs ≡ suc n - suc (length xs) = omega arith in e)

-- nothing is given yet
pub gives_none : (n : ℕ) (place : List TableMove) → GivesMoves (drop n []) place 0 place
gives_none n place = subst (λ (moves : List Move). GivesMoves moves place 0 place) (sym (drop_all n [] (omega arith)))
    (record { most = omega arith; moves_are = refl })

module _ (moves : List Move) (place now : List TableMove) (count : ℕ) (given : GivesMoves moves place count now) where
  front_length : length (map told_move (take count moves)) ≡ count
  front_length = let e = length-map (take count moves) told_move in let f : length (take count moves) ≡ min count (length moves) =
      length-take count moves in let g = given.most in omega (arith, e, f, g)

  -- the buffer is as long as it was
  pub room_length : length now ≡ length place
  room_length =
      let e : length now ≡ length (map told_move (take count moves)) + length (drop count place) =
      ap length given.moves_are ∙ length-append (map told_move (take count moves)) (drop count place) in
      let f = front_length in let g : length (drop count place) ≡ length place - count = length-drop count place in let h = given.most in
      omega (arith, e, f, g, h)

  -- one more that fits
  pub one_given : (step : Move) (after : List TableMove) → count < length now → after ≡ slice_set now count (told_move step) →
      GivesMoves (moves ++ step ∷ []) place (count + 1) after
  one_given step after fits set =
      let x = told_move step in
      let r = room_length in let g = given.most in
      let all : count ≡ length moves = omega (arith, fits, r, g) in
      let more : length (moves ++ step ∷ []) ≡ length moves + 1 = length-append moves (step ∷ []) in
      let front = map told_move (take count moves) in
      let whole : take count moves ≡ moves = take_all count moves (omega (arith, all)) in
      let before : take count now ≡ front = ap (take count) given.moves_are ∙ take_at front (drop count place) count front_length in
      let past : drop (suc count) now ≡ drop (suc count) place =
      ap (drop (suc count)) given.moves_are ∙ drop-append-drop count place front (suc count) (omega arith) front_length in
      let split : slice_set now count x ≡ take count now ++ x ∷ drop (suc count) now = set_split now count x fits in
      let both : take count now ++ x ∷ drop (suc count) now ≡ front ++ x ∷ drop (suc count) place =
      ap (λ l. l ++ x ∷ drop (suc count) now) before ∙ ap (λ l. front ++ x ∷ l) past in
      let told : front ++ x ∷ [] ≡ map told_move (take (count + 1) (moves ++ step ∷ [])) =
      ap (λ l. map told_move l ++ x ∷ []) whole ∙ sym (map-append told_move moves (step ∷ [])) ∙
      ap (map told_move) (sym (take_all (count + 1) (moves ++ step ∷ []) (omega (arith, all, more)))) in
      let next : suc count ≡ count + 1 = omega arith in record {
        most = omega (arith, fits, r, all, more);
        moves_are = set ∙ split ∙ both ∙ sym (append_assoc front (x ∷ []) (drop (suc count) place)) ∙
            ap (λ l. l ++ drop (suc count) place) told ∙
            ap (λ n. map told_move (take (count + 1) (moves ++ step ∷ [])) ++ drop n place) next;
      }

  -- one more that doesn't fit
  pub one_left : (step : Move) → length now ≤ count → GivesMoves (moves ++ step ∷ []) place count now
  one_left step full =
      let r = room_length in let g = given.most in
      let more : length (moves ++ step ∷ []) ≡ length moves + 1 = length-append moves (step ∷ []) in record {
        most = omega (arith, full, r, g, more);
        moves_are = given.moves_are ∙ ap (λ (l : List Move). map told_move l ++ drop count place)
            (sym (take-append-le count moves (step ∷ []) (omega (arith, g))));
      }

-- the next move of a round
pub round_next : (moves round : List Move) (first i : ℕ) (x : Move) → slice_get round i ≡ Some x → first ≤ i →
    (moves ++ drop first (take i round)) ++ x ∷ [] ≡ moves ++ drop first (take (i + 1) round)
round_next moves round first i x at from =
    let within : i < length round = slice_get_within round i x at in
    let long : length (take i round) ≡ min i (length round) = length-take i round in
    append_assoc moves (drop first (take i round)) (x ∷ []) ∙
    ap (λ l. moves ++ l) (sym (drop-append-le first (take i round) (x ∷ []) (omega (arith, within, long, from)))) ∙
    ap (λ l. moves ++ drop first l) (next_taken round i x at)

-- the next round, of which some moves are left out
pub rounds_next : (rounds : List (List Move)) (i first left : ℕ) (round : List Move) → slice_get rounds i ≡ Some round →
    left ≡ first - length (all_in (take i rounds))
    → drop first (all_in (take i rounds)) ++ drop left round ≡ drop first (all_in (take (i + 1) rounds))
rounds_next rounds i first left round at is =
    ap (λ n. drop first (all_in (take i rounds)) ++ drop n round) is ∙
    sym (ap (drop first) (all_more rounds i round at) ∙ drop_over first (all_in (take i rounds)) round)

pub left_next : (rounds : List (List Move)) (i first left n : ℕ) (round : List Move) → slice_get rounds i ≡ Some round →
    left ≡ first - length (all_in (take i rounds)) → n ≡ length round
    → left - n ≡ first - length (all_in (take (i + 1) rounds))
left_next rounds i first left n round at is long =
    let more : length (all_in (take (i + 1) rounds)) ≡ length (all_in (take i rounds)) + length round =
    ap length (all_more rounds i round at) ∙ length-append (all_in (take i rounds)) round in
    omega (arith, is, long, more)
