-- The lines of moves.
use Rattle.std.proofs.Common.{◌≡◌, ℕ, ◌+◌, ◌≤◌, List, [], ◌∷◌, ◌++◌, length, take, Some, sym, ap, ◌∙◌, arith, append_assoc, append-nil}
use Rattle.std.proofs.Common.{length-append}
use Rattle.std.specs.List.{slice_get}
use Rattle.std.proofs.lemmas.List.Concat.{flat_map-append}
use Rattle.driver_tables.specs.declared.moves.Move.{Move}
use Rattle.driver_tables.specs.declared.moves.Move.TheVariants.{Start, Send, Answer, Held}
use Rattle.script_answers.specs.Moves.{move_line}
use Rattle.rs_to_store.specs.Submitting.{all_in}
use Rattle.script_services.specs.Tables.{move_lines}
use Rattle.rs_to_store.proofs.ListLemmas.{next_taken}
use Rattle.rs_to_store.proofs.SubmitLemmas.{all_more}

-- ---- one more move

pub lines_more : (moves : List Move) (x : Move) → move_lines (moves ++ x ∷ []) ≡ move_lines moves ++ move_line x
lines_more moves x = flat_map-append move_line moves (x ∷ []) ∙ ap (λ (l : List ℕ). move_lines moves ++ l) (append-nil (move_line x))

pub lines_next : (moves : List Move) (i : ℕ) (x : Move) (start now new : List ℕ) → slice_get moves i ≡ Some x →
    now ≡ start ++ move_lines (take i moves) → new ≡ now ++ move_line x → new ≡ start ++ move_lines (take (i + 1) moves)
lines_next moves i x start now new at before one =
    one ∙ ap (λ (l : List ℕ). l ++ move_line x) before ∙ append_assoc start (move_lines (take i moves)) (move_line x)
    ∙ ap (λ (l : List ℕ). start ++ l) (sym (lines_more (take i moves) x)) ∙
    ap (λ (l : List Move). start ++ move_lines l) (next_taken moves i x at)

-- one more round
pub rounds_next : (rounds : List (List Move)) (i : ℕ) (round : List Move) (start now new : List ℕ)
    → slice_get rounds i ≡ Some round → now ≡ start ++ move_lines (all_in (take i rounds)) → new ≡ now ++ move_lines round
    → new ≡ start ++ move_lines (all_in (take (i + 1) rounds))
rounds_next rounds i round start now new at before one =
    one ∙ ap (λ (l : List ℕ). l ++ move_lines round) before ∙ append_assoc start (move_lines (all_in (take i rounds))) (move_lines round)
    ∙ ap (λ (l : List ℕ). start ++ l) (sym (flat_map-append move_line (all_in (take i rounds)) round)) ∙
    ap (λ (l : List Move). start ++ move_lines l) (sym (all_more rounds i round at))

-- ---- a line has a byte at least

pub line_has_byte : (x : Move) → 1 ≤ length (move_line x)
line_has_byte (Start unit endpoint) = omega arith
line_has_byte (Send id endpoint) = omega arith
line_has_byte (Answer id ending) = omega arith
line_has_byte (Held id) = omega arith

pub lines_as_many : (moves : List Move) → length moves ≤ length (move_lines moves)
lines_as_many [] = omega arith
lines_as_many (x ∷ moves) = let rest = lines_as_many moves in let one = line_has_byte x in let both =
    length-append (move_line x) (move_lines moves) in omega arith

-- so there are at most as many moves as written bytes
pub moves_few : (moves : List Move) (start now : List ℕ) (count : ℕ) → count ≡ length moves → now ≡ start ++ move_lines moves →
    count ≤ length now
moves_few moves start now count same lines =
    let few = lines_as_many moves in
    let all : length now ≡ length start + length (move_lines moves) = ap length lines ∙ length-append start (move_lines moves) in
    omega arith

pub moves_fit : (moves more : List Move) (start now new : List ℕ) (count n : ℕ) → count ≡ length moves → n ≡ length more →
    now ≡ start ++ move_lines moves → new ≡ now ++ move_lines more → count + n ≤ length new
moves_fit moves more start now new count n same next lines further =
    let before = moves_few moves start now count same lines in
    let few = lines_as_many more in
    let all : length new ≡ length now + length (move_lines more) = ap length further ∙ length-append now (move_lines more) in
    omega arith
