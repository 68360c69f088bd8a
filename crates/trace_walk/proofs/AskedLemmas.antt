-- The first line of an entry, and the line of an item, have one reading.
use Rattle.std.proofs.Common.{◌≡◌, ◌≢◌, ℕ, ◌≤◌, List, [], ◌∷◌, ◌++◌, length, get_or, take, drop, None, refl, sym, ap, subst, ◌∙◌, arith}
use Rattle.std.proofs.Common.{take-append-drop, append-nil, length-append}
use Rattle.std.specs.Fmt.{decimal}
use Rattle.ds_entry.specs.Item.{IsItem}
use Rattle.ds_entry.specs.declared.item.Item.{Item}
use Rattle.ds_line.specs.ItemSpelling.{item_spelling}
use Rattle.line_io.specs.Lines.{EndsLine}
use Rattle.ds_line.specs.Part.{texts}
use Rattle.ds_line.proofs.ItemLemmas.{items_apart}
use Rattle.ds_line.proofs.NewlineLemmas.{Unbroken, unbroken_decimal}
use Rattle.script_commands.specs.Command.{IsCommand, command_parts, store_command}
use Rattle.script_commands.specs.declared.command.ScriptCommand.{ScriptCommand}
use Rattle.script_commands.proofs.LawLemmas.{one_command}
use Rattle.trace_walk.specs.declared.asked.Head.{Head}
use Rattle.trace_walk.specs.declared.asked.Head.TheVariants.{Line, Merge}
use Rattle.trace_walk.specs.declared.header.Format.{Format}
use Rattle.trace_walk.specs.Head.{MayHead, head_text, HasNoHead}
use Rattle.trace_walk.specs.Text.{pass_text, merge_text, plus_text, CarriesLine}
use Rattle.trace_walk.proofs.SplitLemmas.{unbroken_tail}
use Rattle.trace_walk.proofs.NumberLemmas.{after_byte, number_one}

-- ---- the pass

pub pass_one : (p q : ℕ) (r s : List ℕ) → p ≤ 63 → q ≤ 63 → pass_text p r ≡ pass_text q s → (p ≡ q) × (r ≡ s)
pass_one p q r s lp lq e = number_one p q 32 r s (omega (arith, lp)) (omega (arith, lq)) refl (ap (drop 2) e)

-- ---- what ends a line

front_cases : (b : ℕ) (xs front : List ℕ) → b ≢ 10 → b ∷ xs ≡ front ++ 10 ∷ [] → Unbroken front → EndsLine xs
front_cases b xs [] other e none = absurd (other (ap (λ (l : List ℕ). get_or l 0 0) e))
front_cases b xs (f ∷ fs) other e none = record { front = fs; parts = ap (drop 1) e; none = unbroken_tail f fs none }

-- another first byte doesn't belong to the end
pub after_other : (b : ℕ) (xs : List ℕ) → b ≢ 10 → EndsLine (b ∷ xs) → EndsLine xs
after_other b xs other e = front_cases b xs e.front other e.parts e.none

pub ends_rest : (front rest : List ℕ) → Unbroken front → EndsLine (front ++ rest) → EndsLine rest
ends_rest [] rest whole e = e
ends_rest (b ∷ front) rest whole e = ends_rest front rest (unbroken_tail b front whole)
    (after_other b (front ++ rest) (whole 0 0 (omega arith)) e)

-- what follows the pass ends the line
pub pass_ends : (pass : ℕ) (rest : List ℕ) → pass ≤ 63 → EndsLine (pass_text pass rest) → EndsLine rest
pass_ends pass rest le e =
    after_other 32 rest (λ same. omega (arith, same))
    (ends_rest (decimal pass) (32 ∷ rest) (unbroken_decimal pass (omega (arith, le)))
    (after_other 32 (decimal pass ++ 32 ∷ rest) (λ same. omega (arith, same))
    (after_other 62 (32 ∷ (decimal pass ++ 32 ∷ rest)) (λ same. omega (arith, same)) e)))

-- ---- the command

-- what follows the pass
abbrev pub after_pass : Head → List ℕ
after_pass (Line c) = texts (command_parts c)
after_pass (Merge count) = merge_text count

head_is : (pass : ℕ) (head : Head) → head_text pass head ≡ pass_text pass (after_pass head)
head_is pass (Line c) = refl
head_is pass (Merge count) = refl

-- two commands on one line are one
pub same_command : (c d : ScriptCommand) (rest : List ℕ) → EndsLine rest → length rest ≤ 4097 → IsCommand c → IsCommand d →
    rest ≡ texts (command_parts c) → rest ≡ texts (command_parts d) → c ≡ d
same_command c d rest e short is_c is_d of_c of_d =
    let few : length e.front ≤ 4096 = omega (arith, short, ap length e.parts, length-append e.front (10 ∷ [])) in
    one_command c d e.front (record { written = is_c; text = sym e.parts ∙ of_c; short = few })
    (record { written = is_d; text = sym e.parts ∙ of_d; short = few })

-- the command there isn't allowed, and it isn't a Merge
none_may : (format : Format) (c : ScriptCommand) (rest : List ℕ) (head : Head) → EndsLine rest → length rest ≤ 4097 → IsCommand c →
    rest ≡ texts (command_parts c) → ¬ ((store_command c ≢ None) × CarriesLine format c)
    → ((n : ℕ) → n ≤ 256 → rest ≢ merge_text n) → MayHead format head → rest ≢ after_pass head
none_may format c rest (Line d) e short is there refused none may of_d =
    refused (subst (λ (x : ScriptCommand). (store_command x ≢ None) × CarriesLine format x)
    (sym (same_command c d rest e short is may.0 there of_d)) (may.1, may.2))
none_may format c rest (Merge count) e short is there refused none may of_d = none count may of_d

pub no_head : (format : Format) (c : ScriptCommand) (line rest : List ℕ) (p : ℕ)
    → p ≤ 63 → EndsLine line → length line ≤ 4097 → line ≡ pass_text p rest → IsCommand c → rest ≡ texts (command_parts c)
    → ¬ ((store_command c ≢ None) × CarriesLine format c)
    → ((n : ℕ) → n ≤ 256 → rest ≢ merge_text n) → HasNoHead format line
no_head format c line rest p le ends short at is there refused none pass head h =
    let e : EndsLine rest = pass_ends p rest le (subst EndsLine at ends) in
    let few : length rest ≤ 4097 = omega (arith, short, ap length at, length-append (decimal p) (32 ∷ rest)) in
    none_may format c rest head e few is there refused none h.1
    (pass_one p pass rest (after_pass head) le h.0 (sym at ∙ h.2 ∙ head_is pass head)).1

-- ---- a Merge's count

pub no_count : (text rest : List ℕ) (m : ℕ) → m ≤ 256 → rest ≢ [] → drop 6 text ≡ decimal m ++ 10 ∷ rest → (n : ℕ) → n ≤ 256 →
    text ≢ merge_text n
no_count text rest m lm some at n ln e = some
    (number_one m n 10 rest [] (omega (arith, lm)) (omega (arith, ln)) refl (sym at ∙ ap (drop 6) e)).1

-- ---- items

-- the item that is read is the line's, and nothing follows it
pub plus_one : (text : List ℕ) (i j : Item) (used : ℕ) → IsItem i → IsItem j → take used text ≡ item_spelling i →
    used ≡ length (item_spelling i) → text ≡ item_spelling j → (i ≡ j) × (used ≡ length text)
plus_one text i j used is_i is_j found len whole =
    let split : text ≡ item_spelling i ++ drop used text =
    sym (take-append-drop used text) ∙ ap (λ (l : List ℕ). l ++ drop used text) found in
    let one = items_apart i j (drop used text) [] is_i is_j (sym split ∙ whole ∙ sym (append-nil (item_spelling j))) in
    (one.0, len ∙ ap (λ (x : Item). length (item_spelling x)) one.0 ∙ ap length (sym whole))

-- what follows `+ `
pub after_plus : (line first text : List ℕ) (i : Item) → line ≡ 43 ∷ first → first ≡ 32 ∷ text → line ≡ plus_text i → text ≡ item_spelling i
after_plus line first text i plus space at =
    after_byte 32 text (item_spelling i) (sym space ∙ after_byte 43 first (32 ∷ item_spelling i) (sym plus ∙ at))

-- ---- neither a command nor a Merge follows the pass

none_there : (format : Format) (rest : List ℕ) (head : Head) → ((c : ScriptCommand) → IsCommand c → rest ≢ texts (command_parts c)) →
    ((n : ℕ) → n ≤ 256 → rest ≢ merge_text n) → MayHead format head → rest ≢ after_pass head
none_there format rest (Line d) no_command none may of_d = no_command d may.0 of_d
none_there format rest (Merge count) no_command none may of_d = none count may of_d

pub no_head_there : (format : Format) (line rest : List ℕ) (p : ℕ) → p ≤ 63 → line ≡ pass_text p rest →
    ((c : ScriptCommand) → IsCommand c → rest ≢ texts (command_parts c)) → ((n : ℕ) → n ≤ 256 → rest ≢ merge_text n) → HasNoHead format line
no_head_there format line rest p le at no_command none pass head h =
    none_there format rest head no_command none h.1 (pass_one p pass rest (after_pass head) le h.0 (sym at ∙ h.2 ∙ head_is pass head)).1
