-- What is left of whole lines.
use Rattle.std.proofs.Common.{◌≡◌, ◌≢◌, ℕ, Bool, true, false, List, [], ◌∷◌, ◌++◌, nat_eq, cond, refl, sym, ap, ◌∙◌, append_assoc, rules}
use Rattle.std.specs.List.{filter}
use Rattle.std.proofs.lemmas.List.Elements.{All-head, All-tail}
use Rattle.line_io.specs.Lines.{IsUnbroken, joined}
use Rattle.ds_script.specs.declared.place.Place.TheVariants.{Begins, Within, Note}
use Rattle.ds_script.specs.Left.{text_left, is_kept_line, after_first, after_line, after_note_byte, keeps_first, kept_before}
use Rattle.ds_script.specs.Left.{WholeLinesAreLeft}

-- A byte of an unbroken line is no newline.
no_newline : (byte : ℕ) → byte ≢ 10 → nat_eq byte 10 ≡ false
no_newline byte other = search rules

first : (b : ℕ) (line : List ℕ) → IsUnbroken (b ∷ line) → b ≢ 10
first b line unbroken = All-head (λ (c : ℕ). c ≢ 10) b line unbroken

others : (b : ℕ) (line : List ℕ) → IsUnbroken (b ∷ line) → IsUnbroken line
others b line unbroken = All-tail (λ (c : ℕ). c ≢ 10) b line unbroken

-- Nothing is left of a comment up to its newline.
note_passed : (line more : List ℕ) → IsUnbroken line → text_left Note (line ++ 10 ∷ more) ≡ text_left Begins more
note_passed [] more unbroken = refl
note_passed (b ∷ line) more unbroken =
    ap (λ t. text_left (after_note_byte t) (line ++ 10 ∷ more)) (no_newline b (first b line unbroken)) ∙
    note_passed line more (others b line unbroken)

-- All of a kept line is left, up to its newline.
line_left : (line more : List ℕ) → IsUnbroken line → text_left Within (line ++ 10 ∷ more) ≡ line ++ 10 ∷ text_left Begins more
line_left [] more unbroken = refl
line_left (b ∷ line) more unbroken =
    ap (λ t. b ∷ text_left (after_line t) (line ++ 10 ∷ more)) (no_newline b (first b line unbroken)) ∙
    ap (λ l. b ∷ l) (line_left line more (others b line unbroken))

-- What is left of a line that isn't empty, by whether it is a comment.
first_left : (is_sign : Bool) (b : ℕ) (line more : List ℕ) → IsUnbroken line →
    kept_before (keeps_first false is_sign) b (text_left (after_first false is_sign) (line ++ 10 ∷ more))
    ≡ cond (keeps_first false is_sign) (b ∷ line ++ 10 ∷ text_left Begins more) (text_left Begins more)
first_left true b line more unbroken = note_passed line more unbroken
first_left false b line more unbroken = ap (λ l. b ∷ l) (line_left line more unbroken)

-- What is left of a line and its newline, and then of more.
kept_line : (line more : List ℕ) → IsUnbroken line →
    text_left Begins (line ++ 10 ∷ more) ≡ cond (is_kept_line line) (line ++ 10 ∷ text_left Begins more) (text_left Begins more)
kept_line [] more unbroken = refl
kept_line (b ∷ line) more unbroken =
    let none = no_newline b (first b line unbroken) in
    ap (λ t. kept_before (keeps_first t (nat_eq b 35)) b (text_left (after_first t (nat_eq b 35)) (line ++ 10 ∷ more))) none
    ∙ first_left (nat_eq b 35) b line more (others b line unbroken)
    ∙ ap (λ t. cond (keeps_first t (nat_eq b 35)) (b ∷ line ++ 10 ∷ text_left Begins more) (text_left Begins more)) (sym none)

-- A line that is kept, and lines that are left, joined.
joined_more : (is_kept_line : Bool) (line : List ℕ) (kept : List (List ℕ)) →
    cond is_kept_line (line ++ 10 ∷ joined kept) (joined kept) ≡ joined (cond is_kept_line (line ∷ kept) kept)
joined_more true line kept = sym (append_assoc line (10 ∷ []) (joined kept))
joined_more false line kept = refl

pub whole_lines : WholeLinesAreLeft
whole_lines [] unbroken = refl
whole_lines (line ∷ lines) unbroken =
    ap (text_left Begins) (append_assoc line (10 ∷ []) (joined lines)) ∙
    kept_line line (joined lines) (All-head IsUnbroken line lines unbroken)
    ∙ ap (λ l. cond (is_kept_line line) (line ++ 10 ∷ l) l) (whole_lines lines (All-tail IsUnbroken line lines unbroken))
    ∙ joined_more (is_kept_line line) line (filter is_kept_line lines)
