-- Lines of an input, and their commands.
use Rattle.std.proofs.Common.{◌≡◌, ℕ, ◌<◌, ◌≤◌, Bool, true, false, List, [], ◌∷◌, ◌++◌, length, cond, nat_lt, refl, sym, ap, subst, ◌∙◌}
use Rattle.std.proofs.Common.{arith, append_assoc, append-nil, length-append}
use Rattle.std.specs.Char.{is_ascii_digit}
use Rattle.std.specs.Fmt.{decimal}
use Rattle.line_io.specs.Lines.{EndsLine, with_newline}
use Rattle.trace_walk.specs.Text.{TraceEntry, asked_text}
use Rattle.trace_walk.proofs.AskedLemmas.{pass_ends}
use Rattle.trace_walk.proofs.SplitLemmas.{ends_after, without}
use Rattle.trace_record.specs.Asking.{has_pass, asked_by, AskAll}

-- with its mark a line is a line
pub ends_asked : (line : List ℕ) → EndsLine line → EndsLine (asked_by line)
ends_asked line e = by_test (has_pass line)
  where
    by_test : (t : Bool) → EndsLine (62 ∷ 32 ∷ cond t line (48 ∷ 32 ∷ line))
    by_test true = ends_after (62 ∷ 32 ∷ []) line (without 10 (λ (x : ℕ). nat_lt 10 x) refl (62 ∷ 32 ∷ []) refl) e
    by_test false = ends_after (62 ∷ 32 ∷ 48 ∷ 32 ∷ []) line (without 10 (λ (x : ℕ). nat_lt 10 x) refl (62 ∷ 32 ∷ 48 ∷ 32 ∷ []) refl) e

-- so is what follows a pass
pub ends_after_pass : (pass : ℕ) (line rest : List ℕ) → pass ≤ 63 → line ≡ decimal pass ++ 32 ∷ rest → EndsLine line → EndsLine rest
ends_after_pass pass line rest le is e =
    pass_ends pass rest le (subst (λ (l : List ℕ). EndsLine (62 ∷ 32 ∷ l)) is
    (ends_after (62 ∷ 32 ∷ []) line (without 10 (λ (x : ℕ). nat_lt 10 x) refl (62 ∷ 32 ∷ []) refl) e))

-- it is no shorter
pub asked_longer : (line : List ℕ) → length line ≤ length (asked_by line)
asked_longer line = by_test (has_pass line)
  where
    by_test : (t : Bool) → length line ≤ length (62 ∷ 32 ∷ cond t line (48 ∷ 32 ∷ line))
    by_test true = omega arith
    by_test false = omega arith

-- what follows a first line follows its line in the trace
pub asked_after : (line more : List ℕ) → 0 < length line → asked_by (line ++ more) ≡ asked_by line ++ more
asked_after [] more some = absurd (omega (arith, some))
asked_after (b ∷ line) more some = by_test (is_ascii_digit b)
  where
    by_test : (t : Bool) → 62 ∷ 32 ∷ cond t (b ∷ (line ++ more)) (48 ∷ 32 ∷ b ∷ (line ++ more)) ≡
        (62 ∷ 32 ∷ cond t (b ∷ line) (48 ∷ 32 ∷ b ∷ line)) ++ more
    by_test true = refl
    by_test false = refl

pub some_line : (line : List ℕ) → 0 < length (with_newline line)
some_line line = omega (arith, length-append line (10 ∷ []))

-- one more entry
pub ask_more : (text more : List ℕ) (entries : List TraceEntry) (e : TraceEntry) → AskAll text entries →
    asked_by more ≡ asked_text e.pass e.asked → AskAll (text ++ more) (entries ++ e ∷ [])
ask_more text more [] e a is = (more, [], ap (λ (l : List ℕ). l ++ more) a ∙ sym (append-nil more), is, refl)
ask_more text more (f ∷ entries) e a is =
    (a.0, a.1 ++ more, ap (λ (l : List ℕ). l ++ more) a.2 ∙ append_assoc a.0 a.1 more, a.3, ask_more a.1 more entries e a.4 is)
