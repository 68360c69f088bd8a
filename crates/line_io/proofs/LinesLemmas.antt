-- Where the next line is in the bytes.
use Rattle.std.proofs.Common.{◌≡◌, ◌≢◌, ℕ, ◌+◌, ◌-◌, ◌^◌, ◌≤◌, ◌<◌, List, [], ◌∷◌, ◌++◌, length, take, drop, refl, sym, ap, subst, ◌∙◌}
use Rattle.std.proofs.Common.{arith, append_assoc, add-one, take-append-drop, length-append}
use Rattle.std.proofs.Math.Seq.{take-append_seam}
use Rattle.std.proofs.lemmas.List.{length-take-le, length-drop, drop_at, drop_all, take_all, drop-append-le}
use Rattle.line_io.specs.Lines.{IsUnbroken, EndsLine, with_newline}
use Rattle.line_io.specs.Reading.{lines_of, AreLinesKept, GoesToNext, GoesToLast}

-- The rest after a line that begins at an offset.
rest_after : (bytes line more : List ℕ) (at : ℕ) → at ≤ length bytes → drop at bytes ≡ line ++ more → drop (at + length line) bytes ≡ more
rest_after bytes line more at h e =
    let split : bytes ≡ (take at bytes ++ line) ++ more =
    sym (take-append-drop at bytes) ∙ ap (λ l. take at bytes ++ l) e ∙ sym (append_assoc (take at bytes) line more) in
    let front : length (take at bytes ++ line) ≡ at + length line =
    length-append (take at bytes) line ∙ ap (λ n. n + length line) (length-take-le at bytes h) in
    ap (drop (at + length line)) split ∙ drop_at (take at bytes ++ line) more (at + length line) front

line_there : (bytes line more : List ℕ) (at next : ℕ) → next ≡ at + length line → drop at bytes ≡ line ++ more →
    take (next - at) (drop at bytes) ≡ line
line_there bytes line more at next same e =
    let n : next - at ≡ length line = omega (arith, same) in
    ap (λ k. take k (drop at bytes)) n ∙ ap (take (length line)) e ∙ take-append_seam line more

-- a line ends within the bytes, and has at least its newline
line_within : (bytes line more : List ℕ) (at : ℕ) → at ≤ length bytes → drop at bytes ≡ line ++ more → at + length line ≤ length bytes
line_within bytes line more at h e = omega (arith, h, length-drop at bytes, ap length e, length-append line more)

line_some : (line : List ℕ) → EndsLine line → 0 < length line
line_some line ends = omega (arith, ap length ends.parts, length-append ends.front (10 ∷ []))

pub goes_on : (bytes line more : List ℕ) (chunk have start at count reads : ℕ) → AreLinesKept chunk have start at count reads →
    have ≡ length bytes → drop at bytes ≡ line ++ more → EndsLine line
    → GoesToNext (lines_of bytes start at count reads) (lines_of bytes at (at + length line) (count + 1) reads)
goes_on bytes line more chunk have start at count reads kept all e ends =
    let next : ℕ = at + length line in
    let within : at ≤ length bytes = omega (arith, kept.within, all) in
    let there : take (next - at) (drop at bytes) ≡ line = line_there bytes line more at next refl e in
    let rest : drop next bytes ≡ more = rest_after bytes line more at within e in
    record {
      ends = subst EndsLine (sym there) ends;
      split = e ∙ ap (λ l. l ++ more) (sym there) ∙ ap (λ r. take (next - at) (drop at bytes) ++ r) (sym rest);
      count = add-one count;
      reads = refl;
    }

-- No more lines were reached than bytes were read.
pub few_lines : (chunk have start end count reads : ℕ) → AreLinesKept chunk have start end count reads → count ≤ 2 ^ 48
few_lines chunk have start end count reads kept = omega (arith, kept.few, kept.reads, kept.within)

pub few_more : (bytes line more : List ℕ) (chunk have start at count reads : ℕ) → AreLinesKept chunk have start at count reads →
    have ≡ length bytes → drop at bytes ≡ line ++ more → EndsLine line → count + 1 ≤ 2 ^ 48
few_more bytes line more chunk have start at count reads kept all e ends =
    omega (arith, kept.few, kept.reads, all, line_within bytes line more at (omega (arith, kept.within, all)) e, line_some line ends)

-- The bytes from an index on, as a slice to the end has them.
pub sliced : (text bytes line more : List ℕ) (at : ℕ) → text ≡ bytes → take (length text - at) (drop at text) ≡ line ++ more →
    drop at bytes ≡ line ++ more
sliced text bytes line more at same e =
    let few : length (drop at text) ≤ length text - at = omega (arith, length-drop at text) in
    ap (drop at) (sym same) ∙ sym (take_all (length text - at) (drop at text) few) ∙ e

-- The last line, after which a newline is written.
last_line : (bytes : List ℕ) (at : ℕ) → at ≤ length bytes →
    take (length (bytes ++ 10 ∷ []) - at) (drop at (bytes ++ 10 ∷ [])) ≡ with_newline (drop at bytes)
last_line bytes at h =
    let split : drop at (bytes ++ 10 ∷ []) ≡ drop at bytes ++ 10 ∷ [] = drop-append-le at bytes (10 ∷ []) h in
    let few : length (drop at (bytes ++ 10 ∷ [])) ≤ length (bytes ++ 10 ∷ []) - at = omega (arith, length-drop at (bytes ++ 10 ∷ [])) in
    take_all (length (bytes ++ 10 ∷ []) - at) (drop at (bytes ++ 10 ∷ [])) few ∙ split

-- The line isn't empty.
last_some : (bytes : List ℕ) (at : ℕ) → at < length bytes → drop at bytes ≢ []
last_some bytes at h none = omega (arith, h, length-drop at bytes, ap length none)

pub goes_last : (bytes more : List ℕ) (chunk have start at end count reads : ℕ) → AreLinesKept chunk have start at count reads →
    have ≡ length bytes → at ≢ have → more ≡ bytes ++ 10 ∷ [] → end ≡ length more → IsUnbroken (drop at bytes)
    → GoesToLast (lines_of bytes start at count reads) (lines_of more at end (count + 1) reads)
goes_last bytes more chunk have start at end count reads kept all some grown ends whole =
    let within : at ≤ length bytes = omega (arith, kept.within, all) in
    let line : take (end - at) (drop at more) ≡ drop at bytes ++ 10 ∷ [] =
    ap (λ n. take (n - at) (drop at more)) ends ∙ ap (λ m. take (length m - at) (drop at m)) grown ∙ last_line bytes at within in
    record {
      ends = record { front = drop at bytes; parts = line; none = whole };
      line = line;
      some = last_some bytes at (omega (arith, kept.within, some, all));
      rest = drop_all end more (omega (arith, ends));
      count = add-one count;
      reads = refl;
      few = omega (arith, kept.few, kept.reads, kept.within);
    }
