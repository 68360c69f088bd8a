-- Patterns in quotes, read byte by byte.
use Rattle.std.specs.Prelude.{◌==◌}
use Rattle.std.proofs.Common.{Ok, ◌≡◌, ◌≢◌, ℕ, ◌+◌, ◌<◌, inl, inr, List, [], ◌∷◌, ◌++◌, length, drop, refl, sym, ap, subst, ◌∙◌}
use Rattle.std.proofs.Common.{append_assoc, append-nil, length-append, arith}
use Rattle.std.proofs.lemmas.Bool.{cond-false, ne_eqb}
use Rattle.std.proofs.lemmas.List.Elements.{All-head, All-tail}
use Rattle.std.proofs.lemmas.List.Concat.{flat_map-append}
use Rattle.ds_names.specs.Run.{Ends}
use Rattle.ds_line.specs.Part.{Part, part, run_of, Quoted}
use Rattle.ds_line.specs.Spelling.{escaped_byte, escaped, quoted}
use Rattle.ds_line.specs.Piece.{StopsIn}
use Rattle.ds_line.specs.declared.part_fault.PartFault.{PartFault}
use Rattle.ds_line.specs.declared.part_fault.PartFault.TheVariants.{BadPart}
use Rattle.ds_line.proofs.OpeningLemmas.{text_at}
use Rattle.ds_line.proofs.PieceLemmas.{Fixed, One, one_by, byte_found}
use Rattle.ds_line.proofs.QuoteLemmas.{shape, byte_one, goes_on, unquoted, quoted_one}
use Rattle.line_io.specs.Lines.{IsUnbroken}
use Rattle.script_commands.specs.Pieces.{a_pattern}
use Rattle.script_commands.specs.Query.{unescaped}
use Rattle.script_commands.specs.Reads.{FindsPattern, Reads}
use Rattle.line_io.proofs.NewlineLemmas.{unbroken_none, unbroken_more}
use Rattle.script_commands.proofs.PieceLemmas.{one_part, no_part}
use Rattle.script_commands.proofs.ReadsLemmas.{finds}

-- ---- texts without newlines

unbroken_end : (front : List ℕ) (b : ℕ) → IsUnbroken front → b ≢ 10 → IsUnbroken (front ++ b ∷ [])
unbroken_end [] b is other = unbroken_more b [] other unbroken_none
unbroken_end (f ∷ front) b is other = unbroken_more f (front ++ b ∷ []) (All-head (λ (x : ℕ). x ≢ 10) f front is)
    (unbroken_end front b (All-tail (λ (x : ℕ). x ≢ 10) f front is) other)

unbroken_at : (front more : List ℕ) (b : ℕ) → IsUnbroken (front ++ b ∷ more) → b ≢ 10
unbroken_at [] more b is = All-head (λ (x : ℕ). x ≢ 10) b more is
unbroken_at (f ∷ front) more b is = unbroken_at front more b (All-tail (λ (x : ℕ). x ≢ 10) f (front ++ b ∷ more) is)

-- ---- what is between the quotes

-- a byte takes one or two bytes between quotes
pub byte_shorter : (b : ℕ) (r s : List ℕ) → r ≡ escaped_byte b ++ s → length s < length r
byte_shorter b r s is =
    elim (shape b) [
      | inl x ↦ (let e : r ≡ 92 ∷ b ∷ s = is ∙ ap (λ (t : List ℕ). t ++ s) x.0 in omega (arith, ap length e))
      | inr x ↦ (let e : r ≡ b ∷ s = is ∙ ap (λ (t : List ℕ). t ++ s) x.0 in omega (arith, ap length e))
    ]

-- a prefix of a quoted text, followed by the rest
abbrev pub IsBegun : List ℕ → List ℕ → Type 0
IsBegun written rest = (done : List ℕ) × IsUnbroken done × (written ≡ escaped done ++ rest)

escaped_end : (text : List ℕ) (b : ℕ) → escaped (text ++ b ∷ []) ≡ escaped text ++ escaped_byte b
escaped_end text b = flat_map-append escaped_byte text (b ∷ []) ∙ ap (λ (t : List ℕ). escaped text ++ t) (append-nil (escaped_byte b))

pub begun_more : (written rest past : List ℕ) (b : ℕ) → IsBegun written rest → rest ≡ escaped_byte b ++ past → b ≢ 10 → IsBegun written past
begun_more written rest past b begun is other = (
  begun.0 ++ b ∷ [],
  unbroken_end begun.0 b begun.1 other,
  begun.2 ∙ ap (λ (t : List ℕ). escaped begun.0 ++ t) is ∙ sym (append_assoc (escaped begun.0) (escaped_byte b) past) ∙
      ap (λ (t : List ℕ). t ++ past) (sym (escaped_end begun.0 b)),
)

pub rest_fits : (written rest : List ℕ) → IsBegun written rest → length rest < length written + 1
rest_fits written rest begun = omega (arith, ap length begun.2, length-append (escaped begun.0) rest)

-- no quote opens
pub no_opening : (bytes : List ℕ) → ((rest : List ℕ) → bytes ≢ 34 ∷ rest) → (text rest : List ℕ) → IsUnbroken text →
    bytes ≢ quoted text ++ rest
no_opening bytes none text rest is same = none (escaped text ++ 34 ∷ rest) (same ∙ unquoted text rest)

-- neither the closing quote nor another byte follows what is read
pub no_closing : (bytes written rest : List ℕ) → bytes ≡ 34 ∷ written → IsBegun written rest →
    ((b : ℕ) (s : List ℕ) → b ≢ 10 → rest ≢ escaped_byte b ++ s) → ((s : List ℕ) → rest ≢ 34 ∷ s)
    → (text after : List ℕ) → IsUnbroken text → bytes ≢ quoted text ++ after
no_closing bytes written rest opens begun no_byte no_quote text after is same =
    let both : 34 ∷ (escaped begun.0 ++ rest) ≡ 34 ∷ (escaped text ++ 34 ∷ after) =
    ap (λ (t : List ℕ). 34 ∷ t) (sym begun.2) ∙ sym opens ∙ same ∙ unquoted text after in
    elim (goes_on begun.0 text rest after (ap (drop 1) both)) [
      | inl x ↦ no_quote after x.1
      | inr y ↦ no_byte y.0 (escaped y.1 ++ 34 ∷ after) (unbroken_at begun.0 y.1 y.0 (subst IsUnbroken y.2 is)) y.3
    ]

-- ---- the text of these bytes

-- a prefix of a text, whose rest is in the remaining bytes
abbrev pub IsLeft : List ℕ → List ℕ → List ℕ → Type 0
IsLeft written text rest = (left : List ℕ) × IsUnbroken left × (rest ≡ escaped left) × (written ≡ escaped (text ++ left))

left_step : (left written text rest past : List ℕ) (b : ℕ) → IsUnbroken left → rest ≡ escaped left → written ≡ escaped (text ++ left) →
    rest ≡ escaped_byte b ++ past → IsLeft written (text ++ b ∷ []) past
left_step [] written text rest past b is e w h = absurd (omega (arith, byte_shorter b rest past h, ap length e))
left_step (c ∷ more) written text rest past b is e w h =
    let one = byte_one b c past (escaped more) (sym h ∙ e) in (
      more,
      All-tail (λ (x : ℕ). x ≢ 10) c more is,
      one.1,
      w ∙ ap (λ (x : ℕ). escaped (text ++ x ∷ more)) (sym one.0) ∙
          ap escaped (sym (append_assoc text (b ∷ []) more)),
    )

pub left_more : (written text rest past : List ℕ) (b : ℕ) → IsLeft written text rest → rest ≡ escaped_byte b ++ past →
    IsLeft written (text ++ b ∷ []) past
left_more written text rest past b left h = left_step left.0 written text rest past b left.1 left.2 left.3 h

left_ends : (left written text rest : List ℕ) → IsUnbroken left → rest ≡ escaped left → written ≡ escaped (text ++ left) →
    ((b : ℕ) (s : List ℕ) → b ≢ 10 → rest ≢ escaped_byte b ++ s) → written ≡ escaped text
left_ends [] written text rest is e w none = w ∙ ap escaped (append-nil text)
left_ends (c ∷ more) written text rest is e w none = absurd (none c (escaped more) (All-head (λ (x : ℕ). x ≢ 10) c more is) e)

pub left_last : (written text rest : List ℕ) → IsLeft written text rest → ((b : ℕ) (s : List ℕ) → b ≢ 10 → rest ≢ escaped_byte b ++ s) →
    written ≡ escaped text
left_last written text rest left none = left_ends left.0 written text rest left.1 left.2 left.3 none

-- something is left where a byte comes
some_left : (left text rest past : List ℕ) (b : ℕ) → rest ≡ escaped left → rest ≡ escaped_byte b ++ past → text ++ left ≢ []
some_left [] text rest past b e h none = omega (arith, byte_shorter b rest past h, ap length e)
some_left (c ∷ more) text rest past b e h none = omega (arith, ap length none, length-append text (c ∷ more))

plain_first : (b : ℕ) (written : List ℕ) → b ≢ 92 → unescaped (b ∷ written) ≡ b ∷ unescaped written
unfolding unescaped
plain_first b [] other = refl
plain_first b (c ∷ written) other = cond-false (b == 92) (c ∷ unescaped written) (b ∷ unescaped (c ∷ written)) (ne_eqb b 92 other)

first_unescaped : (b : ℕ) (written : List ℕ) → unescaped (escaped_byte b ++ written) ≡ b ∷ unescaped written
unfolding unescaped
first_unescaped b written =
    elim (shape b) [
      | inl x ↦ ap (λ (t : List ℕ). unescaped (t ++ written)) x.0
      | inr x ↦ ap (λ (t : List ℕ). unescaped (t ++ written)) x.0 ∙ plain_first b written x.2
    ]

unescaped_all : (text : List ℕ) → unescaped (escaped text) ≡ text
unfolding unescaped
unescaped_all [] = refl
unescaped_all (b ∷ text) = first_unescaped b (escaped text) ∙ ap (λ (t : List ℕ). b ∷ t) (unescaped_all text)

-- a text is that of its bytes between quotes
pub unescaped_is : (written text : List ℕ) → written ≡ escaped text → unescaped written ≡ text
unescaped_is written text is = ap unescaped is ∙ unescaped_all text

pub left_some : (written text rest past : List ℕ) (b : ℕ) → IsLeft written text rest → rest ≡ escaped_byte b ++ past →
    unescaped written ≢ []
left_some written text rest past b left h none =
    some_left left.0 text rest past b left.2 h (sym (unescaped_is written (text ++ left.0) left.3) ∙ none)

-- ---- patterns

abbrev pub pattern_part : List ℕ → Part
pattern_part text = part Quoted (quoted text)

quote_ends : (rest : List ℕ) → Ends (run_of Quoted) rest
quote_ends [] = tt
quote_ends (b ∷ rest) = refl

pub no_pattern : (stop : PartFault) (bytes r : List ℕ) → bytes ≡ 32 ∷ r → stop ≡ BadPart (length r) →
    ((text rest : List ℕ) → IsUnbroken text → r ≢ quoted text ++ rest) → StopsIn a_pattern stop bytes
no_pattern stop bytes r is at none = no_part 32 (List ℕ) IsUnbroken pattern_part [] stop bytes r unbroken_none is at
    (λ text rest can begins. none text rest can begins.parts)

pub pattern_found : (written bytes r rest : List ℕ) → bytes ≡ 32 ∷ r →
    (text : List ℕ) × IsUnbroken text × (written ≡ escaped text) × (r ≡ quoted text ++ rest) → FindsPattern written bytes rest
pattern_found written bytes r rest is found = (
  (found.0, found.1, found.2),
  subst (λ (t : List ℕ). Reads a_pattern bytes (Ok t) rest) (sym (unescaped_is written found.0 found.2)) (finds _
      (byte_found 32 (one_part (List ℕ) IsUnbroken pattern_part) found.0 bytes r rest is (record
      { can = found.1; front = (rest, record { parts = found.3; ends = quote_ends rest }, refl) }))),
)

pub pattern_fixed : Fixed a_pattern 2
pattern_fixed text = refl

pub pattern_one : One a_pattern
pattern_one = one_by a_pattern (λ a b is_a is_b. (refl, λ _. (refl, λ _. tt))) (λ a is. (refl, ((a, refl), tt)))
    (λ a b is_a is_b same. (quoted_one a b [] [] (ap (λ (t : List ℕ). t ++ []) (ap (text_at 1) same))).0)
