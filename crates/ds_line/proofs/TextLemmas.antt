-- Reading a quoted text byte by byte into a block.
use Rattle.std.proofs.Common.{◌≡◌, ◌≢◌, ℕ, ◌+◌, ◌<◌, ◌≤◌, true, inl, inr, List, [], ◌∷◌, ◌++◌, length, get_or, take, drop, refl, sym, ap}
use Rattle.std.proofs.Common.{subst, ◌∙◌, append_assoc, arith}
use Rattle.std.proofs.Math.ListN.{set}
use Rattle.std.specs.List.{list_all}
use Rattle.std.proofs.lemmas.Bool.{and_parts}
use Rattle.std.proofs.lemmas.List.{append-nil, length-append, length-set, length-take-le, get_or-set_same, take_more, take-set-le}
use Rattle.std.proofs.lemmas.List.Folds.{list_all-append}
use Rattle.std.proofs.lemmas.List.Concat.{flat_map-append}
use Rattle.ds_names.specs.Run.{Begins}
use Rattle.ds_entry.specs.Value.{is_text_byte, IsText}
use Rattle.ds_line.specs.Part.{Quoted, run_of}
use Rattle.ds_line.specs.Spelling.{escaped_byte, escaped, quoted}
use Rattle.ds_line.proofs.QuoteLemmas.{goes_on, unquoted}

-- A byte written after the first ones of a block.
pub block_more : (block : List ℕ) (n b : ℕ) → n < length block → take (n + 1) (set block n b) ≡ take n block ++ b ∷ []
block_more block n b lt =
    take_more (set block n b) n 0 (omega (arith, length-set block n b))
    ∙ ap (λ (t : List ℕ). t ++ get_or (set block n b) n 0 ∷ []) (take-set-le n block n b (omega arith))
    ∙ ap (λ (x : ℕ). take n block ++ x ∷ []) (get_or-set_same block n b 0 lt)

-- The first bytes of a block are written after the first quote, and the rest comes after them.
pub record IsOpen (bytes block rest : List ℕ) (n : ℕ) : Type 0 where
  pub parts : bytes ≡ 34 ∷ (escaped (take n block) ++ rest)
  pub printable : list_all is_text_byte (take n block) ≡ true
  pub whole : length block ≡ 256

pub open_first : (bytes block rest : List ℕ) → bytes ≡ 34 ∷ rest → length block ≡ 256 → IsOpen bytes block rest 0
open_first bytes block rest is whole = record { parts = is; printable = refl; whole = whole }

pub open_more : (bytes block rest past : List ℕ) (n b : ℕ) → IsOpen bytes block rest n → n < 256 → rest ≡ escaped_byte b ++ past →
    is_text_byte b ≡ true → IsOpen bytes (set block n b) past (n + 1)
open_more bytes block rest past n b begun lt is printable =
    let more = block_more block n b (omega (arith, begun.whole)) in
    let one : escaped (take n block ++ b ∷ []) ≡ escaped (take n block) ++ escaped_byte b =
    flat_map-append escaped_byte (take n block) (b ∷ []) ∙ ap (λ (t : List ℕ). escaped (take n block) ++ t) (append-nil (escaped_byte b)) in
    let both : list_all is_text_byte (take n block ++ b ∷ []) ≡ true =
    list_all-append is_text_byte (take n block) (b ∷ []) ∙ rw (begun.printable, printable) refl in
    record {
      parts = begun.parts ∙ ap (λ (t : List ℕ). 34 ∷ (escaped (take n block) ++ t)) is
          ∙ ap (λ (t : List ℕ). 34 ∷ t) (sym (append_assoc (escaped (take n block)) (escaped_byte b) past))
          ∙ ap (λ (t : List ℕ). 34 ∷ (t ++ past)) (sym one)
          ∙ ap (λ (t : List ℕ). 34 ∷ (escaped t ++ past)) (sym more);
      printable = ap (list_all is_text_byte) more ∙ both;
      whole = length-set block n b ∙ begun.whole;
    }

-- ---- the closing quote

quote_ends : (rest : List ℕ) → Begins (run_of Quoted) rest [] rest
quote_ends [] = record { parts = refl; ends = tt }
quote_ends (b ∷ rest) = record { parts = refl; ends = refl }

pub open_closes : (bytes block rest past : List ℕ) (n : ℕ) → IsOpen bytes block rest n → rest ≡ 34 ∷ past →
    Begins (run_of Quoted) bytes (quoted (take n block)) past
open_closes bytes block rest past n begun is =
    record {
      parts = begun.parts ∙ ap (λ (t : List ℕ). 34 ∷ (escaped (take n block) ++ t)) is ∙ sym (unquoted (take n block) past);
      ends =
          (quote_ends past).ends;
    }

pub open_text : (bytes block rest : List ℕ) (n : ℕ) → IsOpen bytes block rest n → n ≤ 256 → IsText (take n block)
open_text bytes block rest n begun le = record
    { limit = omega (arith, length-take-le n block (omega (arith, begun.whole))); printable = begun.printable }

-- ---- no text

pub no_opening : (bytes : List ℕ) → ((rest : List ℕ) → bytes ≢ 34 ∷ rest) → (text rest : List ℕ) → IsText text →
    ¬ Begins (run_of Quoted) bytes (quoted text) rest
no_opening bytes none text rest is begins = none (escaped text ++ 34 ∷ rest) (begins.parts ∙ unquoted text rest)

last_allowed : (front more : List ℕ) (b : ℕ) → list_all is_text_byte (front ++ b ∷ more) ≡ true → is_text_byte b ≡ true
last_allowed front more b all =
    let halves = and_parts (list_all is_text_byte front) (list_all is_text_byte (b ∷ more))
    (sym (list_all-append is_text_byte front (b ∷ more)) ∙ all) in
    (and_parts (is_text_byte b) (list_all is_text_byte more) halves.1).0

-- Neither the closing quote nor a byte of a text follows what is read.
pub open_stops : (bytes block r : List ℕ) (n : ℕ) → IsOpen bytes block r n → ((rest : List ℕ) → r ≢ 34 ∷ rest) →
    ((b : ℕ) (rest : List ℕ) → is_text_byte b ≡ true → r ≢ escaped_byte b ++ rest)
    → (text rest : List ℕ) → IsText text → ¬ Begins (run_of Quoted) bytes (quoted text) rest
open_stops bytes block r n begun no_quote no_byte text rest is begins =
    elim (goes_on (take n block) text r rest (ap (drop 1) (sym begun.parts ∙ begins.parts ∙ unquoted text rest))) [
      | inl x ↦ no_quote rest x.1
      | inr y ↦ no_byte y.0 (escaped y.1 ++ 34 ∷ rest)
          (last_allowed (take n block) y.1 y.0 (subst (λ (t : List ℕ). list_all is_text_byte t ≡ true) y.2 is.printable)) y.3
    ]

-- the text has 256 bytes already, and the closing quote is missing
pub open_full : (bytes block r : List ℕ) → IsOpen bytes block r 256 → ((rest : List ℕ) → r ≢ 34 ∷ rest) → (text rest : List ℕ) →
    IsText text → ¬ Begins (run_of Quoted) bytes (quoted text) rest
open_full bytes block r begun no_quote text rest is begins =
    elim (goes_on (take 256 block) text r rest (ap (drop 1) (sym begun.parts ∙ begins.parts ∙ unquoted text rest))) [
      | inl x ↦ no_quote rest x.1
      | inr y ↦ (let len : length text ≡ 256 + length (y.0 ∷ y.1) = ap length y.2 ∙ length-append (take 256 block) (y.0 ∷ y.1) ∙
          ap (λ (k : ℕ). k + length (y.0 ∷ y.1)) (length-take-le 256 block (omega (arith, begun.whole))) in omega (arith, len, is.limit))
    ]
