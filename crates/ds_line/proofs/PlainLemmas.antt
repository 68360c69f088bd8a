-- A quoted text is written run by run: bytes that need no escape are copied.
use Rattle.std.proofs.Common.{◌≡◌, ℕ, ◌==◌, Bool, true, false, ◌||◌, List, [], ◌∷◌, ◌++◌, take, drop, refl, sym, ap, ◌∙◌, append_assoc}
use Rattle.std.specs.Prelude.{not}
use Rattle.std.specs.List.{list_all, prefix_len}
use Rattle.std.proofs.lemmas.Bool.{and_parts, false≢true}
use Rattle.std.proofs.lemmas.List.{take-append-drop}
use Rattle.std.proofs.lemmas.List.Concat.{flat_map-append}
use Rattle.ds_names.proofs.DecimalLemmas.{run_parts}
use Rattle.ds_line.specs.Spelling.{escaped_byte, escaped}

-- Whether the byte needs no escape.
abbrev pub is_plain : ℕ → Bool
is_plain b = not (b == 34 || b == 92)

plain_byte : (b : ℕ) (t : Bool) → (b == 34 || b == 92) ≡ t → not t ≡ true → escaped_byte b ≡ b ∷ []
plain_byte b true is h = absurd (false≢true h)
plain_byte b false is h = rw is refl

plain_text : (text : List ℕ) → list_all is_plain text ≡ true → escaped text ≡ text
plain_text [] all = refl
plain_text (b ∷ text) all =
    let parts = and_parts (is_plain b) (list_all is_plain text) all in
    ap (λ (t : List ℕ). t ++ escaped text) (plain_byte b (b == 34 || b == 92) refl parts.0) ∙
    ap (λ (t : List ℕ). b ∷ t) (plain_text text parts.1)

-- One byte, the run after it, and the rest.
pub run_written : (text : List ℕ) (b : ℕ) (past plain more : List ℕ) → text ≡ b ∷ past → plain ≡ take (prefix_len is_plain past) past →
    more ≡ drop (prefix_len is_plain past) past
    → escaped text ≡ (escaped_byte b ++ plain) ++ escaped more
run_written text b past plain more is is_plain_run is_more =
    let front : escaped plain ≡ plain = plain_text plain (ap (list_all is_plain) is_plain_run ∙ (run_parts is_plain past).0) in
    let whole : past ≡ plain ++ more = sym (ap (λ (t : List ℕ). t ++ more) is_plain_run ∙
    ap (λ (t : List ℕ). take (prefix_len is_plain past) past ++ t) is_more ∙ take-append-drop (prefix_len is_plain past) past) in
    ap escaped is
    ∙ ap (λ (t : List ℕ). escaped_byte b ++ escaped t) whole
    ∙ ap (λ (t : List ℕ). escaped_byte b ++ t) (flat_map-append escaped_byte plain more)
    ∙ ap (λ (t : List ℕ). escaped_byte b ++ (t ++ escaped more)) front
    ∙ sym (append_assoc (escaped_byte b) plain (escaped more))

-- what is written before the rest, and one run more
pub run_more : (items new first rest text more : List ℕ) (b : ℕ) (plain : List ℕ) → items ++ escaped rest ≡ first ++ escaped text →
    escaped rest ≡ (escaped_byte b ++ plain) ++ escaped more → new ≡ items ++ (escaped_byte b ++ plain) →
    new ++ escaped more ≡ first ++ escaped text
run_more items new first rest text more b plain before one is =
    ap (λ (t : List ℕ). t ++ escaped more) is ∙ append_assoc items (escaped_byte b ++ plain) (escaped more) ∙
    ap (λ (t : List ℕ). items ++ t) (sym one) ∙ before
