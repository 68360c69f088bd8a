-- A line ends with its only newline.
use Rattle.std.proofs.Common.{◌≡◌, ◌≢◌, ℕ, ◌^◌, ◌<◌, Bool, true, false, inl, inr, List, [], ◌∷◌, ◌++◌, refl, sym, ap, subst, ◌∙◌}
use Rattle.std.proofs.Common.{append_assoc, arith}
use Rattle.std.specs.List.{All, list_all}
use Rattle.std.specs.Char.{is_ascii_digit, is_ascii_alphanumeric}
use Rattle.std.specs.Fmt.{decimal}
use Rattle.std.proofs.lemmas.Bool.{false≢true, and_parts}
use Rattle.hex.specs.Hex.{encode_lower}
use Rattle.std.proofs.lemmas.Fmt.{digits_decimal}
use Rattle.std.proofs.lemmas.List.Elements.{All-nil, All-cons, All-append}
use Rattle.std.proofs.lemmas.List.Sums.{AllPass-from_list_all}
use Rattle.ds_names.specs.Name.{is_name_byte}
use Rattle.ds_names.specs.Endpoint.{EndpointRecord, IsEndpoint, endpoint_text}
use Rattle.ds_names.proofs.DecimalLemmas.{own}
use Rattle.ds_entry.specs.Value.{is_text_byte}
use Rattle.ds_entry.specs.declared.body.Value.{Value}
use Rattle.ds_entry.specs.declared.body.Value.TheVariants as values
use Rattle.ds_entry.specs.declared.body.Body.{Body}
use Rattle.ds_entry.specs.declared.body.Body.TheVariants.{Put, Gone}
use Rattle.ds_entry.specs.Change.{ChangeRecord, IsValue, IsBody, IsChange}
use Rattle.ds_line.specs.Part.{Name, Word, Number, Part, part, byte, texts, is_hex_byte}
use Rattle.ds_line.specs.Spelling.{space, newline, kind_word, escaped_byte, escaped, quoted, value_part, body_parts, spelling}
use Rattle.line_io.specs.Lines.{EndsLine}
use Rattle.ds_line.proofs.QuoteLemmas.{shape}
use Rattle.ds_line.proofs.DigitLemmas.{hex_run}
use Rattle.ds_line.proofs.OpeningLemmas.{word_is_word}

-- no byte is a newline
abbrev pub Unbroken : List ℕ → Type 0
Unbroken bytes = All (λ (b : ℕ). b ≢ 10) bytes

pub unbroken_run : (run : ℕ → Bool) → run 10 ≡ false → (bytes : List ℕ) → list_all run bytes ≡ true → Unbroken bytes
unbroken_run run not_one bytes all k d lt = λ same.
    false≢true (sym not_one ∙ ap run (sym same) ∙ AllPass-from_list_all run bytes all k d lt)

pub unbroken_name : (n : List ℕ) → list_all is_name_byte n ≡ true → Unbroken n
unfolding is_name_byte
unbroken_name n all = unbroken_run is_name_byte refl n all

pub unbroken_decimal : (n : ℕ) → n < 2 ^ 64 → Unbroken (decimal n)
unbroken_decimal n lt = unbroken_run is_ascii_digit refl (decimal n) (digits_decimal own n lt)

pub unbroken_endpoint : (a : EndpointRecord) → IsEndpoint a → Unbroken (endpoint_text a)
unbroken_endpoint a is =
    All-append (λ (b : ℕ). b ≢ 10) (decimal a.generation) (47 ∷ decimal a.slot)
    (unbroken_decimal a.generation (omega (arith, is.generation)))
    (All-cons (λ (b : ℕ). b ≢ 10) 47 (decimal a.slot) (λ same. omega (arith, same)) (unbroken_decimal a.slot (omega (arith, is.slot))))

pub unbroken_one : (b : ℕ) (rest : List ℕ) → b ≢ 10 → Unbroken rest → Unbroken (b ∷ rest)
unbroken_one b rest other more = All-cons (λ (x : ℕ). x ≢ 10) b rest other more

unbroken_byte : (b : ℕ) → is_text_byte b ≡ true → Unbroken (escaped_byte b)
unbroken_byte b printable =
    let other : b ≢ 10 = λ same. (let t : is_text_byte b ≡ false = rw same refl in false≢true (sym t ∙ printable)) in
    let alone : Unbroken (b ∷ []) = unbroken_one b [] other (All-nil (λ (x : ℕ). x ≢ 10)) in
    elim (shape b) [
      | inl x ↦ subst Unbroken (sym x.0) (unbroken_one 92 (b ∷ []) (λ same. omega (arith, same)) alone)
      | inr x ↦ subst Unbroken (sym x.0) alone
    ]

unbroken_escaped : (text : List ℕ) → list_all is_text_byte text ≡ true → Unbroken (escaped text)
unbroken_escaped [] all = All-nil (λ (x : ℕ). x ≢ 10)
unbroken_escaped (b ∷ text) all =
    let parts = and_parts (is_text_byte b) (list_all is_text_byte text) all in
    All-append (λ (x : ℕ). x ≢ 10) (escaped_byte b) (escaped text) (unbroken_byte b parts.0) (unbroken_escaped text parts.1)

unbroken_quoted : (text : List ℕ) → list_all is_text_byte text ≡ true → Unbroken (quoted text)
unbroken_quoted text all =
    let quote : Unbroken (34 ∷ []) = unbroken_one 34 [] (λ same. omega (arith, same)) (All-nil (λ (x : ℕ). x ≢ 10)) in
    unbroken_one 34 (escaped text ++ 34 ∷ []) (λ same. omega (arith, same))
    (All-append (λ (x : ℕ). x ≢ 10) (escaped text) (34 ∷ []) (unbroken_escaped text all) quote)

pub unbroken_value : (v : Value) → IsValue v → Unbroken (value_part v).text
unbroken_value (values.Label e) is = unbroken_endpoint e is
unbroken_value (values.U32 n) is = unbroken_decimal n (omega (arith, is))
unbroken_value (values.Str t) is = unbroken_quoted t is.printable
unbroken_value (values.Mem b) is = unbroken_run is_hex_byte refl (encode_lower b) (hex_run b is.each)

-- ---- part by part

pub ends_then : (p : Part) (parts : List Part) → Unbroken p.text → EndsLine (texts parts) → EndsLine (texts (p ∷ parts))
ends_then p parts unbroken e =
    record {
      front = p.text ++ e.front;
      parts = ap (λ (x : List ℕ). p.text ++ x) e.parts ∙ sym (append_assoc p.text e.front (10 ∷ []));
      none = All-append (λ (b : ℕ). b ≢ 10) p.text e.front unbroken e.none;
    }

pub ends_after_byte : (b : ℕ) (parts : List Part) → b ≢ 10 → EndsLine (texts parts) → EndsLine (texts (byte b ∷ parts))
ends_after_byte b parts other e = ends_then (byte b) parts (All-cons (λ (x : ℕ). x ≢ 10) b [] other (All-nil (λ (x : ℕ). x ≢ 10))) e

pub ends_after_space : (parts : List Part) → EndsLine (texts parts) → EndsLine (texts (space ∷ parts))
ends_after_space parts e = ends_after_byte 32 parts (λ same. omega (arith, same)) e

pub newline_ends : EndsLine (texts (newline ∷ []))
newline_ends = record { front = []; parts = refl; none = All-nil (λ (x : ℕ). x ≢ 10) }

body_ends : (b : Body) → IsBody b → EndsLine (texts (body_parts b))
body_ends (Put v) is =
    ends_after_byte 61 (space ∷ value_part v ∷ newline ∷ []) (λ same. omega (arith, same))
    (ends_after_space (value_part v ∷ newline ∷ [])
    (ends_then (value_part v) (newline ∷ []) (unbroken_value v is) newline_ends))
body_ends Gone is = ends_after_byte 45 (newline ∷ []) (λ same. omega (arith, same)) newline_ends

pub line_ends : (c : ChangeRecord) → IsChange c → EndsLine (spelling c)
line_ends c is =
    let from_seq : List Part = part Number (decimal c.version.seq) ∷ space ∷ body_parts c.body in
    let from_epoch : List Part = part Number (decimal c.version.epoch) ∷ byte 46 ∷ from_seq in
    let from_owner : List Part = part Name c.owner ∷ space ∷ from_epoch in
    let from_kind : List Part = part Word (kind_word c.key.kind) ∷ space ∷ from_owner in
    ends_then (part Name c.key.name) (space ∷ from_kind) (unbroken_name c.key.name is.name.allowed)
    (ends_after_space from_kind
    (ends_then (part Word (kind_word c.key.kind)) (space ∷ from_owner)
    (unbroken_run is_ascii_alphanumeric refl (kind_word c.key.kind) (word_is_word c.key.kind))
    (ends_after_space from_owner
    (ends_then (part Name c.owner) (space ∷ from_epoch) (unbroken_name c.owner is.owner.allowed)
    (ends_after_space from_epoch
    (ends_then (part Number (decimal c.version.epoch)) (byte 46 ∷ from_seq) (unbroken_decimal c.version.epoch (omega (arith, is.epoch)))
    (ends_after_byte 46 from_seq (λ same. omega (arith, same))
    (ends_then (part Number (decimal c.version.seq)) (space ∷ body_parts c.body) (unbroken_decimal c.version.seq (omega (arith, is.seq)))
    (ends_after_space (body_parts c.body) (body_ends c.body is.body))))))))))
