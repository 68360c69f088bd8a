-- Each piece of a line: it is missing, or it is read.
use Rattle.std.proofs.Common.{◌≡◌, ◌≢◌, ℕ, ◌<◌, ◌≤◌, ◌^◌, Bool, true, false, List, [], ◌∷◌, length, get_or, refl, sym, ap, subst, ◌∙◌}
use Rattle.std.proofs.Common.{arith}
use Rattle.std.specs.Char.{is_ascii_digit, is_ascii_alphanumeric}
use Rattle.std.specs.Fmt.{decimal}
use Rattle.std.specs.List.{list_all}
use Rattle.std.proofs.lemmas.Fmt.{decimal_injective}
use Rattle.ds_names.specs.Name.{is_name_byte, IsName, rs_name}
use Rattle.ds_names.specs.Endpoint.{EndpointRecord, IsEndpoint, endpoint_of, endpoint_text}
use Rattle.ds_names.specs.Run.{Begins}
use Rattle.ds_names.specs.declared.kind.Kind.{Kind}
use Rattle.ds_names.specs.declared.kind.Kind.TheVariants.{U32}
use Rattle.ds_names.proofs.DecimalLemmas.{endpoint_text_one}
use Rattle.ds_line.specs.Part.{Part, part, run_of, Word, Name, Number, Endpoint}
use Rattle.ds_line.specs.Spelling.{kind_word}
use Rattle.ds_line.specs.Piece.{Piece, Found, StopsIn, last_value, StopsValue}
use Rattle.ds_line.specs.declared.part_fault.PartFault.{PartFault}
use Rattle.ds_line.specs.declared.part_fault.PartFault.TheVariants.{BadPart, NoRoom}
use Rattle.ds_line.proofs.LabelLemmas.{rs_is_name, some_value}
use Rattle.ds_line.proofs.PartLemmas.{part_one}
use Rattle.ds_line.proofs.OpeningLemmas.{text_at, word_is_word, word_one, key_is, version_is}
use Rattle.ds_line.proofs.PieceLemmas.{past, Fixed, One, one_by, Views, view_stops, first_stops, then_stops, after_byte, part_missing}
use Rattle.ds_line.proofs.PieceLemmas.{byte_missing, byte_found, byte_stops, stops_from}
use Rattle.script_commands.specs.Pieces.{an_endpoint, an_initial, a_mode, a_name, a_kind, a_key, a_generation, a_seq, a_version, a_number}
use Rattle.script_commands.specs.Pieces.{a_place, a_kinds, a_value, ValueTakesMemory, initial_word, mode_word}
use Rattle.ds_line.proofs.LastValueLemmas.{some_value_of}

-- ---- a byte, followed by one part

-- the piece of one part of the class
abbrev pub one_part : (T : Type 0) → (T → Type 0) → (T → Part) → Piece
one_part T Can of = record { Of = T; Can = Can; parts = λ x. of x ∷ [] }

-- the byte is missing
pub no_byte : (b : ℕ) (p : Piece) (some : p.Of) (stop : PartFault) (bytes : List ℕ) → p.Can some → stop ≡ BadPart (length bytes) →
    ((rest : List ℕ) → bytes ≢ b ∷ rest) → StopsIn (after_byte b p) stop bytes
no_byte b p some stop bytes can at none = stops_from (after_byte b p) stop bytes bytes at (byte_missing b p some bytes can none)

-- the part after the byte is missing
pub no_part : (b : ℕ) (T : Type 0) (Can : T → Type 0) (of : T → Part) (some : T) (stop : PartFault) (bytes r : List ℕ) → Can some →
    bytes ≡ b ∷ r → stop ≡ BadPart (length r) →
    ((x : T) (rest : List ℕ) → Can x → ¬ Begins (run_of (of x).class) r (of x).text rest)
    → StopsIn (after_byte b (one_part T Can of)) stop bytes
no_part b T Can of some stop bytes r can is at none =
    byte_stops b (one_part T Can of) stop bytes r is
    (stops_from (one_part T Can of) stop r r at (part_missing (one_part T Can of) of (λ x. []) some r (λ x. refl) can none))

-- ---- endpoints

abbrev endpoint_part : EndpointRecord → Part
endpoint_part e = part Endpoint (endpoint_text e)

-- what follows the space
abbrev pub endpoint_rest : Piece
endpoint_rest = one_part EndpointRecord IsEndpoint endpoint_part

pub endpoint_is : IsEndpoint (endpoint_of 0 0)
endpoint_is = record { generation = omega arith; slot = omega arith }

pub no_endpoint : (stop : PartFault) (bytes r : List ℕ) → bytes ≡ 32 ∷ r → stop ≡ BadPart (length r) →
    ((e : EndpointRecord) (rest : List ℕ) → IsEndpoint e → ¬ Begins is_ascii_digit r (endpoint_text e) rest) →
    StopsIn an_endpoint stop bytes
no_endpoint stop bytes r is at none = no_part 32 EndpointRecord IsEndpoint endpoint_part (endpoint_of 0 0) stop bytes r endpoint_is is at
    none

pub endpoint_one : One an_endpoint
endpoint_one = one_by an_endpoint (λ a b is_a is_b. (refl, λ _. (refl, λ _. tt))) (λ a is. (refl, ((a, is, refl), tt)))
    (λ a b is_a is_b same. endpoint_text_one a b is_a is_b (ap (text_at 1) same))

-- ---- modes

pub mode_is_word : (overwrite : Bool) → list_all is_ascii_alphanumeric (mode_word overwrite) ≡ true
mode_is_word true = refl
mode_is_word false = refl

pub modes_one : (a b : Bool) → mode_word a ≡ mode_word b → a ≡ b
modes_one true true same = refl
modes_one true false same = absurd (omega (arith, ap length same))
modes_one false true same = absurd (omega (arith, ap length same))
modes_one false false same = refl

abbrev pub mode_part : Bool → Part
mode_part overwrite = part Word (mode_word overwrite)

pub no_mode : (stop : PartFault) (bytes r word rest : List ℕ) → bytes ≡ 32 ∷ r → stop ≡ BadPart (length r) →
    list_all is_ascii_alphanumeric word ≡ true →
    Begins is_ascii_alphanumeric r word rest → ((overwrite : Bool) → word ≢ mode_word overwrite)
    → StopsIn a_mode stop bytes
no_mode stop bytes r word rest is at all begins other =
    no_part 32 Bool (λ _. Unit {0}) mode_part true stop bytes r tt is at
    (λ x after can there. other x (part_one Word r word (mode_word x) rest after all (mode_is_word x) begins there).0)

pub mode_one : One a_mode
mode_one = one_by a_mode (λ a b is_a is_b. (refl, λ _. (refl, λ _. tt))) (λ a is. (refl, (mode_is_word a, tt)))
    (λ a b is_a is_b same. modes_one a b (ap (text_at 1) same))

-- ---- the words `first` and `later`

pub initial_is_word : (initial : Bool) → list_all is_ascii_alphanumeric (initial_word initial) ≡ true
initial_is_word true = refl
initial_is_word false = refl

initials_one : (a b : Bool) → initial_word a ≡ initial_word b → a ≡ b
initials_one true true same = refl
initials_one true false same = absurd (omega (arith, ap (λ (w : List ℕ). get_or w 0 0) same))
initials_one false true same = absurd (omega (arith, ap (λ (w : List ℕ). get_or w 0 0) same))
initials_one false false same = refl

abbrev pub initial_part : Bool → Part
initial_part initial = part Word (initial_word initial)

pub no_initial : (stop : PartFault) (bytes r word rest : List ℕ) → bytes ≡ 32 ∷ r → stop ≡ BadPart (length r) →
    list_all is_ascii_alphanumeric word ≡ true →
    Begins is_ascii_alphanumeric r word rest → ((initial : Bool) → word ≢ initial_word initial)
    → StopsIn an_initial stop bytes
no_initial stop bytes r word rest is at all begins other =
    no_part 32 Bool (λ _. Unit {0}) initial_part true stop bytes r tt is at
    (λ x after can there. other x (part_one Word r word (initial_word x) rest after all (initial_is_word x) begins there).0)

pub initial_one : One an_initial
initial_one = one_by an_initial (λ a b is_a is_b. (refl, λ _. (refl, λ _. tt))) (λ a is. (refl, (initial_is_word a, tt)))
    (λ a b is_a is_b same. initials_one a b (ap (text_at 1) same))

-- ---- names, kinds and keys

abbrev pub name_part : List ℕ → Part
name_part name = part Name name

pub no_name : (stop : PartFault) (bytes r : List ℕ) → bytes ≡ 32 ∷ r → stop ≡ BadPart (length r) →
    ((name rest : List ℕ) → IsName name → ¬ Begins is_name_byte r name rest) → StopsIn a_name stop bytes
no_name stop bytes r is at none = no_part 32 (List ℕ) IsName name_part rs_name stop bytes r rs_is_name is at none

pub name_fixed : Fixed a_name 2
name_fixed name = refl

pub name_one : One a_name
name_one = one_by a_name (λ a b is_a is_b. (refl, λ _. (refl, λ _. tt))) (λ a is. (refl, (is.allowed, tt)))
    (λ a b is_a is_b same. ap (text_at 1) same)

abbrev pub kind_part : Kind → Part
kind_part kind = part Word (kind_word kind)

pub no_kind : (stop : PartFault) (bytes r : List ℕ) → bytes ≡ 32 ∷ r → stop ≡ BadPart (length r) →
    ((kind : Kind) (rest : List ℕ) → ¬ Begins is_ascii_alphanumeric r (kind_word kind) rest) → StopsIn a_kind stop bytes
no_kind stop bytes r is at none = no_part 32 Kind (λ _. Unit {0}) kind_part U32 stop bytes r tt is at (λ kind rest can. none kind rest)

key_view : Views (past a_name (λ _. a_kind)) a_key
key_view = record {
  to = λ x. record { name = x.0; kind = x.1 };
  can = λ x can. can.0;
  parts = λ x can. refl;
  from = λ key can. ((key.name, key.kind), (can, tt), refl);
}

-- a key's name is missing
pub key_name_stops : (stop : PartFault) (bytes : List ℕ) → stop ≢ NoRoom → StopsIn a_name stop bytes → StopsIn a_key stop bytes
key_name_stops stop bytes room s = view_stops (past a_name (λ _. a_kind)) a_key key_view stop bytes
    (first_stops a_name (λ _. a_kind) 2 stop bytes name_fixed (λ name can. (U32, tt)) room s)

-- its kind is missing
pub key_kind_stops : (name : List ℕ) (stop : PartFault) (bytes r : List ℕ) → Found a_name name bytes r → StopsIn a_kind stop r →
    StopsIn a_key stop bytes
key_kind_stops name stop bytes r found s =
    view_stops (past a_name (λ _. a_kind)) a_key key_view stop bytes
    (then_stops a_name (λ _. a_kind) 2 stop name bytes r name_fixed name_one found s)

pub key_one : One a_key
key_one =
    one_by a_key (λ a b is_a is_b. (refl, λ _. (refl, λ _. (refl, λ _. (refl, λ _. tt)))))
    (λ a is. (refl, (is.allowed, (refl, (word_is_word a.kind, tt)))))
    (λ a b is_a is_b same. key_is a b (ap (text_at 1) same) (word_one a.kind b.kind (ap (text_at 3) same)))

-- ---- generations, sequence numbers and versions

abbrev pub number_part : ℕ → Part
number_part n = part Number (decimal n)

pub no_generation : (stop : PartFault) (bytes r : List ℕ) → bytes ≡ 32 ∷ r → stop ≡ BadPart (length r) →
    ((n : ℕ) (rest : List ℕ) → n ≤ 2097151 → ¬ Begins is_ascii_digit r (decimal n) rest) → StopsIn a_generation stop bytes
no_generation stop bytes r is at none = no_part 32 ℕ (λ n. n ≤ 2097151) number_part 0 stop bytes r (omega arith) is at none

pub no_seq : (stop : PartFault) (bytes r : List ℕ) → bytes ≡ 46 ∷ r → stop ≡ BadPart (length r) →
    ((n : ℕ) (rest : List ℕ) → n ≤ 4294967295 → ¬ Begins is_ascii_digit r (decimal n) rest) → StopsIn a_seq stop bytes
no_seq stop bytes r is at none = no_part 46 ℕ (λ n. n < 2 ^ 32) number_part 0 stop bytes r (omega arith) is at
    (λ n rest can. none n rest (omega (arith, can)))

pub generation_fixed : Fixed a_generation 2
generation_fixed n = refl

pub generation_one : One a_generation
generation_one =
    one_by a_generation (λ a b is_a is_b. (refl, λ _. (refl, λ _. tt))) (λ a is. (refl, ((a, omega (arith, is), refl), tt)))
    (λ a b is_a is_b same. decimal_injective a b (omega (arith, is_a)) (omega (arith, is_b)) (ap (text_at 1) same))

pub no_number : (stop : PartFault) (bytes r : List ℕ) → bytes ≡ 32 ∷ r → stop ≡ BadPart (length r) →
    ((n : ℕ) (rest : List ℕ) → n ≤ 4294967295 → ¬ Begins is_ascii_digit r (decimal n) rest) → StopsIn a_number stop bytes
no_number stop bytes r is at none = no_part 32 ℕ (λ n. n < 2 ^ 32) number_part 0 stop bytes r (omega arith) is at
    (λ n rest can. none n rest (omega (arith, can)))

pub number_one : One a_number
number_one =
    one_by a_number (λ a b is_a is_b. (refl, λ _. (refl, λ _. tt))) (λ a is. (refl, ((a, omega (arith, is), refl), tt)))
    (λ a b is_a is_b same. decimal_injective a b (omega (arith, is_a)) (omega (arith, is_b)) (ap (text_at 1) same))

pub no_place : (stop : PartFault) (bytes r : List ℕ) → bytes ≡ 32 ∷ r → stop ≡ BadPart (length r) →
    ((n : ℕ) (rest : List ℕ) → n ≤ 18446744073709551615 → ¬ Begins is_ascii_digit r (decimal n) rest) → StopsIn a_place stop bytes
no_place stop bytes r is at none = no_part 32 ℕ (λ n. n < 2 ^ 64) number_part 0 stop bytes r (omega arith) is at
    (λ n rest can. none n rest (omega (arith, can)))

pub place_one : One a_place
place_one =
    one_by a_place (λ a b is_a is_b. (refl, λ _. (refl, λ _. tt))) (λ a is. (refl, ((a, is, refl), tt)))
    (λ a b is_a is_b same. decimal_injective a b is_a is_b (ap (text_at 1) same))

pub no_kinds : (stop : PartFault) (bytes r : List ℕ) → bytes ≡ 32 ∷ r → stop ≡ BadPart (length r) →
    ((n : ℕ) (rest : List ℕ) → n ≤ 15 → ¬ Begins is_ascii_digit r (decimal n) rest) → StopsIn a_kinds stop bytes
no_kinds stop bytes r is at none = no_part 32 ℕ (λ n. (0 < n) × (n ≤ 15)) number_part 1 stop bytes r (omega arith, omega arith) is at
    (λ n rest can. none n rest can.1)

-- the number names no kind
pub kinds_zero : (stop : PartFault) (bytes r after : List ℕ) (number : ℕ) → bytes ≡ 32 ∷ r → stop ≡ BadPart (length r) →
    Begins is_ascii_digit r (decimal number) after →
    number ≤ 15 → ¬ ((0 < number) × (number ≤ 15)) → StopsIn a_kinds stop bytes
kinds_zero stop bytes r after number is at begins most zero =
    no_part 32 ℕ (λ n. (0 < n) × (n ≤ 15)) number_part 1 stop bytes r (omega arith, omega arith) is at
    (λ n rest can there.
    let one = part_one Number r (decimal n) (decimal number) rest after (n, omega (arith, can.1), refl) (number, omega (arith, most), refl)
    there begins in
    let same : n ≡ number = decimal_injective n number (omega (arith, can.1)) (omega (arith, most)) one.0 in
    zero (subst (λ (k : ℕ). (0 < k) × (k ≤ 15)) same can))

pub kinds_one : One a_kinds
kinds_one =
    one_by a_kinds (λ a b is_a is_b. (refl, λ _. (refl, λ _. tt))) (λ a is. (refl, ((a, omega (arith, is.1), refl), tt)))
    (λ a b is_a is_b same. decimal_injective a b (omega (arith, is_a.1)) (omega (arith, is_b.1)) (ap (text_at 1) same))

version_view : Views (past a_generation (λ _. a_seq)) a_version
version_view = record {
  to = λ x. record { epoch = x.0; seq = x.1 };
  can = λ x can. record { epoch = can.0; seq = can.1 };
  parts = λ x can. refl;
  from = λ version can. ((version.epoch, version.seq), (can.epoch, can.seq), refl);
}

-- a version's epoch is missing
pub version_epoch_stops : (stop : PartFault) (bytes : List ℕ) → stop ≢ NoRoom → StopsIn a_generation stop bytes →
    StopsIn a_version stop bytes
version_epoch_stops stop bytes room s =
    view_stops (past a_generation (λ _. a_seq)) a_version version_view stop bytes
    (first_stops a_generation (λ _. a_seq) 2 stop bytes generation_fixed (λ n can. (0, omega arith)) room s)

-- its sequence number is missing
pub version_seq_stops : (epoch : ℕ) (stop : PartFault) (bytes r : List ℕ) → Found a_generation epoch bytes r → StopsIn a_seq stop r →
    StopsIn a_version stop bytes
version_seq_stops epoch stop bytes r found s =
    view_stops (past a_generation (λ _. a_seq)) a_version version_view stop bytes
    (then_stops a_generation (λ _. a_seq) 2 stop epoch bytes r generation_fixed generation_one found s)

pub version_one : One a_version
version_one =
    one_by a_version (λ a b is_a is_b. (refl, λ _. (refl, λ _. (refl, λ _. (refl, λ _. tt)))))
    (λ a is. (refl, ((a.epoch, omega (arith, is.epoch), refl), (refl, ((a.seq, omega (arith, is.seq), refl), tt)))))
    (λ a b is_a is_b same. version_is a b (decimal_injective a.epoch b.epoch (omega (arith, is_a.epoch)) (omega (arith, is_b.epoch))
    (ap (text_at 1) same))
    (decimal_injective a.seq b.seq (omega (arith, is_a.seq)) (omega (arith, is_b.seq)) (ap (text_at 3) same)))

-- ---- values

pub value_stops : (kind : Kind) (stop : PartFault) (bytes : List ℕ) → StopsValue kind stop bytes → StopsIn (last_value kind) stop bytes
value_stops kind (BadPart left) bytes s = s
value_stops kind NoRoom bytes s = (s.0, s.1, s.2)

-- a bad part isn't out of memory
pub no_want : (stop : PartFault) (left : ℕ) → stop ≡ BadPart left → stop ≢ NoRoom
no_want stop left is room = let same : BadPart left ≡ NoRoom = sym is ∙ room in cc

-- memory runs out for the value
pub value_wants : (kind : Kind) (stop : PartFault) (bytes r1 r2 r3 : List ℕ) → bytes ≡ 32 ∷ r1 → r1 ≡ 61 ∷ r2 → r2 ≡ 32 ∷ r3 →
    StopsValue kind stop r3 → stop ≡ NoRoom → ValueTakesMemory kind bytes
value_wants kind stop bytes r1 r2 r3 is1 is2 is3 s room =
    let k = subst (λ (x : PartFault). StopsValue kind x r3) room s in (
      k.0,
      k.1,
      byte_found 32 (after_byte 61 (after_byte 32 (last_value kind))) k.0 bytes r1 k.1 is1
          (byte_found 61 (after_byte 32 (last_value kind)) k.0 r1 r2 k.1 is2 (byte_found 32 (last_value kind) k.0 r2 r3 k.1 is3 k.2)),
      k.3,
    )

-- the value is missing, or memory runs out for it
pub after_mark : (kind : Kind) (stop : PartFault) (bytes r1 r2 r3 : List ℕ) → bytes ≡ 32 ∷ r1 → r1 ≡ 61 ∷ r2 → r2 ≡ 32 ∷ r3 →
    StopsIn (last_value kind) stop r3 → StopsIn (a_value kind) stop bytes
after_mark kind stop bytes r1 r2 r3 is1 is2 is3 s =
    byte_stops 32 (after_byte 61 (after_byte 32 (last_value kind))) stop bytes r1 is1
    (byte_stops 61 (after_byte 32 (last_value kind)) stop r1 r2 is2 (byte_stops 32 (last_value kind) stop r2 r3 is3 s))

pub no_first_space : (kind : Kind) (stop : PartFault) (bytes : List ℕ) → stop ≡ BadPart (length bytes) →
    ((rest : List ℕ) → bytes ≢ 32 ∷ rest) → StopsIn (a_value kind) stop bytes
no_first_space kind stop bytes at none = no_byte 32 (after_byte 61 (after_byte 32 (last_value kind))) (some_value kind) stop bytes
    (some_value_of kind) at none

pub no_mark : (kind : Kind) (stop : PartFault) (bytes r1 : List ℕ) → bytes ≡ 32 ∷ r1 → stop ≡ BadPart (length r1) →
    ((rest : List ℕ) → r1 ≢ 61 ∷ rest) → StopsIn (a_value kind) stop bytes
no_mark kind stop bytes r1 is1 at none = byte_stops 32 (after_byte 61 (after_byte 32 (last_value kind))) stop bytes r1 is1
    (no_byte 61 (after_byte 32 (last_value kind)) (some_value kind) stop r1 (some_value_of kind) at none)

pub no_second_space : (kind : Kind) (stop : PartFault) (bytes r1 r2 : List ℕ) → bytes ≡ 32 ∷ r1 → r1 ≡ 61 ∷ r2 →
    stop ≡ BadPart (length r2) → ((rest : List ℕ) → r2 ≢ 32 ∷ rest) → StopsIn (a_value kind) stop bytes
no_second_space kind stop bytes r1 r2 is1 is2 at none =
    byte_stops 32 (after_byte 61 (after_byte 32 (last_value kind))) stop bytes r1 is1
    (byte_stops 61 (after_byte 32 (last_value kind)) stop r1 r2 is2
    (no_byte 32 (last_value kind) (some_value kind) stop r2 (some_value_of kind) at none))
