-- The pieces of a world's lines: each is missing, or it is read.
use Rattle.std.proofs.Common.{◌≡◌, ◌≢◌, ℕ, ◌<◌, ◌≤◌, ◌^◌, Bool, true, false, ◌||◌, List, [], ◌∷◌, ◌++◌, length, get_or, drop, Option, None}
use Rattle.std.proofs.Common.{Some, IfNone, refl, sym, ap, ◌∙◌, arith, append-nil}
use Rattle.std.specs.Char.{is_ascii_digit, is_ascii_uppercase, is_ascii_lowercase, is_ascii_alphanumeric}
use Rattle.std.specs.Fmt.{decimal}
use Rattle.std.specs.List.{list_all}
use Rattle.std.proofs.lemmas.Bool.{and_parts, false≢true, and_from}
use Rattle.std.proofs.lemmas.Fmt.{decimal_injective, decimal_nonempty, digits_decimal}
use Rattle.ds_names.specs.Run.{Begins}
use Rattle.ds_names.proofs.DecimalLemmas.{own, value_more}
use Rattle.ds_line.specs.Part.{Part, part, run_of, Word, Number}
use Rattle.ds_line.specs.Piece.{Piece, Found, StopsIn}
use Rattle.ds_line.specs.declared.part_fault.PartFault.{PartFault}
use Rattle.ds_line.specs.declared.part_fault.PartFault.TheVariants.{BadPart}
use Rattle.ds_line.proofs.PartLemmas.{part_one}
use Rattle.ds_line.proofs.OpeningLemmas.{text_at}
use Rattle.ds_line.proofs.PieceLemmas.{One, one_by}
use Rattle.ds_replica.specs.declared.event.Side.{Side}
use Rattle.ds_replica.specs.declared.event.Side.TheVariants.{A, B}
use Rattle.ds_replica.specs.declared.event.Holder.{Holder}
use Rattle.ds_replica.specs.declared.event.Holder.TheVariants.{Store, Map}
use Rattle.script_answers.specs.Outcome.{side_word}
use Rattle.script_commands.specs.World.{holder_word, IsHolder, count_part, IsCount}
use Rattle.script_commands.specs.WorldPieces.{a_ring, a_side, a_holder, a_count}
use Rattle.script_commands.proofs.PieceLemmas.{one_part, no_part, number_part}
use Rattle.script_commands.proofs.OneLemmas.{one_byte}

-- ---- the number of items that a journal keeps

pub no_ring : (stop : PartFault) (bytes r : List ℕ) → bytes ≡ 32 ∷ r → stop ≡ BadPart (length r) →
    ((n : ℕ) (rest : List ℕ) → n ≤ 4096 → ¬ Begins is_ascii_digit r (decimal n) rest) → StopsIn a_ring stop bytes
no_ring stop bytes r is at none = no_part 32 ℕ (λ n. (0 < n) × (n ≤ 4096)) number_part 1 stop bytes r (omega arith, omega arith) is at
    (λ n rest can. none n rest can.1)

-- it is 0
pub ring_zero : (stop : PartFault) (bytes r after : List ℕ) (number : ℕ) → bytes ≡ 32 ∷ r → stop ≡ BadPart (length r) →
    Begins is_ascii_digit r (decimal number) after → number ≡ 0 → StopsIn a_ring stop bytes
ring_zero stop bytes r after number is at begins zero =
    no_part 32 ℕ (λ n. (0 < n) × (n ≤ 4096)) number_part 1 stop bytes r (omega arith, omega arith) is at
    (λ n rest can there.
    let one = part_one Number r (decimal n) (decimal number) rest after (n, omega (arith, can.1), refl) (number, omega (arith, zero), refl)
    there begins in
    let same : n ≡ number = decimal_injective n number (omega (arith, can.1)) (omega (arith, zero)) one.0 in
    omega (arith, can.0, same, zero))

pub ring_one : One a_ring
ring_one =
    one_by a_ring (λ a b is_a is_b. (refl, λ _. (refl, λ _. tt))) (λ a is. (refl, ((a, omega (arith, is.1), refl), tt)))
    (λ a b is_a is_b same. decimal_injective a b (omega (arith, is_a.1)) (omega (arith, is_b.1)) (ap (text_at 1) same))

-- ---- sides

pub side_is_word : (side : Side) → list_all is_ascii_alphanumeric (side_word side) ≡ true
side_is_word A = refl
side_is_word B = refl

abbrev pub first_byte : List ℕ → ℕ
first_byte text = get_or text 0 0

sides_one : (a b : Side) → side_word a ≡ side_word b → a ≡ b
sides_one A A same = refl
sides_one A B same = absurd (omega (arith, ap first_byte same))
sides_one B A same = absurd (omega (arith, ap first_byte same))
sides_one B B same = refl

abbrev pub side_part : Side → Part
side_part side = part Word (side_word side)

pub no_side : (stop : PartFault) (bytes r word rest : List ℕ) → bytes ≡ 32 ∷ r → stop ≡ BadPart (length r) →
    list_all is_ascii_alphanumeric word ≡ true → Begins is_ascii_alphanumeric r word rest → ((side : Side) → word ≢ side_word side)
    → StopsIn a_side stop bytes
no_side stop bytes r word rest is at all begins other =
    no_part 32 Side (λ _. Unit {0}) side_part A stop bytes r tt is at
    (λ x after can there. other x (part_one Word r word (side_word x) rest after all (side_is_word x) begins there).0)

pub side_one : One a_side
side_one = one_by a_side (λ a b is_a is_b. (refl, λ _. (refl, λ _. tt))) (λ a is. (refl, (side_is_word a, tt)))
    (λ a b is_a is_b same. sides_one a b (ap (text_at 1) same))

-- ---- the holder of a delivery

one_of_three : (a b c : Bool) → a ≡ true → ((a || b) || c) ≡ true
one_of_three true b c h = refl
one_of_three false b c h = absurd (false≢true h)

digit_is_word : (c : ℕ) → is_ascii_digit c ≡ true → is_ascii_alphanumeric c ≡ true
digit_is_word c h = one_of_three (is_ascii_digit c) (is_ascii_uppercase c) (is_ascii_lowercase c) h

digits_are_words : (t : List ℕ) → list_all is_ascii_digit t ≡ true → list_all is_ascii_alphanumeric t ≡ true
digits_are_words [] h = refl
digits_are_words (c ∷ t) h = let both = and_parts (is_ascii_digit c) (list_all is_ascii_digit t) h in
    and_from (is_ascii_alphanumeric c) (list_all is_ascii_alphanumeric t) (digit_is_word c both.0) (digits_are_words t both.1)

holder_is_word : (holder : Holder) → IsHolder holder → list_all is_ascii_alphanumeric (holder_word holder) ≡ true
holder_is_word (Store side) is = side_is_word side
holder_is_word (Map map) is = digits_are_words (decimal map) (digits_decimal own map is)

side_no_map : (side : Side) (map : ℕ) → side_word side ≢ 109 ∷ decimal map
side_no_map A map same = absurd (omega (arith, ap first_byte same))
side_no_map B map same = absurd (omega (arith, ap first_byte same))

holders_one : (a b : Holder) → IsHolder a → IsHolder b → holder_word a ≡ holder_word b → a ≡ b
holders_one (Store a) (Store b) is_a is_b same = ap Store (sides_one a b same)
holders_one (Store a) (Map b) is_a is_b same = absurd (side_no_map a b same)
holders_one (Map a) (Store b) is_a is_b same = absurd (side_no_map b a (sym same))
holders_one (Map a) (Map b) is_a is_b same = ap Map (decimal_injective a b is_a is_b (ap (drop 1) same))

abbrev pub holder_part : Holder → Part
holder_part holder = part Word (holder_word holder)

pub no_holder : (stop : PartFault) (bytes r word rest : List ℕ) → bytes ≡ 32 ∷ r → stop ≡ BadPart (length r) →
    list_all is_ascii_alphanumeric word ≡ true →
    Begins is_ascii_alphanumeric r word rest → ((holder : Holder) → IsHolder holder → word ≢ holder_word holder)
    → StopsIn a_holder stop bytes
no_holder stop bytes r word rest is at all begins other =
    no_part 32 Holder IsHolder holder_part (Store A) stop bytes r tt is at
    (λ x after can there. other x can (part_one Word r word (holder_word x) rest after all (holder_is_word x can) begins there).0)

pub holder_one : One a_holder
holder_one = one_by a_holder (λ a b is_a is_b. (refl, λ _. (refl, λ _. tt))) (λ a is. (refl, (holder_is_word a is, tt)))
    (λ a b is_a is_b same. holders_one a b is_a is_b (ap (text_at 1) same))

pub if_none : {X P : Type 0} (r : Option X) → P → IfNone r P
if_none None p = p
if_none (Some x) p = tt

-- the word has an `m`, but no number after it
pub no_map_number : (word digits : List ℕ) → word ≡ 109 ∷ digits →
    ((n : ℕ) (rest : List ℕ) → n ≤ 18446744073709551615 → ¬ Begins is_ascii_digit digits (decimal n) rest) → (map : ℕ) → map < 2 ^ 64 →
    word ≢ 109 ∷ decimal map
no_map_number word digits is none map most same =
    none map [] (omega (arith, most)) (record { parts = ap (drop 1) (sym is ∙ same) ∙ sym (append-nil (decimal map)); ends = tt })

-- more comes after the number
pub map_not_all : (word digits rest : List ℕ) (number : ℕ) → word ≡ 109 ∷ digits → Begins is_ascii_digit digits (decimal number) rest →
    number ≤ 18446744073709551615 → rest ≢ [] → (map : ℕ) → map < 2 ^ 64 → word ≢ 109 ∷ decimal map
map_not_all word digits rest number is begins limit more map most same =
    more (part_one Number digits (decimal number) (decimal map) rest [] (number, omega (arith, limit), refl) (map, most, refl) begins
    (record { parts = ap (drop 1) (sym is ∙ same) ∙ sym (append-nil (decimal map)); ends = tt })).1

-- the word names neither a side nor a map
pub names_none : (word : List ℕ) → ((side : Side) → word ≢ side_word side) → ((map : ℕ) → map < 2 ^ 64 → word ≢ 109 ∷ decimal map) →
    (holder : Holder) → IsHolder holder → word ≢ holder_word holder
names_none word no_side no_map (Store side) is same = no_side side same
names_none word no_side no_map (Map map) is same = no_map map is same

-- ---- the number of items to deliver

pub front_first : (t rest r : List ℕ) (b : ℕ) → t ++ rest ≡ b ∷ r → 0 < length t → first_byte t ≡ b
front_first [] rest r b same some = absurd (omega (arith, some))
front_first (c ∷ t) rest r b same some = ap first_byte same

-- no number begins with a byte that isn't a digit
pub no_digit : (bytes r rest : List ℕ) (b n : ℕ) → bytes ≡ b ∷ r → b < 48 → n < 2 ^ 64 → ¬ Begins is_ascii_digit bytes (decimal n) rest
no_digit bytes r rest b n is low most begins =
    let some = decimal_nonempty n most in
    let first = front_first (decimal n) rest r b (sym begins.parts ∙ is) some in
    omega (arith, first, low, (value_more (decimal n) 0 some (digits_decimal own n most)).0)

count_none : (r : List ℕ) → ((rest : List ℕ) → r ≢ 42 ∷ rest) →
    ((n : ℕ) (rest : List ℕ) → n ≤ 4294967295 → ¬ Begins is_ascii_digit r (decimal n) rest) →
    (x : Option ℕ) (rest : List ℕ) → IsCount x → Begins (run_of (count_part x).class) r (count_part x).text rest → ⊥
count_none r star number None rest can begins = star rest begins.parts
count_none r star number (Some n) rest can begins = number n rest (omega (arith, can)) begins

pub no_count : (stop : PartFault) (bytes r : List ℕ) → bytes ≡ 32 ∷ r → stop ≡ BadPart (length r) → ((rest : List ℕ) → r ≢ 42 ∷ rest) →
    ((n : ℕ) (rest : List ℕ) → n ≤ 4294967295 → ¬ Begins is_ascii_digit r (decimal n) rest) → StopsIn a_count stop bytes
no_count stop bytes r is at star number = no_part 32 (Option ℕ) IsCount count_part None stop bytes r tt is at
    (λ x rest can begins. count_none r star number x rest can begins)

abbrev count_rest : Piece
count_rest = one_part (Option ℕ) IsCount count_part

counts_one : (a b : Option ℕ) (bytes r s : List ℕ) → Found count_rest a bytes r → Found count_rest b bytes s → (b ≡ a) × (s ≡ r)
counts_one None None bytes r s fa fb = (refl, sym fb.front.2 ∙ ap (drop 1) (sym fb.front.1.parts ∙ fa.front.1.parts) ∙ fa.front.2)
counts_one None (Some n) bytes r s fa fb =
    absurd (no_digit bytes fa.front.0 fb.front.0 42 n fa.front.1.parts (omega arith) (omega (arith, fb.can)) fb.front.1)
counts_one (Some n) None bytes r s fa fb =
    absurd (no_digit bytes fb.front.0 fa.front.0 42 n fb.front.1.parts (omega arith) (omega (arith, fa.can)) fa.front.1)
counts_one (Some m) (Some n) bytes r s fa fb =
    let one = part_one Number bytes (decimal m) (decimal n) fa.front.0 fb.front.0 (m, omega (arith, fa.can), refl)
    (n, omega (arith, fb.can), refl) fa.front.1 fb.front.1 in
    (ap Some (sym (decimal_injective m n (omega (arith, fa.can)) (omega (arith, fb.can)) one.0)), sym fb.front.2 ∙ sym one.1 ∙ fa.front.2)

pub count_one : One a_count
count_one = one_byte 32 count_rest counts_one
