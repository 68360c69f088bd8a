-- The pieces of lines for RS and driver tables, except devices: each is missing, or it is read.
use Rattle.std.specs.Prelude.{◌==◌, if◌then◌else◌}
use Rattle.std.proofs.Common.{◌≡◌, ◌≢◌, ℕ, zero, suc, ◌+◌, ◌-◌, ◌≤◌, true, List, [], ◌∷◌, ◌++◌, length, get_or, take, drop, refl, sym, ap}
use Rattle.std.proofs.Common.{subst, ◌∙◌, arith, append_assoc, take-append-drop, length-drop, add-one}
use Rattle.std.specs.Char.{is_ascii_digit, is_ascii_alphanumeric}
use Rattle.std.specs.Fmt.{decimal}
use Rattle.std.specs.List.{list_all}
use Rattle.std.proofs.lemmas.Fmt.{decimal_injective}
use Rattle.std.proofs.lemmas.List.{take_all}
use Rattle.std.proofs.lemmas.List.Elements.{All-head, All-tail}
use Rattle.ds_names.specs.Run.{Begins}
use Rattle.driver_tables.specs.declared.file_table.FileClass.{FileClass}
use Rattle.driver_tables.specs.declared.file_table.FileClass.TheVariants.{Block, Character}
use Rattle.ds_line.specs.Part.{Part, part, Word}
use Rattle.ds_line.specs.Spelling.{newline}
use Rattle.ds_line.specs.FaultPlace.{Stand}
use Rattle.ds_line.specs.Piece.{Piece, Found, Breaks, StopsIn}
use Rattle.ds_line.specs.declared.part_fault.PartFault.{PartFault}
use Rattle.ds_line.specs.declared.part_fault.PartFault.TheVariants.{BadPart}
use Rattle.ds_line.proofs.OpeningLemmas.{text_at}
use Rattle.ds_line.proofs.PartLemmas.{part_one, byte_begins}
use Rattle.ds_line.proofs.PieceLemmas.{Fixed, One, one_by, after_byte, byte_found, byte_stops, stops_from}
use Rattle.line_io.specs.Lines.{IsUnbroken, BreaksAt}
use Rattle.script_commands.specs.Service.{class_word, request_word, server_word, text_parts}
use Rattle.script_commands.specs.ServicePieces.{a_class, a_request, a_server, a_text, a_unit}
use Rattle.script_commands.specs.declared.service.Request.{Request}
use Rattle.script_commands.specs.declared.service.Request.TheVariants.{Up, Down, Refresh, Restart}
use Rattle.script_commands.specs.declared.service.Server.{Server}
use Rattle.script_commands.specs.declared.service.Server.TheVariants.{File, Net}
use Rattle.script_commands.proofs.OneLemmas.{one_byte}
use Rattle.script_commands.proofs.PieceLemmas.{one_part, no_part, number_part}

-- ---- the rest of a line

-- what follows the space
abbrev pub text_rest : Piece
text_rest = record { Of = List ℕ; Can = IsUnbroken; parts = λ (text : List ℕ). text_parts text ++ newline ∷ [] }

text_stands : (t bytes r : List ℕ) → bytes ≡ t ++ 10 ∷ r → Stand (length (text_rest.parts t)) (text_rest.parts t) bytes r
text_stands [] bytes r is = (r, byte_begins 10 bytes r is, refl)
text_stands (b ∷ t) bytes r is = (t ++ 10 ∷ r, byte_begins b bytes (t ++ 10 ∷ r) is, text_stands t (t ++ 10 ∷ r) r refl)

text_spelled : (t bytes r : List ℕ) → Stand (length (text_rest.parts t)) (text_rest.parts t) bytes r → bytes ≡ t ++ 10 ∷ r
text_spelled [] bytes r h = h.1.parts ∙ ap (λ (t : List ℕ). 10 ∷ t) h.2
text_spelled (b ∷ t) bytes r h = h.1.parts ∙ ap (λ (t : List ℕ). b ∷ t) (text_spelled t h.0 r h.2)

-- the first newline separates a line from the rest in one way only
first_newline : (t u r s : List ℕ) → IsUnbroken t → IsUnbroken u → t ++ 10 ∷ r ≡ u ++ 10 ∷ s → (u ≡ t) × (s ≡ r)
first_newline [] [] r s is_t is_u same = (refl, ap (drop 1) (sym same))
first_newline [] (c ∷ u) r s is_t is_u same = absurd (All-head (λ (b : ℕ). b ≢ 10) c u is_u (ap (λ (l : List ℕ). get_or l 0 0) (sym same)))
first_newline (b ∷ t) [] r s is_t is_u same = absurd (All-head (λ (b : ℕ). b ≢ 10) b t is_t (ap (λ (l : List ℕ). get_or l 0 0) same))
first_newline (b ∷ t) (c ∷ u) r s is_t is_u same =
    let first : c ≡ b = ap (λ (l : List ℕ). get_or l 0 0) (sym same) in
    let more = first_newline t u r s (All-tail (λ (b : ℕ). b ≢ 10) b t is_t) (All-tail (λ (b : ℕ). b ≢ 10) c u is_u) (ap (drop 1) same) in
    (ap (λ (x : ℕ). x ∷ u) first ∙ ap (λ (l : List ℕ). b ∷ l) more.0, more.1)

texts_one : One text_rest
texts_one t u bytes r s fa fb = first_newline t u r s fa.can fb.can
    (sym (text_spelled t bytes r fa.front) ∙ text_spelled u bytes s fb.front)

pub text_one : One a_text
text_one = one_byte 32 text_rest texts_one

-- no more bytes of a text are there than there are bytes
stand_fits : (k : ℕ) (t bytes after : List ℕ) → Stand k (text_parts t ++ newline ∷ []) bytes after → k ≤ length bytes
stand_fits zero t bytes after h = omega arith
stand_fits (suc zero) [] bytes after h = omega (arith, ap length h.1.parts)
stand_fits (suc (suc k)) [] bytes after h = absurd h.2
stand_fits (suc k) (b ∷ t) bytes after h = omega (arith, ap length h.1.parts, stand_fits k t h.0 after h.2)

whole_stands : (r : List ℕ) → Stand (length r) (text_parts r ++ newline ∷ []) r []
whole_stands [] = refl
whole_stands (b ∷ r) = (r, byte_begins b (b ∷ r) r refl, whole_stands r)

newline_within : (t after : List ℕ) → ¬ IsUnbroken (t ++ 10 ∷ after)
newline_within [] after is = All-head (λ (b : ℕ). b ≢ 10) 10 after is refl
newline_within (b ∷ t) after is = newline_within t after (All-tail (λ (b : ℕ). b ≢ 10) b (t ++ 10 ∷ after) is)

text_breaks : (r : List ℕ) → IsUnbroken r → Breaks text_rest r []
text_breaks r is =
    record {
      count = length r;
      thing = r;
      can = is;
      front = whole_stands r;
      most = λ t after can h. let fits = stand_fits (suc (length r)) t r after h in omega (arith, fits);
      none = λ t after can h. newline_within t after (subst IsUnbroken (text_spelled t r after h) is);
    }

-- no newline follows the space
pub no_newline : (stop : PartFault) (bytes r : List ℕ) → bytes ≡ 32 ∷ r → stop ≡ BadPart 0 → IsUnbroken r → StopsIn a_text stop bytes
no_newline stop bytes r is at unbroken = byte_stops 32 text_rest stop bytes r is
    (stops_from text_rest stop r [] at (text_breaks r unbroken))

-- the first newline comes after n bytes
pub text_found : (bytes r : List ℕ) (n : ℕ) → bytes ≡ 32 ∷ r → BreaksAt r n →
    Found a_text (take n r) bytes (take (length r - (n + 1)) (drop (n + 1) r))
text_found bytes r n is b =
    let spread : r ≡ take n r ++ 10 ∷ drop (suc n) r =
    sym (take-append-drop (suc n) r) ∙ ap (λ (t : List ℕ). t ++ drop (suc n) r) b.parts ∙
    append_assoc (take n r) (10 ∷ []) (drop (suc n) r) in
    let all : take (length r - suc n) (drop (suc n) r) ≡ drop (suc n) r =
    take_all (length r - suc n) (drop (suc n) r) (omega (arith, length-drop (suc n) r)) in
    rw (add-one, all) (byte_found 32 text_rest (take n r) bytes r (drop (suc n) r) is
    (record { can = b.line; front = text_stands (take n r) r (drop (suc n) r) spread }))

-- ---- words

-- one of some words
abbrev pub word_part : (T : Type 0) → (T → List ℕ) → T → Part
word_part T word x = part Word (word x)

abbrev pub a_word : (T : Type 0) → (T → List ℕ) → Piece
a_word T word = one_part T (λ _. Unit {0}) (word_part T word)

-- another word is there
pub no_word : (T : Type 0) (word_of : T → List ℕ) (some : T) (stop : PartFault) (bytes r word rest : List ℕ) →
    ((x : T) → list_all is_ascii_alphanumeric (word_of x) ≡ true) → bytes ≡ 32 ∷ r → stop ≡ BadPart (length r)
    → list_all is_ascii_alphanumeric word ≡ true → Begins is_ascii_alphanumeric r word rest → ((x : T) → word ≢ word_of x) →
    StopsIn (after_byte 32 (a_word T word_of)) stop bytes
no_word T word_of some stop bytes r word rest are is at all begins other =
    no_part 32 T (λ _. Unit {0}) (word_part T word_of) some stop bytes r tt is at
    (λ x after can there. other x (part_one Word r word (word_of x) rest after all (are x) begins there).0)

words_one : (T : Type 0) (word_of : T → List ℕ) → ((x : T) → list_all is_ascii_alphanumeric (word_of x) ≡ true) →
    ((a b : T) → word_of a ≡ word_of b → a ≡ b) → One (after_byte 32 (a_word T word_of))
words_one T word_of are same =
    one_by (after_byte 32 (a_word T word_of)) (λ a b is_a is_b. (refl, λ _. (refl, λ _. tt))) (λ a is. (refl, (are a, tt)))
    (λ a b is_a is_b parts. same a b (ap (text_at 1) parts))

-- ---- requests

pub request_is_word : (request : Request) → list_all is_ascii_alphanumeric (request_word request) ≡ true
request_is_word Up = refl
request_is_word Down = refl
request_is_word Refresh = refl
request_is_word Restart = refl

-- the request of a word
abbrev request_at : List ℕ → Request
request_at word = if length word == 2 then Up else
    (if length word == 4 then Down else (if get_or word 2 0 == 102 then Refresh else Restart))

request_is : (request : Request) → request_at (request_word request) ≡ request
request_is Up = refl
request_is Down = refl
request_is Refresh = refl
request_is Restart = refl

pub request_one : One a_request
request_one = words_one Request request_word request_is_word (λ a b same. sym (request_is a) ∙ ap request_at same ∙ request_is b)

-- ---- servers

pub server_is_word : (server : Server) → list_all is_ascii_alphanumeric (server_word server) ≡ true
server_is_word File = refl
server_is_word Net = refl

abbrev server_at : List ℕ → Server
server_at word = if length word == 4 then File else Net

server_is : (server : Server) → server_at (server_word server) ≡ server
server_is File = refl
server_is Net = refl

pub server_fixed : Fixed a_server 2
server_fixed server = refl

pub server_one : One a_server
server_one = words_one Server server_word server_is_word (λ a b same. sym (server_is a) ∙ ap server_at same ∙ server_is b)

-- ---- classes of devices

pub class_is_word : (class : FileClass) → list_all is_ascii_alphanumeric (class_word class) ≡ true
class_is_word Block = refl
class_is_word Character = refl

abbrev class_at : List ℕ → FileClass
class_at word = if length word == 5 then Block else Character

class_is : (class : FileClass) → class_at (class_word class) ≡ class
class_is Block = refl
class_is Character = refl

pub class_one : One a_class
class_one = words_one FileClass class_word class_is_word (λ a b same. sym (class_is a) ∙ ap class_at same ∙ class_is b)

-- ---- major numbers and ports

pub no_unit : (stop : PartFault) (bytes r : List ℕ) → bytes ≡ 32 ∷ r → stop ≡ BadPart (length r) →
    ((n : ℕ) (rest : List ℕ) → n ≤ 255 → ¬ Begins is_ascii_digit r (decimal n) rest) → StopsIn a_unit stop bytes
no_unit stop bytes r is at none = no_part 32 ℕ (λ n. n ≤ 255) number_part 0 stop bytes r (omega arith) is at none

pub unit_fixed : Fixed a_unit 2
unit_fixed n = refl

pub unit_one : One a_unit
unit_one =
    one_by a_unit (λ a b is_a is_b. (refl, λ _. (refl, λ _. tt))) (λ a is. (refl, ((a, omega (arith, is), refl), tt)))
    (λ a b is_a is_b same. decimal_injective a b (omega (arith, is_a)) (omega (arith, is_b)) (ap (text_at 1) same))
