-- The whole line: what is spelled is there part by part, so where there is no line there is a fault.
use Rattle.std.proofs.Common.{◌≡◌, ℕ, zero, suc, ◌≤◌, List, [], ◌∷◌, ◌++◌, length, refl, sym, ap, subst, ◌∙◌, append_assoc, arith}
use Rattle.std.specs.Fmt.{decimal}
use Rattle.std.proofs.lemmas.List.{length-append}
use Rattle.ds_names.specs.Name.{is_name_byte}
use Rattle.ds_names.specs.Run.{Ends}
use Rattle.ds_entry.specs.declared.body.Value.{Value}
use Rattle.ds_entry.specs.declared.body.Value.TheVariants as values
use Rattle.ds_entry.specs.declared.body.Body.{Body}
use Rattle.ds_entry.specs.declared.body.Body.TheVariants.{Put, Gone}
use Rattle.ds_entry.specs.Change.{ChangeRecord, IsChange}
use Rattle.ds_line.specs.Part.{Name, Word, Number, run_of, Part, part, byte, texts}
use Rattle.ds_line.specs.Spelling.{space, newline, kind_word, value_part, body_parts, change_parts, spelling}
use Rattle.ds_line.specs.FaultPlace.{Stand, HasNoLine, ItemLineTakesMemory}
use Rattle.ds_line.specs.Reading.{ChangeStops, Completes, CompletesInRoom}
use Rattle.ds_line.proofs.PartLemmas.{byte_ends}

pub stand_length : (count : ℕ) (parts : List Part) (bytes rest : List ℕ) → Stand count parts bytes rest → length rest ≤ length bytes
stand_length zero parts bytes rest h = omega (arith, ap length h)
stand_length (suc count) [] bytes rest h = absurd h
stand_length (suc count) (p ∷ parts) bytes rest h =
    omega (arith, stand_length count parts h.0 rest h.2, ap length h.1.parts, length-append p.text h.0)

-- what can't be read is no longer than the bytes
pub rest_fits : (bytes rest : List ℕ) → ChangeStops [] bytes rest → length rest ≤ length bytes
rest_fits bytes rest s = stand_length s.count s.further bytes rest s.front

-- ---- what is spelled is there

-- The spelling of the parts, and the rest after it.
abbrev pub spelled : List Part → List ℕ → List ℕ
spelled parts rest = texts parts ++ rest

-- All parts are where they are spelled.
abbrev pub AllStand : List Part → List ℕ → Type 0
AllStand parts rest = Stand (length parts) parts (spelled parts rest) rest

pub part_stands : (p : Part) (parts : List Part) (rest : List ℕ) → Ends (run_of p.class) (spelled parts rest) → AllStand parts rest →
    AllStand (p ∷ parts) rest
part_stands p parts rest ends h = (spelled parts rest, record { parts = append_assoc p.text (texts parts) rest; ends = ends }, h)

pub byte_stands : (b : ℕ) (parts : List Part) (rest : List ℕ) → AllStand parts rest → AllStand (byte b ∷ parts) rest
byte_stands b parts rest h = part_stands (byte b) parts rest (byte_ends (spelled parts rest)) h

name_ends : (bytes : List ℕ) → Ends (run_of Name) (32 ∷ bytes)
unfolding is_name_byte
name_ends bytes = refl

pub name_stands : (n : List ℕ) (parts : List Part) (rest : List ℕ) → AllStand (space ∷ parts) rest →
    AllStand (part Name n ∷ space ∷ parts) rest
name_stands n parts rest h = part_stands (part Name n) (space ∷ parts) rest (name_ends (spelled parts rest)) h

-- a value's part ends before a newline
value_ends : (v : Value) (bytes : List ℕ) → Ends (run_of (value_part v).class) (10 ∷ bytes)
value_ends (values.Label e) bytes = refl
value_ends (values.U32 n) bytes = refl
value_ends (values.Str t) bytes = refl
value_ends (values.Mem b) bytes = refl

pub body_stands : (b : Body) (rest : List ℕ) → AllStand (body_parts b) rest
body_stands (Put v) rest =
    byte_stands 61 (space ∷ value_part v ∷ newline ∷ []) rest
    (byte_stands 32 (value_part v ∷ newline ∷ []) rest
    (part_stands (value_part v) (newline ∷ []) rest (value_ends v rest)
    (byte_stands 10 [] rest refl)))
body_stands Gone rest = byte_stands 45 (newline ∷ []) rest (byte_stands 10 [] rest refl)

abbrev from_seq_space : ChangeRecord → List Part
from_seq_space c = space ∷ body_parts c.body

abbrev from_dot : ChangeRecord → List Part
from_dot c = byte 46 ∷ part Number (decimal c.version.seq) ∷ from_seq_space c

abbrev from_epoch : ChangeRecord → List Part
from_epoch c = part Number (decimal c.version.epoch) ∷ from_dot c

abbrev from_owner : ChangeRecord → List Part
from_owner c = part Name c.owner ∷ space ∷ from_epoch c

pub change_stands : (c : ChangeRecord) (rest : List ℕ) → AllStand (change_parts c) rest
change_stands c rest =
    name_stands c.key.name (part Word (kind_word c.key.kind) ∷ space ∷ from_owner c) rest
    (byte_stands 32 (part Word (kind_word c.key.kind) ∷ space ∷ from_owner c) rest
    (part_stands (part Word (kind_word c.key.kind)) (space ∷ from_owner c) rest refl
    (byte_stands 32 (from_owner c) rest
    (name_stands c.owner (from_epoch c) rest
    (byte_stands 32 (from_epoch c) rest
    (part_stands (part Number (decimal c.version.epoch)) (from_dot c) rest refl
    (byte_stands 46 (part Number (decimal c.version.seq) ∷ from_seq_space c) rest
    (part_stands (part Number (decimal c.version.seq)) (from_seq_space c) rest refl
    (byte_stands 32 (body_parts c.body) rest (body_stands c.body rest))))))))))

-- A line at the front is there part by part.
pub line_stands : (c : ChangeRecord) (bytes rest : List ℕ) → bytes ≡ spelling c ++ rest →
    Stand (length (change_parts c)) (change_parts c) bytes rest
line_stands c bytes rest eq = subst (λ (x : List ℕ). Stand (length (change_parts c)) (change_parts c) x rest) (sym eq)
    (change_stands c rest)

pub no_line : (bytes rest : List ℕ) → ChangeStops [] bytes rest → HasNoLine bytes
no_line bytes rest s = λ c after line eq. s.none c (change_parts c) after line refl (line_stands c bytes after eq)

-- the change that is read has its line at the front
pub line_is : (c : ChangeRecord) (bytes rest : List ℕ) → Completes [] c bytes rest → IsChange c × (bytes ≡ spelling c ++ rest)
line_is c bytes rest k = (k.change, k.text ∙ ap (λ (ps : List Part). spelled ps rest) (sym k.split))

-- So has the change for whose value memory ran out.
pub no_room : (bytes : List ℕ) → CompletesInRoom [] bytes → ItemLineTakesMemory bytes
no_room bytes k =
    let line = line_is k.put bytes k.rest k.completes in
    record { change = k.put; rest = k.rest; line = line.0; value = k.value; front = line.1 }
