-- A value and the newline after it: each is missing where it is expected, or both are read.
use Rattle.std.proofs.Common.{◌≡◌, ◌≢◌, ℕ, ◌≤◌, List, [], ◌∷◌, length, refl, sym, ap, subst, ◌∙◌, arith}
use Rattle.std.specs.Char.{is_ascii_digit}
use Rattle.std.specs.Fmt.{decimal}
use Rattle.hex.specs.Hex.{encode_lower}
use Rattle.ds_names.specs.Endpoint.{EndpointRecord, IsEndpoint, endpoint_text}
use Rattle.ds_names.specs.Run.{Begins}
use Rattle.ds_names.specs.Kind.{kind_place}
use Rattle.ds_names.specs.declared.kind.Kind.{Kind}
use Rattle.ds_names.specs.declared.kind.Kind.TheVariants.{Label, U32, Str, Mem}
use Rattle.ds_entry.specs.Value.{IsText as IsPrintable, IsBlob}
use Rattle.ds_entry.specs.ValueFault.{IsTextFault, IsBlobFault}
use Rattle.ds_entry.specs.declared.blob.BlobFault.{BlobFault}
use Rattle.ds_entry.specs.declared.blob.BlobFault.TheVariants as blobs
use Rattle.ds_entry.specs.declared.body.Value.{Value}
use Rattle.ds_entry.specs.declared.body.Value.TheVariants as values
use Rattle.ds_entry.specs.declared.text.TextFault.{TextFault}
use Rattle.ds_entry.specs.declared.text.TextFault.TheVariants as texts
use Rattle.ds_line.specs.Part.{Class, Quoted, Hex, run_of}
use Rattle.ds_line.specs.Spelling.{newline, quoted, value_part}
use Rattle.ds_line.specs.Piece.{Found, Breaks, IsValueOf, last_value, StopsValue}
use Rattle.ds_line.specs.declared.part_fault.PartFault.{PartFault}
use Rattle.ds_line.specs.declared.part_fault.PartFault.TheVariants.{BadPart}
use Rattle.ds_line.proofs.PartLemmas.{IsText, part_one, byte_begins}
use Rattle.ds_line.proofs.LabelLemmas.{some_value, some_kind, some_is}
use Rattle.ds_line.proofs.BodyLemmas.{class_one, value_text}
use Rattle.ds_line.proofs.PieceLemmas.{part_missing}

pub some_value_of : (kind : Kind) → IsValueOf kind (some_value kind)
some_value_of kind = record { valid = some_is kind; of = some_kind kind }

-- No value of the kind is here.
pub value_missing : (kind : Kind) (bytes : List ℕ) →
    ((value : Value) (rest : List ℕ) → IsValueOf kind value →
    ¬ Begins (run_of (value_part value).class) bytes (value_part value).text rest) → Breaks (last_value kind) bytes bytes
value_missing kind bytes none = part_missing (last_value kind) value_part (λ _. newline ∷ []) (some_value kind) bytes (λ _. refl)
    (some_value_of kind) none

-- After two values of the kind at one front, the rest is the same.
after_one : (kind : Kind) (v w : Value) (bytes r s : List ℕ) → IsValueOf kind v → IsValueOf kind w →
    Begins (run_of (value_part v).class) bytes (value_part v).text r →
    Begins (run_of (value_part w).class) bytes (value_part w).text s → s ≡ r
after_one kind v w bytes r s is_v is_w begins_v begins_w =
    let class : (value_part w).class ≡ (value_part v).class = class_one w v (is_w.of ∙ sym is_v.of) in
    (part_one (value_part v).class bytes (value_part w).text (value_part v).text s r
    (subst (λ (c : Class). IsText c (value_part w).text) class (value_text w is_w.valid)) (value_text v is_v.valid)
    (subst (λ (c : Class). Begins (run_of c) bytes (value_part w).text s) class begins_w) begins_v).1

-- A value is read, and the newline after it is missing.
pub end_missing : (kind : Kind) (v : Value) (bytes r : List ℕ) → IsValueOf kind v →
    Begins (run_of (value_part v).class) bytes (value_part v).text r → ((rest : List ℕ) → r ≢ 10 ∷ rest) → Breaks (last_value kind) bytes r
end_missing kind v bytes r is begins none =
    record {
      count = 1;
      thing = v;
      can = is;
      front = (r, begins, refl);
      most = λ w after can h. none h.2.0 (sym (after_one kind v w bytes r h.0 is can begins h.1) ∙ h.2.1.parts);
      none = λ w after can h. none h.2.0 (sym (after_one kind v w bytes r h.0 is can begins h.1) ∙ h.2.1.parts);
    }

-- both are read
pub value_whole : (kind : Kind) (v : Value) (bytes r rest : List ℕ) → IsValueOf kind v →
    Begins (run_of (value_part v).class) bytes (value_part v).text r → r ≡ 10 ∷ rest → Found (last_value kind) v bytes rest
value_whole kind v bytes r rest is begins end = record { can = is; front = (r, begins, (rest, byte_begins 10 r rest end, refl)) }

-- A reader that stops for such a reason.
pub stops_value : (kind : Kind) (stop : PartFault) (bytes rest : List ℕ) → stop ≡ BadPart (length rest) →
    Breaks (last_value kind) bytes rest → StopsValue kind stop bytes
stops_value kind stop bytes rest is s = subst (λ (x : PartFault). StopsValue kind x bytes) (sym is) (rest, s, refl)

-- ---- no value of each kind

pub endpoint_missing : (bytes : List ℕ) → ((e : EndpointRecord) (rest : List ℕ) → IsEndpoint e →
    ¬ Begins is_ascii_digit bytes (endpoint_text e) rest) → Breaks (last_value Label) bytes bytes
endpoint_missing bytes none =
    value_missing Label bytes (λ value rest is begins.
    elim value as (λ v. IsValueOf Label v → Begins (run_of (value_part v).class) bytes (value_part v).text rest → ⊥) [
      | values.Label e ↦ λ k b. none e rest k.valid b
      | values.U32 n ↦ λ k b. omega (arith, ap kind_place k.of)
      | values.Str t ↦ λ k b. omega (arith, ap kind_place k.of)
      | values.Mem m ↦ λ k b. omega (arith, ap kind_place k.of)
    ] is begins)

pub number_missing : (bytes : List ℕ) → ((n : ℕ) (rest : List ℕ) → n ≤ 4294967295 → ¬ Begins is_ascii_digit bytes (decimal n) rest) →
    Breaks (last_value U32) bytes bytes
number_missing bytes none =
    value_missing U32 bytes (λ value rest is begins.
    elim value as (λ v. IsValueOf U32 v → Begins (run_of (value_part v).class) bytes (value_part v).text rest → ⊥) [
      | values.Label e ↦ λ k b. omega (arith, ap kind_place k.of)
      | values.U32 n ↦ λ k b. none n rest (omega (arith, k.valid)) b
      | values.Str t ↦ λ k b. omega (arith, ap kind_place k.of)
      | values.Mem m ↦ λ k b. omega (arith, ap kind_place k.of)
    ] is begins)

pub text_missing : (bytes : List ℕ) → ((text rest : List ℕ) → IsPrintable text → ¬ Begins (run_of Quoted) bytes (quoted text) rest) →
    Breaks (last_value Str) bytes bytes
text_missing bytes none =
    value_missing Str bytes (λ value rest is begins.
    elim value as (λ v. IsValueOf Str v → Begins (run_of (value_part v).class) bytes (value_part v).text rest → ⊥) [
      | values.Label e ↦ λ k b. omega (arith, ap kind_place k.of)
      | values.U32 n ↦ λ k b. omega (arith, ap kind_place k.of)
      | values.Str t ↦ λ k b. none t rest k.valid b
      | values.Mem m ↦ λ k b. omega (arith, ap kind_place k.of)
    ] is begins)

pub blob_missing : (bytes : List ℕ) → ((blob rest : List ℕ) → IsBlob blob → ¬ Begins (run_of Hex) bytes (encode_lower blob) rest) →
    Breaks (last_value Mem) bytes bytes
blob_missing bytes none =
    value_missing Mem bytes (λ value rest is begins.
    elim value as (λ v. IsValueOf Mem v → Begins (run_of (value_part v).class) bytes (value_part v).text rest → ⊥) [
      | values.Label e ↦ λ k b. omega (arith, ap kind_place k.of)
      | values.U32 n ↦ λ k b. omega (arith, ap kind_place k.of)
      | values.Str t ↦ λ k b. omega (arith, ap kind_place k.of)
      | values.Mem m ↦ λ k b. none m rest k.valid b
    ] is begins)

-- A text, or a blob, is refused for want of memory alone.
pub text_lacks_room : (fault : TextFault) (text : List ℕ) → IsPrintable text → IsTextFault fault text → fault ≡ texts.NoRoom
text_lacks_room texts.TooLong text is long = absurd (omega (arith, long, is.limit))
text_lacks_room texts.BadText text is bad = absurd (bad.1 is.printable)
text_lacks_room texts.NoRoom text is room = refl

pub blob_lacks_room : (fault : BlobFault) (blob : List ℕ) → IsBlob blob → IsBlobFault fault blob → fault ≡ blobs.NoRoom
blob_lacks_room blobs.TooLong blob is long = absurd (omega (arith, long, is.limit))
blob_lacks_room blobs.NoRoom blob is room = refl
