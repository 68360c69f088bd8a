-- The parts of a change from its mark on: each is missing where it is expected, or is read there.
use Rattle.std.proofs.Common.{◌≡◌, ◌≢◌, ℕ, ◌^◌, ◌<◌, ◌≤◌, List, [], ◌∷◌, ◌++◌, length, get_or, drop, Result, Ok, Err, refl, sym, ap, subst}
use Rattle.std.proofs.Common.{◌∙◌, arith}
use Rattle.std.specs.Char.{is_ascii_digit}
use Rattle.ds_names.specs.Endpoint.{EndpointRecord, IsEndpoint, endpoint_text}
use Rattle.ds_names.specs.Run.{Begins}
use Rattle.ds_names.specs.Kind.{kind_place}
use Rattle.ds_names.specs.declared.kind.Kind.{Kind}
use Rattle.ds_names.specs.declared.kind.Kind.TheVariants.{Label, U32, Str, Mem}
use Rattle.ds_names.specs.declared.key.Key.{Key}
use Rattle.ds_names.specs.declared.version.Version.{Version}
use Rattle.ds_entry.specs.declared.body.Value.{Value}
use Rattle.ds_entry.specs.declared.body.Value.TheVariants as values
use Rattle.ds_entry.specs.declared.body.Body.{Body}
use Rattle.ds_entry.specs.declared.body.Body.TheVariants.{Put, Gone}
use Rattle.ds_entry.specs.Change.{ChangeRecord, change_of, kind_of, IsValue, IsChange, IsLabelChange, KeepsRule}
use Rattle.ds_line.specs.Part.{Class, Byte, Number, Endpoint, Quoted, Hex, run_of, Part, byte}
use Rattle.ds_line.specs.Spelling.{space, newline, value_part, body_parts, change_parts}
use Rattle.ds_line.specs.FaultPlace.{Stand}
use Rattle.ds_line.specs.Reading.{HasBody, HasValue, up_to_mark, up_to_value, Completes, ReadsChange}
use Rattle.ds_line.specs.declared.part_fault.PartFault.{PartFault}
use Rattle.ds_line.specs.declared.part_fault.PartFault.TheVariants.{BadPart}
use Rattle.ds_line.proofs.PartLemmas.{IsText, byte_begins}
use Rattle.ds_line.proofs.DigitLemmas.{hex_run}
use Rattle.ds_line.proofs.ReadLemmas.{Begun, Comes, missing, read_on}
use Rattle.ds_line.proofs.LabelLemmas.{label_rule, put_epoch}
use Rattle.ds_line.proofs.OpeningLemmas.{version_known}

-- the first byte of the first part
abbrev pub mark_of : List Part → ℕ
mark_of parts = get_or (get_or parts 0 (byte 0)).text 0 0

-- ---- the mark

body_begun : (b : Body) → Begun Byte (body_parts b)
body_begun (Put v) = (refl, refl)
body_begun Gone = (refl, refl)

mark_comes : (key : Key) (owner : List ℕ) (version : Version) → Comes (up_to_mark key owner version) Byte
mark_comes key owner version c more is eq = subst (Begun Byte) (ap (drop 10) eq) (body_begun c.body)

no_mark : (key : Key) (owner : List ℕ) (version : Version) (b : Body) (bytes after : List ℕ) → IsChange (change_of key owner version b) →
    Stand 1 (body_parts b) bytes after
    → (HasValue key owner version → (rest : List ℕ) → bytes ≢ 61 ∷ rest) →
    (IsChange (change_of key owner version Gone) → (rest : List ℕ) → bytes ≢ 45 ∷ rest) → ⊥
no_mark key owner version (Put v) bytes after is h put gone = put (v, is) h.0 h.1.parts
no_mark key owner version Gone bytes after is h put gone = gone is h.0 h.1.parts

pub mark_missing : (key : Key) (owner : List ℕ) (version : Version) (bytes : List ℕ) (stop : PartFault) → HasBody key owner version →
    stop ≡ BadPart (length bytes)
    → (HasValue key owner version → (rest : List ℕ) → bytes ≢ 61 ∷ rest) →
    (IsChange (change_of key owner version Gone) → (rest : List ℕ) → bytes ≢ 45 ∷ rest) →
    ReadsChange (up_to_mark key owner version) bytes (Err stop)
mark_missing key owner version bytes stop has at put gone =
    missing (up_to_mark key owner version) Byte bytes stop (change_of key owner version has.0) (body_parts has.0) has.1 refl
    (mark_comes key owner version) at
    (λ c more after is eq h.
    let k = version_known key owner version c more has.1.epoch has.1.seq is eq in
    no_mark key owner version c.body bytes after k.0 (subst (λ (x : List Part). Stand 1 x bytes after) (sym k.1) h) put gone)

pub mark_then : (key : Key) (owner : List ℕ) (version : Version) (mark : ℕ) (bytes r : List ℕ)
    (result : Result (ChangeRecord × ℕ) PartFault) → bytes ≡ mark ∷ r →
    ReadsChange (up_to_mark key owner version ++ byte mark ∷ []) r result → ReadsChange (up_to_mark key owner version) bytes result
mark_then key owner version mark bytes r result is k =
    read_on (up_to_mark key owner version) (byte mark) bytes r result refl (mark_comes key owner version) (byte_begins mark bytes r is) k

-- ---- tombstones

gone_after : (b : Body) (more : List Part) → body_parts b ≡ byte 45 ∷ more → newline ∷ [] ≡ more
gone_after (Put v) more e = absurd (omega (arith, ap mark_of e))
gone_after Gone more e = ap (drop 1) e

gone_end_comes : (key : Key) (owner : List ℕ) (version : Version) → Comes (up_to_mark key owner version ++ byte 45 ∷ []) Byte
gone_end_comes key owner version c more is eq = subst (Begun Byte) (gone_after c.body more (ap (drop 10) eq)) (refl, refl)

pub gone_end_missing : (key : Key) (owner : List ℕ) (version : Version) (bytes : List ℕ) (stop : PartFault) →
    IsChange (change_of key owner version Gone) →
    stop ≡ BadPart (length bytes) → ((rest : List ℕ) → bytes ≢ 10 ∷ rest) →
    ReadsChange (up_to_mark key owner version ++ byte 45 ∷ []) bytes (Err stop)
gone_end_missing key owner version bytes stop is_gone at none =
    missing (up_to_mark key owner version ++ byte 45 ∷ []) Byte bytes stop (change_of key owner version Gone) (newline ∷ []) is_gone refl
    (gone_end_comes key owner version) at
    (λ c more after is eq h. let first = subst (λ (x : List Part). Stand 1 x bytes after) (sym (gone_after c.body more (ap (drop 10) eq)))
    h in none first.0 first.1.parts)

pub gone_whole : (key : Key) (owner : List ℕ) (version : Version) (bytes rest : List ℕ) → IsChange (change_of key owner version Gone) →
    bytes ≡ 10 ∷ rest →
    ReadsChange (up_to_mark key owner version ++ byte 45 ∷ []) bytes (Ok (change_of key owner version Gone, length rest))
gone_whole key owner version bytes rest is_gone is =
    (rest, record { change = is_gone; further = newline ∷ []; split = refl; text = is }, refl)

-- ---- puts

put_after : (b : Body) (more : List Part) → body_parts b ≡ byte 61 ∷ more →
    (v : Value) × (b ≡ Put v) × (space ∷ value_part v ∷ newline ∷ [] ≡ more)
put_after (Put v) more e = (v, refl, ap (drop 1) e)
put_after Gone more e = absurd (omega (arith, ap mark_of e))

value_space_comes : (key : Key) (owner : List ℕ) (version : Version) → Comes (up_to_mark key owner version ++ byte 61 ∷ []) Byte
value_space_comes key owner version c more is eq = subst (Begun Byte) (put_after c.body more (ap (drop 10) eq)).2 (refl, refl)

pub value_space_missing : (key : Key) (owner : List ℕ) (version : Version) (bytes : List ℕ) (stop : PartFault) →
    HasValue key owner version → stop ≡ BadPart (length bytes) →
    ((rest : List ℕ) → bytes ≢ 32 ∷ rest) → ReadsChange (up_to_mark key owner version ++ byte 61 ∷ []) bytes (Err stop)
value_space_missing key owner version bytes stop has at none =
    missing (up_to_mark key owner version ++ byte 61 ∷ []) Byte bytes stop (change_of key owner version (Put has.0))
    (space ∷ value_part has.0 ∷ newline ∷ []) has.1 refl (value_space_comes key owner version) at
    (λ c more after is eq h. let first = subst (λ (x : List Part). Stand 1 x bytes after) (sym (put_after c.body more (ap (drop 10) eq)).2)
    h in none first.0 first.1.parts)

pub value_space_then : (key : Key) (owner : List ℕ) (version : Version) (bytes r : List ℕ) (result : Result (ChangeRecord × ℕ) PartFault) →
    bytes ≡ 32 ∷ r →
    ReadsChange (up_to_value key owner version) r result → ReadsChange (up_to_mark key owner version ++ byte 61 ∷ []) bytes result
value_space_then key owner version bytes r result is k =
    read_on (up_to_mark key owner version ++ byte 61 ∷ []) space bytes r result refl (value_space_comes key owner version)
    (byte_begins 32 bytes r is) k

-- ---- values

-- the class of a value's part is its kind's
abbrev class_of : Kind → Class
class_of Label = Endpoint
class_of U32 = Number
class_of Str = Quoted
class_of Mem = Hex

class_is : (v : Value) → (value_part v).class ≡ class_of (kind_of v)
class_is (values.Label e) = refl
class_is (values.U32 n) = refl
class_is (values.Str t) = refl
class_is (values.Mem b) = refl

pub class_one : (v w : Value) → kind_of v ≡ kind_of w → (value_part v).class ≡ (value_part w).class
class_one v w kind = class_is v ∙ ap class_of kind ∙ sym (class_is w)

-- the text of a value's part is one of its class
pub value_text : (v : Value) → IsValue v → IsText (value_part v).class (value_part v).text
value_text (values.Label e) is = (e, is, refl)
value_text (values.U32 n) is = (n, omega (arith, is), refl)
value_text (values.Str t) is = (t, refl)
value_text (values.Mem b) is = hex_run b is.each

-- What the parts up to the value determine.
pub put_known : (key : Key) (owner : List ℕ) (version : Version) (c : ChangeRecord) (more : List Part) → version.epoch ≤ 2097151 →
    version.seq < 2 ^ 32 → IsChange c → change_parts c ≡ up_to_value key owner version ++ more
    → (v : Value) × IsChange (change_of key owner version (Put v)) × (value_part v ∷ newline ∷ [] ≡ more)
put_known key owner version c more most fits is eq =
    let k = version_known key owner version c (byte 61 ∷ space ∷ more) most fits is eq in
    let p = put_after c.body (space ∷ more) k.1 in
    (p.0, subst (λ (b : Body). IsChange (change_of key owner version b)) p.1 k.0, ap (drop 1) p.2)

value_comes : (key : Key) (owner : List ℕ) (version : Version) (v : Value) → IsChange (change_of key owner version (Put v)) →
    Comes (up_to_value key owner version) (value_part v).class
value_comes key owner version v is_put c more is eq =
    let k = put_known key owner version c more is_put.epoch is_put.seq is eq in
    subst (Begun (value_part v).class) k.2 (class_one k.0 v (k.1.kind ∙ sym is_put.kind), value_text k.0 k.1.body)

-- No value of a put is here.
abbrev pub NoValue : Key → List ℕ → Version → List ℕ → Type 0
NoValue key owner version bytes = (v : Value) (after : List ℕ) → IsChange (change_of key owner version (Put v)) →
    ¬ Begins (run_of (value_part v).class) bytes (value_part v).text after

value_missing : (key : Key) (owner : List ℕ) (version : Version) (bytes : List ℕ) (stop : PartFault) → HasValue key owner version →
    stop ≡ BadPart (length bytes) →
    NoValue key owner version bytes → ReadsChange (up_to_value key owner version) bytes (Err stop)
value_missing key owner version bytes stop has at none =
    missing (up_to_value key owner version) (value_part has.0).class bytes stop (change_of key owner version (Put has.0))
    (value_part has.0 ∷ newline ∷ []) has.1 refl (value_comes key owner version has.0 has.1) at
    (λ c more after is eq h.
    let k = put_known key owner version c more has.1.epoch has.1.seq is eq in
    let first = subst (λ (x : List Part). Stand 1 x bytes after) (sym k.2) h in
    none k.0 first.0 k.1 first.1)

no_endpoint : (key : Key) (owner : List ℕ) (version : Version) (bytes : List ℕ) → key.kind ≡ Label →
    ((e : EndpointRecord) (rest : List ℕ) → IsEndpoint e → e.generation ≡ version.epoch →
    ¬ Begins is_ascii_digit bytes (endpoint_text e) rest) → NoValue key owner version bytes
no_endpoint key owner version bytes kind none (values.Label e) after is h =
    none e after is.body (sym (label_rule (change_of key owner version (Put (values.Label e))) is kind).body.1) h
no_endpoint key owner version bytes kind none (values.U32 n) after is h = omega (arith, ap kind_place (is.kind ∙ kind))
no_endpoint key owner version bytes kind none (values.Str t) after is h = omega (arith, ap kind_place (is.kind ∙ kind))
no_endpoint key owner version bytes kind none (values.Mem b) after is h = omega (arith, ap kind_place (is.kind ∙ kind))

pub endpoint_missing : (key : Key) (owner : List ℕ) (version : Version) (bytes : List ℕ) (stop : PartFault) → key.kind ≡ Label →
    HasValue key owner version → stop ≡ BadPart (length bytes)
    → ((e : EndpointRecord) (rest : List ℕ) → IsEndpoint e → e.generation ≡ version.epoch →
    ¬ Begins is_ascii_digit bytes (endpoint_text e) rest) → ReadsChange (up_to_value key owner version) bytes (Err stop)
endpoint_missing key owner version bytes stop kind has at none =
    value_missing key owner version bytes stop has at (no_endpoint key owner version bytes kind none)

-- a label's put of this endpoint
pub endpoint_put : (key : Key) (owner : List ℕ) (version : Version) (e : EndpointRecord) → key.kind ≡ Label → HasValue key owner version →
    IsEndpoint e →
    e.generation ≡ version.epoch → IsChange (change_of key owner version (Put (values.Label e)))
endpoint_put key owner version e kind has is gen =
    let old = label_rule (change_of key owner version (Put has.0)) has.1 kind in
    let seq = put_epoch version has.0 old.body in
    let rule : IsLabelChange (change_of key owner version (Put (values.Label e))) =
    record { owner = old.owner; name = old.name; epoch = old.epoch; body = (seq, sym gen) } in
    record {
      name = has.1.name;
      owner = has.1.owner;
      epoch = has.1.epoch;
      seq = has.1.seq;
      body = is;
      kind = sym kind;
      rule = subst (λ (k : Kind). KeepsRule k (change_of key owner version (Put (values.Label e)))) (sym kind) rule;
    }

-- ---- the end of a put's line

abbrev pub after_value : Key → List ℕ → Version → Value → List Part
after_value key owner version v = up_to_value key owner version ++ value_part v ∷ []

end_comes : (key : Key) (owner : List ℕ) (version : Version) (v : Value) → IsChange (change_of key owner version (Put v)) →
    Comes (after_value key owner version v) Byte
end_comes key owner version v is_put c more is eq =
    let k = put_known key owner version c (value_part v ∷ more) is_put.epoch is_put.seq is eq in
    subst (Begun Byte) (ap (drop 1) k.2) (refl, refl)

-- The value is read, and the newline after it is missing.
pub put_end_missing : (key : Key) (owner : List ℕ) (version : Version) (v : Value) (bytes r : List ℕ) (stop : PartFault) →
    IsChange (change_of key owner version (Put v)) →
    Begins (run_of (value_part v).class) bytes (value_part v).text r → stop ≡ BadPart (length r)
    → ((rest : List ℕ) → r ≢ 10 ∷ rest) → ReadsChange (up_to_value key owner version) bytes (Err stop)
put_end_missing key owner version v bytes r stop is_put begins at none =
    read_on (up_to_value key owner version) (value_part v) bytes r (Err stop) (value_text v is_put.body)
    (value_comes key owner version v is_put) begins
    (missing (after_value key owner version v) Byte r stop (change_of key owner version (Put v)) (newline ∷ []) is_put refl
    (end_comes key owner version v is_put) at
    (λ c more after is eq h.
    let k = put_known key owner version c (value_part v ∷ more) is_put.epoch is_put.seq is eq in
    let first = subst (λ (x : List Part). Stand 1 x r after) (sym (ap (drop 1) k.2)) h in
    none first.0 first.1.parts))

put_completes : (key : Key) (owner : List ℕ) (version : Version) (v : Value) (r rest : List ℕ) →
    IsChange (change_of key owner version (Put v)) → r ≡ 10 ∷ rest →
    Completes (after_value key owner version v) (change_of key owner version (Put v)) r rest
put_completes key owner version v r rest is_put end = record { change = is_put; further = newline ∷ []; split = refl; text = end }

-- The value is read, and the line ends after it.
pub put_whole : (key : Key) (owner : List ℕ) (version : Version) (v : Value) (bytes r rest : List ℕ) →
    IsChange (change_of key owner version (Put v)) → Begins (run_of (value_part v).class) bytes (value_part v).text r → r ≡ 10 ∷ rest
    → ReadsChange (up_to_value key owner version) bytes (Ok (change_of key owner version (Put v), length rest))
put_whole key owner version v bytes r rest is_put begins end =
    read_on (up_to_value key owner version) (value_part v) bytes r (Ok (change_of key owner version (Put v), length rest))
    (value_text v is_put.body) (value_comes key owner version v is_put) begins
    (rest, put_completes key owner version v r rest is_put end, refl)
