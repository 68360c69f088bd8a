-- The parts of a change before its mark: each is missing where it is expected, or is read there.
use Rattle.std.proofs.Common.{◌≡◌, ◌≢◌, ℕ, ◌^◌, ◌<◌, ◌≤◌, List, [], ◌∷◌, ◌++◌, length, get_or, drop, true, Result, Err, refl, sym, ap}
use Rattle.std.proofs.Common.{subst, ◌∙◌, arith}
use Rattle.std.specs.Char.{is_ascii_digit, is_ascii_alphanumeric}
use Rattle.std.specs.Fmt.{decimal}
use Rattle.std.specs.List.{list_all}
use Rattle.std.proofs.lemmas.Fmt.{decimal_injective}
use Rattle.ds_names.specs.Name.{is_name_byte, IsName, rs_name}
use Rattle.ds_names.specs.Run.{Begins}
use Rattle.ds_names.specs.declared.kind.Kind.{Kind}
use Rattle.ds_names.specs.declared.kind.Kind.TheVariants.{Label, U32, Str, Mem}
use Rattle.ds_names.specs.declared.key.Key.{Key}
use Rattle.ds_names.specs.declared.version.Version.{Version}
use Rattle.ds_names.proofs.DecimalLemmas.{decimal_one}
use Rattle.ds_entry.specs.declared.body.Body.TheVariants.{Gone}
use Rattle.ds_entry.specs.Change.{ChangeRecord, change_of, IsChange}
use Rattle.ds_line.specs.Part.{Byte, Name, Word, Number, Part, part, byte}
use Rattle.ds_line.specs.Spelling.{space, kind_word, change_parts}
use Rattle.ds_line.specs.FaultPlace.{Stand}
use Rattle.ds_line.specs.Reading.{HasOwner, HasVersion, HasSeq, HasBody, up_to_kind, up_to_epoch, up_to_mark, ReadsChange}
use Rattle.ds_line.specs.declared.part_fault.PartFault.{PartFault}
use Rattle.ds_line.specs.declared.part_fault.PartFault.TheVariants.{BadPart}
use Rattle.ds_line.proofs.PartLemmas.{part_one, byte_begins}
use Rattle.ds_line.proofs.ReadLemmas.{Begun, Comes, missing, read_on}
use Rattle.ds_line.proofs.LabelLemmas.{rs_is_name, version_of}

-- ---- what the known parts determine

-- the text of the part at an index
abbrev pub text_at : ℕ → List Part → List ℕ
text_at i parts = (get_or parts i (byte 0)).text

pub word_is_word : (k : Kind) → list_all is_ascii_alphanumeric (kind_word k) ≡ true
word_is_word Label = refl
word_is_word U32 = refl
word_is_word Str = refl
word_is_word Mem = refl

abbrev kind_at_letter : List ℕ → ℕ
kind_at_letter word = get_or word 0 0

-- Two kinds with one word are equal.
pub word_one : (j k : Kind) → kind_word j ≡ kind_word k → j ≡ k
word_one Label Label e = refl
word_one Label U32 e = absurd (omega (arith, ap kind_at_letter e))
word_one Label Str e = absurd (omega (arith, ap kind_at_letter e))
word_one Label Mem e = absurd (omega (arith, ap kind_at_letter e))
word_one U32 Label e = absurd (omega (arith, ap kind_at_letter e))
word_one U32 U32 e = refl
word_one U32 Str e = absurd (omega (arith, ap kind_at_letter e))
word_one U32 Mem e = absurd (omega (arith, ap kind_at_letter e))
word_one Str Label e = absurd (omega (arith, ap kind_at_letter e))
word_one Str U32 e = absurd (omega (arith, ap kind_at_letter e))
word_one Str Str e = refl
word_one Str Mem e = absurd (omega (arith, ap kind_at_letter e))
word_one Mem Label e = absurd (omega (arith, ap kind_at_letter e))
word_one Mem U32 e = absurd (omega (arith, ap kind_at_letter e))
word_one Mem Str e = absurd (omega (arith, ap kind_at_letter e))
word_one Mem Mem e = refl

-- a key of this name and kind
pub key_is : (k l : Key) → k.name ≡ l.name → k.kind ≡ l.kind → k ≡ l
key_is k l name kind = ap (λ (n : List ℕ). record { name = n; kind = k.kind }) name ∙
    ap (λ (x : Kind). record { name = l.name; kind = x }) kind

-- The parts up to the kind determine the key.
pub key_known : (key : Key) (c : ChangeRecord) (more : List Part) → change_parts c ≡ up_to_kind key ++ more → c.key ≡ key
key_known key c more eq = key_is c.key key (ap (text_at 0) eq) (word_one c.key.kind key.kind (ap (text_at 2) eq))

-- The parts up to the epoch determine the owner, too.
pub owner_known : (key : Key) (owner : List ℕ) (c : ChangeRecord) (more : List Part) → change_parts c ≡ up_to_epoch key owner ++ more →
    (c.key ≡ key) × (c.owner ≡ owner)
owner_known key owner c more eq =
    (key_is c.key key (ap (text_at 0) eq) (word_one c.key.kind key.kind (ap (text_at 2) eq)), ap (text_at 4) eq)

-- ---- the name and the kind

-- a change with the name
abbrev tombstone : List ℕ → ChangeRecord
tombstone n = change_of (record { name = n; kind = U32 }) rs_name (version_of 0 0) Gone

tombstone_is : (n : List ℕ) → IsName n → IsChange (tombstone n)
tombstone_is n name = record { name = name; owner = rs_is_name; epoch = omega arith; seq = omega arith; body = tt; kind = tt; rule = tt }

abbrev pub after_name_part : List ℕ → List Part
after_name_part n = part Name n ∷ []

abbrev pub after_name_space : List ℕ → List Part
after_name_space n = part Name n ∷ space ∷ []

name_comes : Comes [] Name
name_comes c more is eq = subst (Begun Name) eq (refl, is.name.allowed)

name_space_comes : (n : List ℕ) → Comes (after_name_part n) Byte
name_space_comes n c more is eq = subst (Begun Byte) (ap (drop 1) eq) (refl, refl)

kind_comes : (n : List ℕ) → Comes (after_name_space n) Word
kind_comes n c more is eq = subst (Begun Word) (ap (drop 2) eq) (refl, word_is_word c.key.kind)

pub name_missing : (bytes : List ℕ) (stop : PartFault) → stop ≡ BadPart (length bytes) →
    ((name rest : List ℕ) → IsName name → ¬ Begins is_name_byte bytes name rest) → ReadsChange [] bytes (Err stop)
name_missing bytes stop at none =
    missing [] Name bytes stop (tombstone rs_name) (change_parts (tombstone rs_name)) (tombstone_is rs_name rs_is_name) refl name_comes at
    (λ c more after is eq h. let first = subst (λ (x : List Part). Stand 1 x bytes after) (sym eq) h in
    none c.key.name first.0 is.name first.1)

pub name_space_missing : (n bytes : List ℕ) (stop : PartFault) → IsName n → stop ≡ BadPart (length bytes) →
    ((rest : List ℕ) → bytes ≢ 32 ∷ rest) → ReadsChange (after_name_part n) bytes (Err stop)
name_space_missing n bytes stop name at none =
    missing (after_name_part n) Byte bytes stop (tombstone n) (drop 1 (change_parts (tombstone n))) (tombstone_is n name) refl
    (name_space_comes n) at
    (λ c more after is eq h. let first = subst (λ (x : List Part). Stand 1 x bytes after) (sym (ap (drop 1) eq)) h in
    none first.0 first.1.parts)

pub kind_missing : (n bytes : List ℕ) (stop : PartFault) → IsName n → stop ≡ BadPart (length bytes) →
    ((kind : Kind) (rest : List ℕ) → ¬ Begins is_ascii_alphanumeric bytes (kind_word kind) rest) →
    ReadsChange (after_name_space n) bytes (Err stop)
kind_missing n bytes stop name at none =
    missing (after_name_space n) Word bytes stop (tombstone n) (drop 2 (change_parts (tombstone n))) (tombstone_is n name) refl
    (kind_comes n) at
    (λ c more after is eq h. let first = subst (λ (x : List Part). Stand 1 x bytes after) (sym (ap (drop 2) eq)) h in
    none c.key.kind first.0 first.1)

-- the word is read, but no change has this name and kind
pub kind_refused : (key : Key) (bytes r : List ℕ) (stop : PartFault) → IsName key.name → stop ≡ BadPart (length bytes) →
    Begins is_ascii_alphanumeric bytes (kind_word key.kind) r →
    ¬ HasOwner key → ReadsChange (after_name_space key.name) bytes (Err stop)
kind_refused key bytes r stop name at begins none =
    missing (after_name_space key.name) Word bytes stop (tombstone key.name) (drop 2 (change_parts (tombstone key.name)))
    (tombstone_is key.name name) refl (kind_comes key.name) at
    (λ c more after is eq h.
    let first = subst (λ (x : List Part). Stand 1 x bytes after) (sym (ap (drop 2) eq)) h in
    let word = (part_one Word bytes (kind_word c.key.kind) (kind_word key.kind) first.0 r (word_is_word c.key.kind) (word_is_word key.kind)
    first.1 begins).0 in
    none (subst HasOwner (key_is c.key key (ap (text_at 0) eq) (word_one c.key.kind key.kind word)) (c.owner, (c.version, (c.body, is)))))

pub key_read : (key : Key) (bytes r1 r2 r3 : List ℕ) (result : Result (ChangeRecord × ℕ) PartFault) → IsName key.name →
    Begins is_name_byte bytes key.name r1 → r1 ≡ 32 ∷ r2 → Begins is_ascii_alphanumeric r2 (kind_word key.kind) r3
    → ReadsChange (up_to_kind key) r3 result → ReadsChange [] bytes result
key_read key bytes r1 r2 r3 result name b1 b2 b3 k =
    read_on [] (part Name key.name) bytes r1 result name.allowed name_comes b1
    (read_on (after_name_part key.name) space r1 r2 result refl (name_space_comes key.name) (byte_begins 32 r1 r2 b2)
    (read_on (after_name_space key.name) (part Word (kind_word key.kind)) r2 r3 result (word_is_word key.kind) (kind_comes key.name) b3 k))

pub name_then : (n bytes r1 : List ℕ) (result : Result (ChangeRecord × ℕ) PartFault) → IsName n → Begins is_name_byte bytes n r1 →
    ReadsChange (after_name_part n) r1 result → ReadsChange [] bytes result
name_then n bytes r1 result name b1 k = read_on [] (part Name n) bytes r1 result name.allowed name_comes b1 k

pub name_space_then : (n bytes r1 r2 : List ℕ) (result : Result (ChangeRecord × ℕ) PartFault) → IsName n → Begins is_name_byte bytes n r1 →
    r1 ≡ 32 ∷ r2 → ReadsChange (after_name_space n) r2 result → ReadsChange [] bytes result
name_space_then n bytes r1 r2 result name b1 b2 k =
    name_then n bytes r1 result name b1 (read_on (after_name_part n) space r1 r2 result refl (name_space_comes n) (byte_begins 32 r1 r2 b2)
    k)

-- ---- the owner

abbrev pub up_to_owner : Key → List Part
up_to_owner key = up_to_kind key ++ space ∷ []

abbrev pub after_owner : Key → List ℕ → List Part
after_owner key owner = up_to_kind key ++ space ∷ part Name owner ∷ []

owner_space_comes : (key : Key) → Comes (up_to_kind key) Byte
owner_space_comes key c more is eq = subst (Begun Byte) (ap (drop 3) eq) (refl, refl)

owner_comes : (key : Key) → Comes (up_to_owner key) Name
owner_comes key c more is eq = subst (Begun Name) (ap (drop 4) eq) (refl, is.owner.allowed)

epoch_space_comes : (key : Key) (owner : List ℕ) → Comes (after_owner key owner) Byte
epoch_space_comes key owner c more is eq = subst (Begun Byte) (ap (drop 5) eq) (refl, refl)

-- a change with the key
abbrev with_key : (key : Key) → HasOwner key → ChangeRecord
with_key key has = change_of key has.0 has.1.0 has.1.1.0

pub owner_space_missing : (key : Key) (bytes : List ℕ) (stop : PartFault) → HasOwner key → stop ≡ BadPart (length bytes) →
    ((rest : List ℕ) → bytes ≢ 32 ∷ rest) → ReadsChange (up_to_kind key) bytes (Err stop)
owner_space_missing key bytes stop has at none =
    missing (up_to_kind key) Byte bytes stop (with_key key has) (drop 3 (change_parts (with_key key has))) has.1.1.1 refl
    (owner_space_comes key) at
    (λ c more after is eq h. let first = subst (λ (x : List Part). Stand 1 x bytes after) (sym (ap (drop 3) eq)) h in
    none first.0 first.1.parts)

pub owner_space_then : (key : Key) (bytes r : List ℕ) (result : Result (ChangeRecord × ℕ) PartFault) → bytes ≡ 32 ∷ r →
    ReadsChange (up_to_owner key) r result → ReadsChange (up_to_kind key) bytes result
owner_space_then key bytes r result is k =
    read_on (up_to_kind key) space bytes r result refl (owner_space_comes key) (byte_begins 32 bytes r is) k

pub owner_missing : (key : Key) (bytes : List ℕ) (stop : PartFault) → HasOwner key → stop ≡ BadPart (length bytes) →
    ((name rest : List ℕ) → IsName name → ¬ Begins is_name_byte bytes name rest) → ReadsChange (up_to_owner key) bytes (Err stop)
owner_missing key bytes stop has at none =
    missing (up_to_owner key) Name bytes stop (with_key key has) (drop 4 (change_parts (with_key key has))) has.1.1.1 refl
    (owner_comes key) at
    (λ c more after is eq h. let first = subst (λ (x : List Part). Stand 1 x bytes after) (sym (ap (drop 4) eq)) h in
    none c.owner first.0 is.owner first.1)

-- a name is read, but no change with the key has that owner
pub owner_refused : (key : Key) (owner bytes r : List ℕ) (stop : PartFault) → HasOwner key → stop ≡ BadPart (length bytes) → IsName owner →
    Begins is_name_byte bytes owner r →
    ¬ HasVersion key owner → ReadsChange (up_to_owner key) bytes (Err stop)
owner_refused key owner bytes r stop has at name begins none =
    missing (up_to_owner key) Name bytes stop (with_key key has) (drop 4 (change_parts (with_key key has))) has.1.1.1 refl
    (owner_comes key) at
    (λ c more after is eq h.
    let first = subst (λ (x : List Part). Stand 1 x bytes after) (sym (ap (drop 4) eq)) h in
    let same = (part_one Name bytes c.owner owner first.0 r is.owner.allowed name.allowed first.1 begins).0 in
    none (subst (HasVersion key) same (subst (λ (k : Key). HasVersion k c.owner) (key_known key c (space ∷ more) eq)
    (c.version, (c.body, is)))))

pub owner_then : (key : Key) (owner bytes r : List ℕ) (result : Result (ChangeRecord × ℕ) PartFault) → IsName owner →
    Begins is_name_byte bytes owner r →
    ReadsChange (after_owner key owner) r result → ReadsChange (up_to_owner key) bytes result
owner_then key owner bytes r result name begins k =
    read_on (up_to_owner key) (part Name owner) bytes r result name.allowed (owner_comes key) begins k

pub epoch_space_missing : (key : Key) (owner bytes : List ℕ) (stop : PartFault) → HasVersion key owner → stop ≡ BadPart (length bytes) →
    ((rest : List ℕ) → bytes ≢ 32 ∷ rest) → ReadsChange (after_owner key owner) bytes (Err stop)
epoch_space_missing key owner bytes stop has at none =
    missing (after_owner key owner) Byte bytes stop (change_of key owner has.0 has.1.0)
    (drop 5 (change_parts (change_of key owner has.0 has.1.0))) has.1.1 refl (epoch_space_comes key owner) at
    (λ c more after is eq h. let first = subst (λ (x : List Part). Stand 1 x bytes after) (sym (ap (drop 5) eq)) h in
    none first.0 first.1.parts)

pub epoch_space_then : (key : Key) (owner bytes r : List ℕ) (result : Result (ChangeRecord × ℕ) PartFault) → bytes ≡ 32 ∷ r →
    ReadsChange (up_to_epoch key owner) r result → ReadsChange (after_owner key owner) bytes result
epoch_space_then key owner bytes r result is k =
    read_on (after_owner key owner) space bytes r result refl (epoch_space_comes key owner) (byte_begins 32 bytes r is) k

-- ---- the version

abbrev pub after_epoch : Key → List ℕ → ℕ → List Part
after_epoch key owner epoch = up_to_epoch key owner ++ part Number (decimal epoch) ∷ []

abbrev pub up_to_seq : Key → List ℕ → ℕ → List Part
up_to_seq key owner epoch = up_to_epoch key owner ++ part Number (decimal epoch) ∷ byte 46 ∷ []

abbrev pub after_seq : Key → List ℕ → Version → List Part
after_seq key owner version = up_to_epoch key owner ++ part Number (decimal version.epoch) ∷ byte 46 ∷ part Number (decimal version.seq) ∷
    []

epoch_comes : (key : Key) (owner : List ℕ) → Comes (up_to_epoch key owner) Number
epoch_comes key owner c more is eq = subst (Begun Number) (ap (drop 6) eq) (refl, (c.version.epoch, omega (arith, is.epoch), refl))

dot_comes : (key : Key) (owner : List ℕ) (epoch : ℕ) → Comes (after_epoch key owner epoch) Byte
dot_comes key owner epoch c more is eq = subst (Begun Byte) (ap (drop 7) eq) (refl, refl)

seq_comes : (key : Key) (owner : List ℕ) (epoch : ℕ) → Comes (up_to_seq key owner epoch) Number
seq_comes key owner epoch c more is eq = subst (Begun Number) (ap (drop 8) eq) (refl, (c.version.seq, omega (arith, is.seq), refl))

mark_space_comes : (key : Key) (owner : List ℕ) (version : Version) → Comes (after_seq key owner version) Byte
mark_space_comes key owner version c more is eq = subst (Begun Byte) (ap (drop 9) eq) (refl, refl)

pub epoch_missing : (key : Key) (owner bytes : List ℕ) (stop : PartFault) → HasVersion key owner → stop ≡ BadPart (length bytes) →
    ((n : ℕ) (rest : List ℕ) → n ≤ 2097151 → ¬ Begins is_ascii_digit bytes (decimal n) rest) →
    ReadsChange (up_to_epoch key owner) bytes (Err stop)
epoch_missing key owner bytes stop has at none =
    missing (up_to_epoch key owner) Number bytes stop (change_of key owner has.0 has.1.0)
    (drop 6 (change_parts (change_of key owner has.0 has.1.0))) has.1.1 refl (epoch_comes key owner) at
    (λ c more after is eq h. let first = subst (λ (x : List Part). Stand 1 x bytes after) (sym (ap (drop 6) eq)) h in
    none c.version.epoch first.0 is.epoch first.1)

-- a number is read, but no change with the key and the owner has that epoch
pub epoch_refused : (key : Key) (owner bytes r : List ℕ) (epoch : ℕ) (stop : PartFault) → HasVersion key owner →
    stop ≡ BadPart (length bytes) → epoch ≤ 2097151 →
    Begins is_ascii_digit bytes (decimal epoch) r → ¬ HasSeq key owner epoch → ReadsChange (up_to_epoch key owner) bytes (Err stop)
epoch_refused key owner bytes r epoch stop has at most begins none =
    missing (up_to_epoch key owner) Number bytes stop (change_of key owner has.0 has.1.0)
    (drop 6 (change_parts (change_of key owner has.0 has.1.0))) has.1.1 refl (epoch_comes key owner) at
    (λ c more after is eq h.
    let first = subst (λ (x : List Part). Stand 1 x bytes after) (sym (ap (drop 6) eq)) h in
    let known = owner_known key owner c more eq in
    let same : c.version.epoch ≡ epoch = (decimal_one bytes c.version.epoch epoch first.0 r (omega (arith, is.epoch)) (omega arith) first.1
    begins).0 in
    let own : HasSeq c.key c.owner c.version.epoch = (c.version.seq, (c.body, is)) in
    let of_epoch : HasSeq c.key c.owner epoch = subst (λ (e : ℕ). HasSeq c.key c.owner e) same own in
    let of_owner : HasSeq c.key owner epoch = subst (λ (o : List ℕ). HasSeq c.key o epoch) known.1 of_epoch in
    none (subst (λ (k : Key). HasSeq k owner epoch) known.0 of_owner))

pub epoch_then : (key : Key) (owner bytes r : List ℕ) (epoch : ℕ) (result : Result (ChangeRecord × ℕ) PartFault) → epoch ≤ 2097151 →
    Begins is_ascii_digit bytes (decimal epoch) r →
    ReadsChange (after_epoch key owner epoch) r result → ReadsChange (up_to_epoch key owner) bytes result
epoch_then key owner bytes r epoch result most begins k =
    read_on (up_to_epoch key owner) (part Number (decimal epoch)) bytes r result (epoch, omega arith, refl) (epoch_comes key owner) begins k

pub dot_missing : (key : Key) (owner bytes : List ℕ) (epoch : ℕ) (stop : PartFault) → HasSeq key owner epoch →
    stop ≡ BadPart (length bytes) →
    ((rest : List ℕ) → bytes ≢ 46 ∷ rest) → ReadsChange (after_epoch key owner epoch) bytes (Err stop)
dot_missing key owner bytes epoch stop has at none =
    missing (after_epoch key owner epoch) Byte bytes stop (change_of key owner (version_of epoch has.0) has.1.0)
    (drop 7 (change_parts (change_of key owner (version_of epoch has.0) has.1.0))) has.1.1 refl (dot_comes key owner epoch) at
    (λ c more after is eq h. let first = subst (λ (x : List Part). Stand 1 x bytes after) (sym (ap (drop 7) eq)) h in
    none first.0 first.1.parts)

pub dot_then : (key : Key) (owner bytes r : List ℕ) (epoch : ℕ) (result : Result (ChangeRecord × ℕ) PartFault) → bytes ≡ 46 ∷ r →
    ReadsChange (up_to_seq key owner epoch) r result → ReadsChange (after_epoch key owner epoch) bytes result
dot_then key owner bytes r epoch result is k =
    read_on (after_epoch key owner epoch) (byte 46) bytes r result refl (dot_comes key owner epoch) (byte_begins 46 bytes r is) k

pub seq_missing : (key : Key) (owner bytes : List ℕ) (epoch : ℕ) (stop : PartFault) → HasSeq key owner epoch →
    stop ≡ BadPart (length bytes) →
    ((n : ℕ) (rest : List ℕ) → n ≤ 4294967295 → ¬ Begins is_ascii_digit bytes (decimal n) rest) →
    ReadsChange (up_to_seq key owner epoch) bytes (Err stop)
seq_missing key owner bytes epoch stop has at none =
    missing (up_to_seq key owner epoch) Number bytes stop (change_of key owner (version_of epoch has.0) has.1.0)
    (drop 8 (change_parts (change_of key owner (version_of epoch has.0) has.1.0))) has.1.1 refl (seq_comes key owner epoch) at
    (λ c more after is eq h. let first = subst (λ (x : List Part). Stand 1 x bytes after) (sym (ap (drop 8) eq)) h in
    none c.version.seq first.0 (omega (arith, is.seq)) first.1)

epoch_known : (e : ℕ) (c : ChangeRecord) (parts : List Part) → e ≤ 2097151 → IsChange c → change_parts c ≡ parts →
    decimal e ≡ text_at 6 parts → c.version.epoch ≡ e
epoch_known e c parts most is eq at = decimal_injective c.version.epoch e (omega (arith, is.epoch)) (omega arith)
    (ap (text_at 6) eq ∙ sym at)

seq_known : (q : ℕ) (c : ChangeRecord) (parts : List Part) → q < 2 ^ 32 → IsChange c → change_parts c ≡ parts →
    decimal q ≡ text_at 8 parts → c.version.seq ≡ q
seq_known q c parts fits is eq at = decimal_injective c.version.seq q (omega (arith, is.seq)) (omega arith) (ap (text_at 8) eq ∙ sym at)

pub version_is : (v w : Version) → v.epoch ≡ w.epoch → v.seq ≡ w.seq → v ≡ w
version_is v w epoch seq = ap (λ (e : ℕ). version_of e v.seq) epoch ∙ ap (λ (q : ℕ). version_of w.epoch q) seq

known_body : (key : Key) (owner : List ℕ) (version : Version) (c : ChangeRecord) → c.key ≡ key → c.owner ≡ owner → c.version ≡ version →
    IsChange c → HasBody key owner version
known_body key owner version c k o v is =
    let own : HasBody c.key c.owner c.version = (c.body, is) in
    let of_version : HasBody c.key c.owner version = subst (λ (x : Version). HasBody c.key c.owner x) v own in
    let of_owner : HasBody c.key owner version = subst (λ (x : List ℕ). HasBody c.key x version) o of_version in
    subst (λ (x : Key). HasBody x owner version) k of_owner

-- a number is read, but no change has that version
pub seq_refused : (key : Key) (owner bytes r : List ℕ) (version : Version) (stop : PartFault) → HasSeq key owner version.epoch →
    stop ≡ BadPart (length bytes) →
    version.seq < 2 ^ 32 → Begins is_ascii_digit bytes (decimal version.seq) r → ¬ HasBody key owner version →
    ReadsChange (up_to_seq key owner version.epoch) bytes (Err stop)
seq_refused key owner bytes r version stop has at fits begins none =
    missing (up_to_seq key owner version.epoch) Number bytes stop (change_of key owner (version_of version.epoch has.0) has.1.0)
    (drop 8 (change_parts (change_of key owner (version_of version.epoch has.0) has.1.0))) has.1.1 refl (seq_comes key owner version.epoch)
    at
    (λ c more after is eq h.
    let first = subst (λ (x : List Part). Stand 1 x bytes after) (sym (ap (drop 8) eq)) h in
    let known = owner_known key owner c (part Number (decimal version.epoch) ∷ byte 46 ∷ more) eq in
    let epoch : c.version.epoch ≡ version.epoch = epoch_known version.epoch c _ has.1.1.epoch is eq refl in
    let seq : c.version.seq ≡ version.seq = (decimal_one bytes c.version.seq version.seq first.0 r (omega (arith, is.seq)) (omega arith)
    first.1 begins).0 in
    none (known_body key owner version c known.0 known.1 (version_is c.version version epoch seq) is))

pub seq_then : (key : Key) (owner bytes r : List ℕ) (version : Version) (result : Result (ChangeRecord × ℕ) PartFault) →
    version.seq < 2 ^ 32 →
    Begins is_ascii_digit bytes (decimal version.seq) r → ReadsChange (after_seq key owner version) r result →
    ReadsChange (up_to_seq key owner version.epoch) bytes result
seq_then key owner bytes r version result fits begins k =
    read_on (up_to_seq key owner version.epoch) (part Number (decimal version.seq)) bytes r result (version.seq, omega arith, refl)
    (seq_comes key owner version.epoch) begins k

pub mark_space_missing : (key : Key) (owner bytes : List ℕ) (version : Version) (stop : PartFault) → HasBody key owner version →
    stop ≡ BadPart (length bytes) →
    ((rest : List ℕ) → bytes ≢ 32 ∷ rest) → ReadsChange (after_seq key owner version) bytes (Err stop)
mark_space_missing key owner bytes version stop has at none =
    missing (after_seq key owner version) Byte bytes stop (change_of key owner version has.0)
    (drop 9 (change_parts (change_of key owner version has.0))) has.1 refl (mark_space_comes key owner version) at
    (λ c more after is eq h. let first = subst (λ (x : List Part). Stand 1 x bytes after) (sym (ap (drop 9) eq)) h in
    none first.0 first.1.parts)

pub mark_space_then : (key : Key) (owner bytes r : List ℕ) (version : Version) (result : Result (ChangeRecord × ℕ) PartFault) →
    bytes ≡ 32 ∷ r →
    ReadsChange (up_to_mark key owner version) r result → ReadsChange (after_seq key owner version) bytes result
mark_space_then key owner bytes r version result is k =
    read_on (after_seq key owner version) space bytes r result refl (mark_space_comes key owner version) (byte_begins 32 bytes r is) k

-- The parts up to the mark determine all but the body.
pub version_known : (key : Key) (owner : List ℕ) (version : Version) (c : ChangeRecord) (more : List Part) → version.epoch ≤ 2097151 →
    version.seq < 2 ^ 32 → IsChange c → change_parts c ≡ up_to_mark key owner version ++ more
    → IsChange (change_of key owner version c.body) × (drop 10 (change_parts c) ≡ more)
version_known key owner version c more most fits is eq =
    let known = owner_known key owner c (part Number (decimal version.epoch) ∷ byte 46 ∷ part Number (decimal version.seq) ∷ space ∷ more)
    eq in
    let epoch : c.version.epoch ≡ version.epoch = epoch_known version.epoch c _ most is eq refl in
    let seq : c.version.seq ≡ version.seq = seq_known version.seq c _ fits is eq refl in
    let v = version_is c.version version epoch seq in
    let of_version : IsChange (change_of c.key c.owner version c.body) =
    subst (λ (x : Version). IsChange (change_of c.key c.owner x c.body)) v is in
    let of_owner : IsChange (change_of c.key owner version c.body) =
    subst (λ (x : List ℕ). IsChange (change_of c.key x version c.body)) known.1 of_version in
    (subst (λ (x : Key). IsChange (change_of x owner version c.body)) known.0 of_owner, ap (drop 10) eq)
