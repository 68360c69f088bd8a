-- Filling a name's block byte by byte, and the name at the front of bytes.
use Rattle.std.proofs.Common.{◌≡◌, ℕ, suc, ◌+◌, ◌-◌, ◌<◌, ◌≤◌, true, List, [], ◌∷◌, ◌++◌, length, get_or, take, drop, replicate, sym, ap}
use Rattle.std.proofs.Common.{◌∙◌, append_assoc, append-nil, arith}
use Rattle.std.proofs.Math.ListN.{set}
use Rattle.std.specs.List.{list_all, prefix_len}
use Rattle.std.proofs.lemmas.List.{length-take-le, length-replicate, length-append, set_at, take_more, take_at, drop_at, take-append-drop}
use Rattle.std.proofs.lemmas.List.Folds.{length-prefix_len}
use Rattle.std.proofs.lemmas.List.Sums.{prefix_len-le-length}
use Rattle.ds_names.specs.Name.{is_name_byte, IsName}
use Rattle.ds_names.specs.NameBlock.{KeepsName, filled}
use Rattle.ds_names.specs.Run.{Begins}
use Rattle.ds_names.proofs.DecimalLemmas.{run_is, run_parts}

pub fill_more : (bytes : List ℕ) (i : ℕ) → i < length bytes → i < 64 → set (filled bytes i) i (get_or bytes i 0) ≡ filled bytes (i + 1)
fill_more bytes i lt fits =
    let b : ℕ = get_or bytes i 0 in
    let one : 64 - i ≡ suc (64 - (i + 1)) = omega arith in
    let zeros : replicate (64 - i) 0 ≡ 0 ∷ replicate (64 - (i + 1)) 0 = ap (λ (n : ℕ). replicate n 0) one in
    let len : length (take i bytes) ≡ i = length-take-le i bytes (omega arith) in
    ap (λ (z : List ℕ). set (take i bytes ++ z) i b) zeros
    ∙ set_at (take i bytes) 0 (replicate (64 - (i + 1)) 0) b i len
    ∙ sym (append_assoc (take i bytes) (b ∷ []) (replicate (64 - (i + 1)) 0))
    ∙ ap (λ (t : List ℕ). t ++ replicate (64 - (i + 1)) 0) (sym (take_more bytes i 0 lt))

-- the run at the front, of one byte at least, is a name that its block keeps
pub run_kept : (bytes block : List ℕ) (len : ℕ) → len ≡ prefix_len is_name_byte bytes → 0 < len → len ≤ 64 → block ≡ filled bytes len
    → (take len block ≡ take len bytes) × IsName (take len bytes) × KeepsName (record { block = block; len = len })
run_kept bytes block len run some most is =
    let within : length (take len bytes) ≡ len = length-take-le len bytes (rw run (prefix_len-le-length is_name_byte bytes)) in
    let good : list_all is_name_byte (take len bytes) ≡ true = rw run (run_parts is_name_byte bytes).0 in
    let name : IsName (take len bytes) = record { some = rw within some; limit = rw within most; allowed = good } in
    let front : take len block ≡ take len bytes = ap (take len) is ∙ take_at (take len bytes) (replicate (64 - len) 0) len within in
    let past : drop len block ≡ replicate (64 - len) 0 = ap (drop len) is ∙ drop_at (take len bytes) (replicate (64 - len) 0) len within in
    let long : length block ≡ 64 = ap length is ∙ length-append (take len bytes) (replicate (64 - len) 0) ∙
    ap (λ (n : ℕ). length (take len bytes) + n) (length-replicate (64 - len) 0) ∙ omega (arith, within, most) in
    (front, name, record { whole = long; fits = most; name = rw front name; zeros = past })

-- The bytes begin with their leading run.
pub run_begins : (bytes name : List ℕ) → name ≡ take (prefix_len is_name_byte bytes) bytes →
    Begins is_name_byte bytes name (drop (length name) bytes)
run_begins bytes name is =
    let n : ℕ = prefix_len is_name_byte bytes in
    let len : length name ≡ n = ap length is ∙ length-prefix_len is_name_byte bytes in
    record {
      parts = rw (is, length-prefix_len is_name_byte bytes) (sym (take-append-drop n bytes));
      ends =
          rw len (run_parts is_name_byte bytes).1;
    }

-- A name at the front is the leading run.
pub name_is_run : (bytes name rest : List ℕ) → IsName name → Begins is_name_byte bytes name rest →
    prefix_len is_name_byte bytes ≡ length name
name_is_run bytes name rest is begins = ap (prefix_len is_name_byte) begins.parts ∙ run_is is_name_byte name rest is.allowed begins.ends

-- a name begins itself
pub name_begins : (name : List ℕ) → Begins is_name_byte name name []
name_begins name = record { parts = sym (append-nil name); ends = tt }
