-- The lines of masks.
use Rattle.std.proofs.Common.{◌≡◌, ℕ, ◌-◌, ◌/◌, ◌<◌, if◌then◌else◌, inl, inr, Bool, List, [], ◌++◌, drop, codes, Result, OnOk, refl, sym}
use Rattle.std.proofs.Common.{ap, subst, ◌∙◌, arith}
use Rattle.std.specs.Int.{w128, to_be_bytes, bytes_high_first}
use Rattle.std.proofs.lemmas.Bool.{ne_eqb}
use Rattle.hex.specs.Hex.{encode_lower}
use Rattle.ds_held.specs.Limits.{LimitsRecord, IsLimits}
use Rattle.line_io.specs.Lines.{with_newline}
use Rattle.script_answers.specs.Reply.{mask_hex, owed_line}
use Rattle.script_answers.proofs.ResultLemmas.{on_ok}

abbrev AreLowest : ℕ → LimitsRecord → Type 0
AreLowest mask l = drop (16 - l.subs / 8) (to_be_bytes w128 mask) ≡ bytes_high_first (l.subs / 8) mask

-- the last bytes of a mask are those of the limits
lowest_bytes : (l : LimitsRecord) (mask : ℕ) → IsLimits l → AreLowest mask l
lowest_bytes l mask is =
    elim is [
      | inl small ↦ subst (AreLowest mask) (sym small) refl
      | inr large ↦ subst (AreLowest mask) (sym large) refl
    ]

-- a mask that isn't 0 has a line
some_owed : (l : LimitsRecord) (mask : ℕ) → 0 < mask → owed_line l mask ≡ with_newline (codes "owed " ++ mask_hex l mask)
some_owed l mask some = ap (λ (b : Bool). if b then [] else with_newline (codes "owed " ++ mask_hex l mask))
    (ne_eqb mask 0 (λ same. omega (arith, same, some)))

-- the line is written
pub mask_written : {T E : Type 0} (r : Result T E) (new old : List ℕ) (l : LimitsRecord) (mask subs : ℕ) (bytes : List ℕ) → IsLimits l →
    subs ≡ l.subs → bytes ≡ to_be_bytes w128 mask → 0 < mask
    → OnOk r (new ≡ old ++ with_newline (codes "owed " ++ encode_lower (drop (16 - subs / 8) bytes))) →
    OnOk r (new ≡ old ++ owed_line l mask)
mask_written r new old l mask subs bytes is count are some h =
    let last : drop (16 - subs / 8) bytes ≡ bytes_high_first (l.subs / 8) mask =
    ap (λ (n : ℕ). drop (16 - n / 8) bytes) count ∙ ap (λ (b : List ℕ). drop (16 - l.subs / 8) b) are ∙ lowest_bytes l mask is in
    on_ok r (λ same. same ∙ ap (λ (b : List ℕ). old ++ with_newline (codes "owed " ++ encode_lower b)) last ∙
    ap (λ (t : List ℕ). old ++ t) (sym (some_owed l mask some))) h
