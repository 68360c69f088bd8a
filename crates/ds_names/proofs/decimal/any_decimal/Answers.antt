use Rattle.std.proofs.Common.{◌≡◌, ℕ, ◌<◌, ◌∙◌, refl, sym, ap, get_or, length, take, drop, arith}
use Rattle.std.specs.List.{prefix_len}
use Rattle.std.specs.Char.{is_ascii_digit}
use Rattle.std.specs.Str.Parse.{digits_value}
use Rattle.std.proofs.lemmas.Bool.Decides.{nat_tests}
use Rattle.std.proofs.lemmas.List.Sums.{prefix_len-le-length}
use Rattle.ds_names.proofs.DecimalLemmas.{none_there, there}
use Rattle.ds_names.proofs.decimal.any_decimal.Goals as goal
use Rattle.ds_names.proofs.decimal.any_decimal.Goals.{then-is_empty-via-then-is_empty, then-is_empty-via-else-is_empty+then-digits-gt1}
use Rattle.ds_names.proofs.decimal.any_decimal.Goals.{then-digits-eq48, else-digits-eq48}

pub returns-in_err-number-clause-none : goal.returns-in_err-number-clause-none
returns-in_err-number-clause-none c =
    rw c.from_residual.ensures (λ n rest lt h.
    c.in_err-number.ensures (none_there c.args.bytes.now (take (prefix_len is_ascii_digit c.args.bytes.now) c.args.bytes.now) n rest refl
    lt h).2)

pub split_at-requires : goal.split_at-requires
split_at-requires c =
    let len : c.in_ok-number.len ≡ prefix_len is_ascii_digit c.args.bytes.now = ap (λ (p : ℕ × ℕ). p.1) (c.in_ok-number.ensures).1 in
    rw len (prefix_len-le-length is_ascii_digit c.args.bytes.now)

pub returns-then-is_empty-clause-none : goal.returns-then-is_empty-clause-none
returns-then-is_empty-clause-none c = λ n rest lt h.
    let len : c.in_ok-number.len ≡ prefix_len is_ascii_digit c.args.bytes.now = ap (λ (p : ℕ × ℕ). p.1) (c.in_ok-number.ensures).1 in
    let front = c.split_at.ensures.front ∙ ap (λ n. take n c.args.bytes.now) len in
    let k = none_there c.args.bytes.now c.split_at.result.0.now n rest front lt h in
    elim c.then-is_empty.branch [
      | then-is_empty-via-then-is_empty w ↦ grind (arith, nat_tests)
      | then-is_empty-via-else-is_empty+then-digits-gt1 w ↦ omega (arith, k.1 w.if-digits-gt1.true.0, w.if-digits-gt1.true.1)
    ]

pub returns-clause-found : goal.returns-clause-found
returns-clause-found c =
    let ds = c.split_at.result.0.now in
    let len : c.in_ok-number.len ≡ prefix_len is_ascii_digit c.args.bytes.now = ap (λ (p : ℕ × ℕ). p.1) (c.in_ok-number.ensures).1 in
    let front = c.split_at.ensures.front ∙ ap (λ n. take n c.args.bytes.now) len in
    let back = c.split_at.ensures.back ∙ ap (λ n. drop n c.args.bytes.now) len in
    let some : 0 < length ds = grind (arith, nat_tests) in
    let lead : get_or ds 0 0 ≡ 48 → length ds ≡ 1 = λ h. grind (arith, nat_tests) in
    let value : c.in_ok-number.number ≡ digits_value 10 ds =
    ap (λ (p : ℕ × ℕ). p.0) (c.in_ok-number.ensures).1 ∙ ap (digits_value 10) (sym front) in
    there c.args.bytes.now ds c.in_ok-number.number c.split_at.result.1.now front back some lead (rw front (c.in_ok-number.ensures).0) value
