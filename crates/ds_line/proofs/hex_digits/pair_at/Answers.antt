use Rattle.std.proofs.Common.{◌≡◌, ◌≢◌, ℕ, ◌+◌, ◌++◌, ◌∷◌, [], ◌<◌, List, length, sym, ap, ◌∙◌, arith}
use Rattle.hex.specs.Hex.{encode_lower}
use Rattle.ds_line.proofs.HexLemmas.{too_short, pair_written, pair_is}
use Rattle.ds_line.proofs.hex_digits.pair_at.Goals as goal
use Rattle.ds_line.proofs.hex_digits.pair_at.Goals.{then-high-gt15-via-then-high-gt15, then-high-gt15-via-else-high-gt15+then-low-gt15}

pub returns-in_err-high-clause-none : goal.returns-in_err-high-clause-none
returns-in_err-high-clause-none c =
    let none : (b : ℕ) (rest : List ℕ) → b < 256 → c.args.bytes.now ≢ encode_lower (b ∷ []) ++ rest = λ b rest lt is.
    too_short c.args.bytes.now b rest (omega (arith, c.in_err-high.ensures.cases)) is in
    rw c.from_residual.ensures none

pub returns-in_err-low-clause-none : goal.returns-in_err-low-clause-none
returns-in_err-low-clause-none c =
    let one : length c.args.bytes.now ≡ length c.in_ok-high.rest.now + 1 = ap length c.in_ok-high.ensures.cases.0 ∙ omega arith in
    let none : (b : ℕ) (rest : List ℕ) → b < 256 → c.args.bytes.now ≢ encode_lower (b ∷ []) ++ rest = λ b rest lt is.
    too_short c.args.bytes.now b rest (omega (arith, one, c.in_err-low.ensures.cases)) is in
    rw c.from_residual-in_err-low.ensures none

pub returns-then-high-gt15-clause-none : goal.returns-then-high-gt15-clause-none
returns-then-high-gt15-clause-none c = λ b rest lt is.
    let digits = pair_written c.in_ok-high.high.now c.in_ok-low.low.now b c.in_ok-low.rest.now rest lt
    (sym (c.in_ok-high.ensures.cases.0 ∙ ap (λ (t : List ℕ). c.in_ok-high.high.now ∷ t) c.in_ok-low.ensures.cases.0) ∙ is) in
    let high : c.number_of-high.result < 16 = c.number_of-high.ensures.digit.0 digits.0 in
    let low : c.number_of-low.result < 16 = c.number_of-low.ensures.digit.0 digits.1 in
    elim c.then-high-gt15.branch [
      | then-high-gt15-via-then-high-gt15 w ↦ omega (arith, high, w.if-high-gt15.true)
      | then-high-gt15-via-else-high-gt15+then-low-gt15 w ↦ omega (arith, low, w.if-low-gt15.true)
    ]

pub returns-clause-found : goal.returns-clause-found
returns-clause-found c =
    let high : c.number_of-high.result < 16 = omega (arith, c.if-high-gt15.false) in
    let low : c.number_of-low.result < 16 = omega (arith, c.if-low-gt15.false) in
    (c.in_ok-high.ensures.cases.0 ∙ ap (λ (t : List ℕ). c.in_ok-high.high.now ∷ t) c.in_ok-low.ensures.cases.0) ∙
    pair_is c.in_ok-high.high.now c.in_ok-low.low.now c.number_of-high.result c.number_of-low.result c.in_ok-low.rest.now high low
    (c.number_of-high.ensures.number high)
    (c.number_of-low.ensures.number low)
