use Rattle.std.proofs.Common.{◌≡◌, ◌≤◌, true, length, sym, ◌∙◌, arith}
use Rattle.std.proofs.lemmas.Result.{err_from_is_err_and}
use Rattle.ds_pattern.specs.Under.{is_printable, is_regex}
use Rattle.ds_pattern.proofs.RegexLemmas.{fault_alone, fault_whole}
use Rattle.ds_pattern.proofs.pattern.Pattern.read.Goals as goal

pub returns-in_err-judge-clause-refused : goal.returns-in_err-judge-clause-refused
returns-in_err-judge-clause-refused c =
    let exit = err_from_is_err_and c.from_residual.result c.from_residual.ensures.1 in
    let p = c.bytes-bytes.result.now in
    let short : length p ≤ 128 = omega arith in
    let printable : is_printable p ≡ true = sym c.is_printable.ensures ∙ c.if-not-is_printable.false in
    rw (exit.1, exit.2) (rw c.bytes-bytes.ensures at
    (fault_alone p c.in_err-judge.field-0.0 short printable (rw c.text_of-text.ensures at c.in_err-judge.ensures.refused)))

pub returns-in_err-whole-clause-refused : goal.returns-in_err-whole-clause-refused
returns-in_err-whole-clause-refused c =
    let exit = err_from_is_err_and c.from_residual-in_err-whole.result c.from_residual-in_err-whole.ensures.1 in
    let p = c.bytes-bytes.result.now in
    let short : length p ≤ 128 = omega arith in
    let printable : is_printable p ≡ true = sym c.is_printable.ensures ∙ c.if-not-is_printable.false in
    let alone : is_regex p ≡ true = rw c.text_of-text.ensures at c.in_ok-judge.ensures.ok in
    rw (exit.1, exit.2) (rw c.bytes-bytes.ensures at
    (fault_whole p c.in_err-whole.field-0.0 short printable alone (rw c.text_of-text.ensures at c.in_err-whole.ensures.refused)))
