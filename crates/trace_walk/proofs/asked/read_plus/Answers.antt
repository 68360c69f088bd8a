use Rattle.std.proofs.Common.{◌∙◌, [], sym, subst, append-nil}
use Rattle.std.proofs.lemmas.Bool.{false≢true}
use Rattle.ds_line.specs.ItemFault.{IsItemFaultIn}
use Rattle.ds_line.specs.ItemSpelling.{item_spelling}
use Rattle.ds_line.specs.declared.fault.LineFault.{LineFault}
use Rattle.trace_walk.specs.Text.{Carries}
use Rattle.trace_walk.proofs.AskedLemmas.{plus_one, after_plus}
use Rattle.trace_walk.proofs.asked.read_plus.Goals as goal

pub returns-then-used-text-clause-none : goal.returns-then-used-text-clause-none
returns-then-used-text-clause-none c = λ _ item may at.
    let whole = after_plus c.args.line.now c.in-Some.text.now c.in-Some-read_byte.text.now item c.in-Some.ensures.found
    c.in-Some-read_byte.ensures.found at in
    c.if-used-text.true (plus_one c.in-Some-read_byte.text.now c.in-Ok.item item c.in-Ok.used c.in-Ok.ensures.line may.0
    c.in-Ok.ensures.found c.in-Ok.ensures.length whole).1

pub returns-then-not-may_carry-clause-none : goal.returns-then-not-may_carry-clause-none
returns-then-not-may_carry-clause-none c = λ _ item may at.
    let whole = after_plus c.args.line.now c.in-Some.text.now c.in-Some-read_byte.text.now item c.in-Some.ensures.found
    c.in-Some-read_byte.ensures.found at in
    let one = plus_one c.in-Some-read_byte.text.now c.in-Ok.item item c.in-Ok.used c.in-Ok.ensures.line may.0 c.in-Ok.ensures.found
    c.in-Ok.ensures.length whole in
    false≢true (c.if-not-may_carry.ensures.1 (subst (Carries c.args.format) (sym one.0) may.1))

pub returns-in-Err-BadLine-clause-none : goal.returns-in-Err-BadLine-clause-none
returns-in-Err-BadLine-clause-none c = λ _ item may at.
    let fault = subst (λ (x : LineFault). IsItemFaultIn x c.in-Some-read_byte.text.now) c.in-Err-BadLine.field-0-is
    c.in-Err-BadLine.ensures.fault in
    let whole = after_plus c.args.line.now c.in-Some.text.now c.in-Some-read_byte.text.now item c.in-Some.ensures.found
    c.in-Some-read_byte.ensures.found at in
    fault.none item [] may.0 (whole ∙ sym (append-nil (item_spelling item)))
