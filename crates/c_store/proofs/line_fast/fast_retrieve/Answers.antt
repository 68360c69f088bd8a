use Rattle.std.proofs.Common.{take, suc, sym, ◌∙◌, arith}
use Rattle.std.proofs.lemmas.List.{take_all, length-take-le}
use Rattle.c_store.proofs.FastLemmas.{of_key}
use Rattle.c_store.proofs.line_fast.fast_retrieve.Goals as goal

-- the newline is the last byte
pub returns-else-place-gt-LONGEST_LINE : goal.returns-else-place-gt-LONGEST_LINE
returns-else-place-gt-LONGEST_LINE c =
    let bytes = c.args.bytes.now in
    let place = c.in-Some.place in
    of_key bytes (take place bytes) c.in-Some.ensures.line
    (sym (take_all (suc place) bytes (omega (arith, c.if-place-bytes.false))) ∙ c.in-Some.ensures.parts)
    (omega (arith, length-take-le place bytes, c.in-Some.ensures.within, c.if-place-gt-LONGEST_LINE.false)) c.read_key.result
    c.read_key.ensures
