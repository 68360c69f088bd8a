use Rattle.std.proofs.Common.{arith}
use Rattle.c_store.proofs.FastLemmas.{of_name}
use Rattle.c_store.proofs.line_fast.fast_name_of.Goals as goal

pub returns-in-Some : goal.returns-in-Some
returns-in-Some c =
    of_name c.args.bytes.now c.in-Some.after.now (omega (arith, c.if-bytes-gt-LONGEST_LINE.false)) c.in-Some.ensures
    c.endpoint_alone.result c.endpoint_alone.ensures
