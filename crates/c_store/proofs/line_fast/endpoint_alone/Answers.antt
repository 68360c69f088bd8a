use Rattle.c_store.proofs.FastLemmas.{alone}
use Rattle.c_store.proofs.line_fast.endpoint_alone.Goals as goal

pub returns-then-is_end : goal.returns-then-is_end
returns-then-is_end c =
    alone c.in-Some.generation c.in-Some.slot c.args.bytes.now c.in-Some.rest.now c.in-Some.ensures.found c.in-Some.ensures.valid
    (c.is_end.ensures c.if-is_end.true) c.endpoint.result c.endpoint.ensures
