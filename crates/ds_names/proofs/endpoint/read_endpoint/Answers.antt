use Rattle.std.proofs.Common.{sym, ◌∙◌, ap, drop}
use Rattle.ds_names.proofs.DecimalLemmas.{endpoint_after, endpoint_parts}
use Rattle.ds_names.proofs.endpoint.read_endpoint.Goals as goal

pub returns-in_err-rest-clause-none : goal.returns-in_err-rest-clause-none
returns-in_err-rest-clause-none c = rw c.from_residual-in_err-rest.ensures (λ a rest va h.
    let after = endpoint_after c.args.bytes.now c.in_ok-generation.generation c.in_ok-generation.rest.now a rest
    c.in_ok-generation.ensures.limit c.in_ok-generation.ensures.found va h in
    c.in_err-rest.ensures.none _ after.1)

pub returns-in_err-slot-clause-none : goal.returns-in_err-slot-clause-none
returns-in_err-slot-clause-none c = rw c.from_residual-in_err-slot.ensures (λ a rest va h.
    let after = endpoint_after c.args.bytes.now c.in_ok-generation.generation c.in_ok-generation.rest.now a rest
    c.in_ok-generation.ensures.limit c.in_ok-generation.ensures.found va h in
    let past = ap (drop 1) (sym c.in_ok-rest.ensures.found ∙ after.1) in
    c.in_err-slot.ensures.none a.slot rest va.slot (rw past (endpoint_parts c.args.bytes.now a rest h).1))
