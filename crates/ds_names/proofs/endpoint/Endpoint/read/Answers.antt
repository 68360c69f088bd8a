use Rattle.std.proofs.Common.{◌≡◌, ◌∙◌, sym, [], length, refl, arith}
use Rattle.std.proofs.lemmas.List.{append-nil}
use Rattle.std.proofs.lemmas.Bool.Decides.{nat_tests}
use Rattle.ds_names.specs.Endpoint.{endpoint_text, endpoint_of}
use Rattle.ds_names.proofs.DecimalLemmas.{endpoint_one}
use Rattle.ds_names.proofs.endpoint.Endpoint.read.Goals as goal

pub returns-then-not-is_empty-clause-none : goal.returns-then-not-is_empty-clause-none
returns-then-not-is_empty-clause-none c = λ e valid same.
    let read = endpoint_of c.in-Some.generation c.in-Some.slot in
    let one = endpoint_one c.args.bytes.now read e c.in-Some.rest.now [] c.in-Some.ensures.valid valid c.in-Some.ensures.found
    (record { parts = same ∙ sym (append-nil (endpoint_text e)); ends = tt }) in
    let none : length c.in-Some.rest.now ≡ 0 = rw one.1 refl in
    grind (arith, nat_tests)
