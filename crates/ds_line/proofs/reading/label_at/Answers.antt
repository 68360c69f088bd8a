use Rattle.std.proofs.Common.{◌≡◌, ◌∙◌, sym, ap, subst, arith}
use Rattle.std.specs.Char.{is_ascii_digit}
use Rattle.ds_names.specs.Endpoint.{EndpointRecord, IsEndpoint, endpoint_of, endpoint_text}
use Rattle.ds_names.specs.Run.{Begins}
use Rattle.ds_names.proofs.DecimalLemmas.{endpoint_one}
use Rattle.ds_entry.specs.declared.body.Value.TheVariants as values
use Rattle.ds_line.proofs.BodyLemmas.{endpoint_missing, endpoint_put, put_end_missing, put_whole}
use Rattle.ds_line.proofs.reading.label_at.Goals as goal

pub returns-in_default : goal.returns-in_default
returns-in_default c = endpoint_missing c.args.key.now c.args.owner.now c.args.version c.args.bytes.now c.stop_at.result c.requires.kind
    c.requires.value c.stop_at.ensures (λ e rest is gen h. c.in_default.ensures.none e rest is h)

pub returns-then-generation-number : goal.returns-then-generation-number
returns-then-generation-number c =
    endpoint_missing c.args.key.now c.args.owner.now c.args.version c.args.bytes.now c.stop_at-then-generation-number.result
    c.requires.kind c.requires.value c.stop_at-then-generation-number.ensures (λ e rest is gen h.
    let one = endpoint_one c.args.bytes.now (endpoint_of c.in-Some.generation c.in-Some.slot) e c.in-Some.rest.now rest
    c.in-Some.ensures.valid is c.in-Some.ensures.found h in
    let same : c.in-Some.generation ≡ c.args.version.epoch = ap (λ (x : EndpointRecord). x.generation) one.0 ∙ gen in
    omega (arith, same, c.if-generation-number.true, c.number.ensures.value))

pub returns-in_default-read_byte : goal.returns-in_default-read_byte
returns-in_default-read_byte c =
    let same : c.in-Some.generation ≡ c.args.version.epoch = omega (arith, c.if-generation-number.false, c.number.ensures.value) in
    put_end_missing c.args.key.now c.args.owner.now c.args.version (values.Label (endpoint_of c.in-Some.generation c.in-Some.slot))
    c.args.bytes.now c.in-Some.rest.now c.stop_at-in_default-read_byte.result
    (endpoint_put c.args.key.now c.args.owner.now c.args.version (endpoint_of c.in-Some.generation c.in-Some.slot) c.requires.kind
    c.requires.value c.in-Some.ensures.valid same)
    c.in-Some.ensures.found c.stop_at-in_default-read_byte.ensures c.in_default-read_byte.ensures.none

pub returns : goal.returns
returns c =
    let same : c.in-Some.generation ≡ c.args.version.epoch = omega (arith, c.if-generation-number.false, c.number.ensures.value) in
    let of_numbers : endpoint_of c.in-Some.generation c.in-Some.slot ≡ c.in-Some-of.endpoint =
    ap (λ n. endpoint_of n c.in-Some.slot) same ∙ sym c.in-Some-of.ensures.1 in
    let is : IsEndpoint c.in-Some-of.endpoint = subst IsEndpoint of_numbers c.in-Some.ensures.valid in
    let begins = subst (λ (e : EndpointRecord). Begins is_ascii_digit c.args.bytes.now (endpoint_text e) c.in-Some.rest.now) of_numbers
    c.in-Some.ensures.found in
    put_whole c.args.key.now c.args.owner.now c.args.version (values.Label c.in-Some-of.endpoint) c.args.bytes.now c.in-Some.rest.now
    c.in-Some-read_byte.rest.now
    (endpoint_put c.args.key.now c.args.owner.now c.args.version c.in-Some-of.endpoint c.requires.kind c.requires.value is
    (ap (λ (x : EndpointRecord). x.generation) c.in-Some-of.ensures.1)) begins c.in-Some-read_byte.ensures.found
