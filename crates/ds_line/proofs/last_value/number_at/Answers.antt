use Rattle.std.proofs.Common.{◌<◌, ◌^◌, refl, arith}
use Rattle.ds_names.specs.declared.kind.Kind.TheVariants.{U32}
use Rattle.ds_entry.specs.declared.body.Value.TheVariants as values
use Rattle.ds_line.proofs.LastValueLemmas.{number_missing, end_missing, value_whole, stops_value}
use Rattle.ds_line.proofs.last_value.number_at.Goals as goal

pub returns-in_default-clause-stop : goal.returns-in_default-clause-stop
returns-in_default-clause-stop c = stops_value U32 c.stop_at.result c.args.bytes.now c.args.bytes.now c.stop_at.ensures
    (number_missing c.args.bytes.now c.in_default.ensures.none)

pub returns-in_default-read_byte-clause-stop : goal.returns-in_default-read_byte-clause-stop
returns-in_default-read_byte-clause-stop c =
    let fits : c.in-Some.number < 2 ^ 32 = omega (arith, c.in-Some.ensures.limit) in
    stops_value U32 c.stop_at-in_default-read_byte.result c.args.bytes.now c.in-Some.rest.now c.stop_at-in_default-read_byte.ensures
    (end_missing U32 (values.U32 c.in-Some.number) c.args.bytes.now c.in-Some.rest.now (record { valid = fits; of = refl })
    c.in-Some.ensures.found c.in_default-read_byte.ensures.none)

pub returns-clause-found : goal.returns-clause-found
returns-clause-found c =
    let fits : c.in-Some.number < 2 ^ 32 = omega (arith, c.in-Some.ensures.limit) in
    value_whole U32 (values.U32 c.in-Some.number) c.args.bytes.now c.in-Some.rest.now c.in-Some-read_byte.rest.now
    (record { valid = fits; of = refl }) c.in-Some.ensures.found c.in-Some-read_byte.ensures.found
