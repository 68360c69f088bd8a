use Rattle.std.proofs.Common.{refl}
use Rattle.ds_names.specs.declared.kind.Kind.TheVariants.{Label}
use Rattle.ds_entry.specs.declared.body.Value.TheVariants as values
use Rattle.ds_line.proofs.LastValueLemmas.{endpoint_missing, end_missing, value_whole, stops_value}
use Rattle.ds_line.proofs.last_value.label_at.Goals as goal

pub returns-in_default-clause-stop : goal.returns-in_default-clause-stop
returns-in_default-clause-stop c = stops_value Label c.stop_at.result c.args.bytes.now c.args.bytes.now c.stop_at.ensures
    (endpoint_missing c.args.bytes.now c.in_default.ensures.none)

pub returns-in_default-read_byte-clause-stop : goal.returns-in_default-read_byte-clause-stop
returns-in_default-read_byte-clause-stop c =
    let endpoint = c.in-Some.read.0 in
    let rest = c.in-Some.read.1.now in
    stops_value Label c.stop_at-in_default-read_byte.result c.args.bytes.now rest c.stop_at-in_default-read_byte.ensures
    (end_missing Label (values.Label endpoint) c.args.bytes.now rest (record { valid = c.in-Some.ensures.valid; of = refl })
    c.in-Some.ensures.found c.in_default-read_byte.ensures.none)

pub returns-clause-found : goal.returns-clause-found
returns-clause-found c =
    let endpoint = c.in-Some.read.0 in
    let rest = c.in-Some.read.1.now in
    value_whole Label (values.Label endpoint) c.args.bytes.now rest c.in-Some-read_byte.rest.now
    (record { valid = c.in-Some.ensures.valid; of = refl }) c.in-Some.ensures.found c.in-Some-read_byte.ensures.found
