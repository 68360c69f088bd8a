use Rattle.std.proofs.Common.{◌≡◌, take, refl, sym, subst}
use Rattle.ds_names.specs.Run.{Begins}
use Rattle.ds_names.specs.declared.kind.Kind.TheVariants.{Str}
use Rattle.ds_entry.specs.declared.body.Value.TheVariants as values
use Rattle.ds_line.specs.Part.{Quoted, run_of}
use Rattle.ds_line.specs.Spelling.{quoted}
use Rattle.ds_line.proofs.LastValueLemmas.{text_missing, text_lacks_room, end_missing, value_whole, stops_value}
use Rattle.ds_line.proofs.last_value.text_at.Goals as goal

pub returns-in_default-clause-stop : goal.returns-in_default-clause-stop
returns-in_default-clause-stop c = stops_value Str c.stop_at.result c.args.bytes.now c.args.bytes.now c.stop_at.ensures
    (text_missing c.args.bytes.now c.in_default.ensures.none)

pub returns-in_default-read_byte-clause-stop : goal.returns-in_default-read_byte-clause-stop
returns-in_default-read_byte-clause-stop c =
    let text = take c.in-Some.len c.quoted_at.new.block in
    stops_value Str c.stop_at-in_default-read_byte.result c.args.bytes.now c.in-Some.rest.now c.stop_at-in_default-read_byte.ensures
    (end_missing Str (values.Str text) c.args.bytes.now c.in-Some.rest.now (record { valid = c.in-Some.ensures.valid; of = refl })
    c.in-Some.ensures.found c.in_default-read_byte.ensures.none)

pub returns-in-Ok-clause-found : goal.returns-in-Ok-clause-found
returns-in-Ok-clause-found c =
    let same : c.in-Ok.text ≡ take c.in-Some.len c.quoted_at.new.block = c.in-Ok.ensures.found in
    let begins = subst (λ t. Begins (run_of Quoted) c.args.bytes.now (quoted t) c.in-Some.rest.now) (sym same) c.in-Some.ensures.found in
    value_whole Str (values.Str c.in-Ok.text) c.args.bytes.now c.in-Some.rest.now c.in-Some-read_byte.rest.now
    (record { valid = c.in-Ok.ensures.valid; of = refl }) begins c.in-Some-read_byte.ensures.found

pub returns-in-Err-clause-stop : goal.returns-in-Err-clause-stop
returns-in-Err-clause-stop c =
    let text = take c.in-Some.len c.quoted_at.new.block in (
      values.Str text,
      c.in-Some-read_byte.rest.now,
      value_whole Str (values.Str text) c.args.bytes.now c.in-Some.rest.now c.in-Some-read_byte.rest.now
          (record { valid = c.in-Some.ensures.valid; of = refl }) c.in-Some.ensures.found c.in-Some-read_byte.ensures.found,
      c.in-Err.ensures.room (text_lacks_room c.in-Err.field-0 text c.in-Some.ensures.valid c.in-Err.ensures.refused),
    )
