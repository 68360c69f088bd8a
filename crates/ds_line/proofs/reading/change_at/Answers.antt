use Rattle.std.proofs.Common.{[], Err}
use Rattle.ds_names.specs.declared.key.Key.{Key}
use Rattle.ds_line.specs.Reading.{up_to_kind}
use Rattle.ds_line.proofs.ReadLemmas.{into_on}
use Rattle.ds_line.proofs.AnswerLemmas.{is_false}
use Rattle.ds_line.proofs.OpeningLemmas.{name_missing, name_then, name_space_missing, name_space_then, kind_missing, kind_refused, key_read}
use Rattle.ds_line.proofs.reading.change_at.Goals as goal

pub returns-in_default : goal.returns-in_default
returns-in_default c = name_missing c.args.bytes.now c.stop_at.result c.stop_at.ensures c.in_default.ensures.none

pub returns-in_default-read_byte : goal.returns-in_default-read_byte
returns-in_default-read_byte c =
    name_then c.read_front.new.self c.args.bytes.now c.in-Some.rest.now (Err c.stop_at-in_default-read_byte.result) c.in-Some.ensures.name
    c.in-Some.ensures.found
    (name_space_missing c.read_front.new.self c.in-Some.rest.now c.stop_at-in_default-read_byte.result c.in-Some.ensures.name
    c.stop_at-in_default-read_byte.ensures c.in_default-read_byte.ensures.none)

pub returns-in_default-kind_at : goal.returns-in_default-kind_at
returns-in_default-kind_at c =
    name_space_then c.read_front.new.self c.args.bytes.now c.in-Some.rest.now c.in-Some-read_byte.at.now
    (Err c.stop_at-in_default-kind_at.result) c.in-Some.ensures.name c.in-Some.ensures.found c.in-Some-read_byte.ensures.found
    (kind_missing c.read_front.new.self c.in-Some-read_byte.at.now c.stop_at-in_default-kind_at.result c.in-Some.ensures.name
    c.stop_at-in_default-kind_at.ensures c.in_default-kind_at.ensures.none)

pub returns-then-not-has_owner : goal.returns-then-not-has_owner
returns-then-not-has_owner c =
    name_space_then c.read_front.new.self c.args.bytes.now c.in-Some.rest.now c.in-Some-read_byte.at.now
    (Err c.stop_at-then-not-has_owner.result) c.in-Some.ensures.name c.in-Some.ensures.found c.in-Some-read_byte.ensures.found
    (kind_refused (record { name = c.read_front.new.self; kind = c.in-Some-kind_at.kind }) c.in-Some-read_byte.at.now
    c.in-Some-kind_at.rest.now c.stop_at-then-not-has_owner.result
    c.in-Some.ensures.name c.stop_at-then-not-has_owner.ensures c.in-Some-kind_at.ensures.found
    (λ has. is_false c.has_owner.result c.if-not-has_owner.true (c.has_owner.ensures.1 has)))

pub returns : goal.returns
returns c =
    let key : Key = record { name = c.read_front.new.self; kind = c.in-Some-kind_at.kind } in
    into_on [] (up_to_kind key) c.args.bytes.now c.in-Some-kind_at.rest.now c.owner_at.result c.owner_at.new.slot
    (λ given k. key_read key c.args.bytes.now c.in-Some.rest.now c.in-Some-read_byte.at.now c.in-Some-kind_at.rest.now given
    c.in-Some.ensures.name c.in-Some.ensures.found c.in-Some-read_byte.ensures.found c.in-Some-kind_at.ensures.found k)
    c.owner_at.ensures
