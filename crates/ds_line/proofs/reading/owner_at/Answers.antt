use Rattle.std.proofs.Common.{Err}
use Rattle.ds_line.specs.Reading.{up_to_kind, up_to_epoch}
use Rattle.ds_line.proofs.ReadLemmas.{into_on}
use Rattle.ds_line.proofs.AnswerLemmas.{is_false}
use Rattle.ds_line.proofs.OpeningLemmas.{owner_space_missing, owner_space_then, owner_missing, owner_refused, owner_then}
use Rattle.ds_line.proofs.OpeningLemmas.{epoch_space_missing, epoch_space_then}
use Rattle.ds_line.proofs.reading.owner_at.Goals as goal

pub returns-in_default : goal.returns-in_default
returns-in_default c = owner_space_missing c.args.key.now c.args.bytes.now c.stop_at.result c.requires c.stop_at.ensures
    c.in_default.ensures.none

pub returns-in_default-read_front : goal.returns-in_default-read_front
returns-in_default-read_front c =
    owner_space_then c.args.key.now c.args.bytes.now c.in-Some.at.now (Err c.stop_at-in_default-read_front.result) c.in-Some.ensures.found
    (owner_missing c.args.key.now c.in-Some.at.now c.stop_at-in_default-read_front.result c.requires
    c.stop_at-in_default-read_front.ensures c.in_default-read_front.ensures.none)

pub returns-then-not-has_version : goal.returns-then-not-has_version
returns-then-not-has_version c =
    owner_space_then c.args.key.now c.args.bytes.now c.in-Some.at.now (Err c.stop_at-then-not-has_version.result) c.in-Some.ensures.found
    (owner_refused c.args.key.now c.read_front.new.self c.in-Some.at.now _ c.stop_at-then-not-has_version.result c.requires
    c.stop_at-then-not-has_version.ensures
    c.in-Some-read_front.ensures.name c.in-Some-read_front.ensures.found
    (λ has. is_false c.has_version.result c.if-not-has_version.true (c.has_version.ensures.1 has)))

pub returns-in_default-read_byte : goal.returns-in_default-read_byte
returns-in_default-read_byte c =
    owner_space_then c.args.key.now c.args.bytes.now c.in-Some.at.now (Err c.stop_at-in_default-read_byte.result) c.in-Some.ensures.found
    (owner_then c.args.key.now c.read_front.new.self c.in-Some.at.now c.in-Some-read_front.rest.now
    (Err c.stop_at-in_default-read_byte.result) c.in-Some-read_front.ensures.name c.in-Some-read_front.ensures.found
    (epoch_space_missing c.args.key.now c.read_front.new.self c.in-Some-read_front.rest.now c.stop_at-in_default-read_byte.result
    (c.has_version.ensures.0 c.if-not-has_version.false) c.stop_at-in_default-read_byte.ensures c.in_default-read_byte.ensures.none))

pub returns : goal.returns
returns c =
    into_on (up_to_kind c.args.key.now) (up_to_epoch c.args.key.now c.read_front.new.self) c.args.bytes.now c.in-Some-read_byte.rest.now
    c.version_at.result c.version_at.new.slot
    (λ given k. owner_space_then c.args.key.now c.args.bytes.now c.in-Some.at.now given c.in-Some.ensures.found
    (owner_then c.args.key.now c.read_front.new.self c.in-Some.at.now c.in-Some-read_front.rest.now given c.in-Some-read_front.ensures.name
    c.in-Some-read_front.ensures.found
    (epoch_space_then c.args.key.now c.read_front.new.self c.in-Some-read_front.rest.now c.in-Some-read_byte.rest.now given
    c.in-Some-read_byte.ensures.found k)))
    c.version_at.ensures
