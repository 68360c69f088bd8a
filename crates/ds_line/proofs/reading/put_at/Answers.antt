use Rattle.ds_line.specs.Reading.{with_body}
use Rattle.ds_line.proofs.BodyLemmas.{value_space_missing, value_space_then}
use Rattle.ds_line.proofs.reading.put_at.Goals as goal

pub returns-in_default : goal.returns-in_default
returns-in_default c = value_space_missing c.args.key.now c.args.owner.now c.args.version c.args.bytes.now c.stop_at.result c.requires
    c.stop_at.ensures c.in_default.ensures.none

pub returns-then-is_label : goal.returns-then-is_label
returns-then-is_label c = value_space_then c.args.key.now c.args.owner.now c.args.version c.args.bytes.now c.in-Some.rest.now
    (with_body c.args.key.now c.args.owner.now c.args.version c.label_at.result) c.in-Some.ensures.found c.label_at.ensures

pub returns-else-is_label : goal.returns-else-is_label
returns-else-is_label c = value_space_then c.args.key.now c.args.owner.now c.args.version c.args.bytes.now c.in-Some.rest.now
    (with_body c.args.key.now c.args.owner.now c.args.version c.other_at.result) c.in-Some.ensures.found c.other_at.ensures
