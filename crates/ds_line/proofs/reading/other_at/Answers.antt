use Rattle.ds_line.proofs.OtherLemmas.{other_stops, other_whole}
use Rattle.ds_line.proofs.reading.other_at.Goals as goal

pub returns-in-Ok : goal.returns-in-Ok
returns-in-Ok c =
    other_whole c.args.key.now c.args.owner.now c.args.version c.in-Ok.value c.args.bytes.now c.in-Ok.rest.now c.requires.kind
    c.requires.value c.in-Ok.ensures.found

pub returns-in-Err : goal.returns-in-Err
returns-in-Err c = other_stops c.args.key.now c.args.owner.now c.args.version c.args.bytes.now c.in-Err.stop c.requires.kind
    c.requires.value c.in-Err.ensures.stop
