use Rattle.ds_line.proofs.BodyLemmas.{gone_end_missing, gone_whole}
use Rattle.ds_line.proofs.reading.gone_at.Goals as goal

pub returns-in_default : goal.returns-in_default
returns-in_default c = gone_end_missing c.args.key.now c.args.owner.now c.args.version c.args.bytes.now c.stop_at.result c.requires
    c.stop_at.ensures c.in_default.ensures.none

pub returns : goal.returns
returns c = gone_whole c.args.key.now c.args.owner.now c.args.version c.args.bytes.now c.in-Some.rest.now c.requires c.in-Some.ensures.found
