use Rattle.ds_store.specs.Asked.{request_of}
use Rattle.ds_store.specs.Standing.{machine_standing}
use Rattle.ds_store.proofs.FreeLemmas.{free_asked}
use Rattle.ds_store.proofs.MadeLemmas.{made_asked}
use Rattle.ds_store.proofs.asked.cause_of_asked.Goals as goal

pub returns-clause-free : goal.returns-clause-free
returns-clause-free c = free_asked c.first_cause_of.result (machine_standing c.args.standing.now) c.args.caller
    (request_of c.args.asked.now) c.args.body.now c.first_cause_of.ensures.first

pub returns-clause-made : goal.returns-clause-made
returns-clause-made c =
    let ranges = c.ranges_proof.ensures in
    made_asked c.args.caller (request_of c.args.asked.now) c.args.body.now ranges.name ranges.owner ranges.epoch ranges.seq
    c.first_cause_of.ensures.valid
    c.first_cause_of.result (machine_standing c.args.standing.now) c.first_cause_of.ensures.first
