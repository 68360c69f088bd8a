use Rattle.std.proofs.Common.{[], ◌∷◌}
use Rattle.ds_world.proofs.HeadlineLemmas.{turns}
use Rattle.ds_world.proofs.LawLemmas.{laws_hold}
use Rattle.ds_world.proofs.ReplyLemmas.{over_one, told_alone}
use Rattle.ds_world.proofs.world.World.happen.Goals as goal

pub returns-clause-messages : goal.returns-clause-messages
returns-clause-messages c =
    let went = c.carry_out-outcome in over_one c.args.event went.result c.args.self.now went.new.self went.ensures.told

pub returns-clause-laws : goal.returns-clause-laws
returns-clause-laws c =
    let says = c.answers_say.ensures in
    let went = c.carry_out-outcome in
    let told = told_alone c.args.event went.result c.args.self.now went.new.self went.ensures.leads went.ensures.told in
    laws_hold says.snapped says.paged says.journaled c.args.self.now went.new.self ((c.args.event, went.result) ∷ []) told
    c.maps_proof.ensures

pub returns-clause-turns : goal.returns-clause-turns
returns-clause-turns c =
    let went = c.carry_out-outcome in
    let told = told_alone c.args.event went.result c.args.self.now went.new.self went.ensures.leads went.ensures.told in
    turns c.args.self.now went.new.self ((c.args.event, went.result) ∷ []) told
