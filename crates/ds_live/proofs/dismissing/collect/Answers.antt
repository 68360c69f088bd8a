use Rattle.std.proofs.Common.{subst}
use Rattle.ds_live.specs.Homes.{home_of}
use Rattle.ds_live.specs.Tasks.{IsOther}
use Rattle.ds_live.specs.Workers.{IsAtHome}
use Rattle.ds_live.proofs.JobLemmas.{pushed}
use Rattle.ds_live.proofs.dismissing.collect.Goals as goal

pub returns-in-Exchange-clause-home : goal.returns-in-Exchange-clause-home
returns-in-Exchange-clause-home c = let b = home_of c.args.second.now in
    pushed (λ p. IsAtHome b p) c.args.back.now.others.items c.push_reserved.new.self.items c.in-Exchange.other
    c.push_reserved.ensures.items c.requires.others
    (subst (λ t. IsOther b t) c.in-Exchange.is c.requires.task)
