use Rattle.std.proofs.Common.{refl}
use Rattle.trace_walk.specs.Reads.{Advances}
use Rattle.trace_walk.specs.Walking.{of_entry}
use Rattle.trace_walk.proofs.FaultLemmas.{carried}
use Rattle.trace_walk.proofs.HeadLemmas.{command_fails, command_on}
use Rattle.trace_walk.proofs.ReadLemmas.{blames_walk, carried_as}
use Rattle.trace_walk.proofs.walk.Walk.asked.Goals as goal

pub returns-clause-goes : goal.returns-clause-goes
returns-clause-goes g c = (
  refl,
  λ b pass x.
      let old = c.args.self.now in
      command_on b old.entry c.asked.new.self old.store old.header (g.R.Source.remaining c.args.reader.now)
      (g.R.Source.remaining c.asked.new.reader) pass c.args.head c.in_ok-asked.asked x c.in_ok-asked.ensures.goes,
)

pub returns-in_err-asked-clause-fails : goal.returns-in_err-asked-clause-fails
returns-in_err-asked-clause-fails g c =
    let old = c.args.self.now in
    let fault = c.in_err-asked.field-0.0 in
    carried c.from_residual.result (of_entry fault) _ c.from_residual.ensures.1
    (λ b pass x. (command_fails b old.entry old.store old.header (g.R.Source.remaining c.args.reader.now) pass c.args.head fault
    c.in_err-asked.ensures.fails x).0)

pub returns-in_err-asked-clause-wanted : goal.returns-in_err-asked-clause-wanted
returns-in_err-asked-clause-wanted g c =
    let old = c.args.self.now in
    let fault = c.in_err-asked.field-0.0 in
    carried c.from_residual.result (of_entry fault) _ c.from_residual.ensures.1
    (λ b pass x. (command_fails b old.entry old.store old.header (g.R.Source.remaining c.args.reader.now) pass c.args.head fault
    c.in_err-asked.ensures.fails x).1)

pub returns-in_err-asked-clause-reads : goal.returns-in_err-asked-clause-reads
returns-in_err-asked-clause-reads g c =
    carried_as c.from_residual.result (of_entry c.in_err-asked.field-0.0)
    (λ r. Advances g.R.Source r c.args.self.now.entry.lines c.args.reader.now c.asked.new.self.lines c.asked.new.reader)
    c.from_residual.ensures.1
    (λ first led. blames_walk g.R.Source c.in_err-asked.field-0.0 first c.asked.new.reader (c.in_err-asked.ensures.reads first led))
