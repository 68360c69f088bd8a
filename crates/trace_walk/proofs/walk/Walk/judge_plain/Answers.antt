use Rattle.std.proofs.Common.{◌∙◌, sym}
use Rattle.std.proofs.lemmas.Result.{IfOk-weaker, IfErr-weaker}
use Rattle.trace_walk.specs.declared.asked.Asked.TheVariants as askeds
use Rattle.trace_walk.proofs.ToldLemmas.{line_for_store}
use Rattle.trace_walk.specs.Reads.{Advances}
use Rattle.trace_walk.proofs.ReadLemmas.{carried_as}
use Rattle.trace_walk.specs.declared.fault.WalkFault.TheVariants.{NoRoom}
use Rattle.trace_walk.proofs.walk.Walk.judge_plain.Goals as goal

pub returns-in-Some-clause-goes : goal.returns-in-Some-clause-goes
returns-in-Some-clause-goes g c =
    let old = c.args.self.now in
    let asks = sym c.in_ok-command.ensures.command ∙ c.in-Some.is in
    let f = line_for_store old.header.format c.args.command c.in-Some.command c.wording-wording.result old.entry.lines.line
    c.requires.plain asks c.wording-wording.ensures c.requires.line in
    IfOk-weaker c.ask.result _ _ (λ passed goes b pass x. goes b pass (askeds.Line c.args.command) f x) c.ask.ensures.goes

pub returns-in-Some-clause-fails : goal.returns-in-Some-clause-fails
returns-in-Some-clause-fails g c =
    let old = c.args.self.now in
    let asks = sym c.in_ok-command.ensures.command ∙ c.in-Some.is in
    let f = line_for_store old.header.format c.args.command c.in-Some.command c.wording-wording.result old.entry.lines.line
    c.requires.plain asks c.wording-wording.ensures c.requires.line in
    IfErr-weaker c.ask.result _ _ (λ fault fails b pass x. fails b pass (askeds.Line c.args.command) f x) c.ask.ensures.fails

-- ---- reads and lines

pub returns-in_err-command-clause-reads : goal.returns-in_err-command-clause-reads
returns-in_err-command-clause-reads g c =
    carried_as c.from_residual.result NoRoom (λ r.
    Advances g.R.Source r c.args.self.now.entry.lines c.args.reader.now c.args.self.now.entry.lines c.args.reader.now)
    c.from_residual.ensures.1 (λ first led. tt)

pub returns-in-None-clause-reads : goal.returns-in-None-clause-reads
returns-in-None-clause-reads g c = λ first led. tt
