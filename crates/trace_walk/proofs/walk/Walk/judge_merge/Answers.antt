use Rattle.std.proofs.lemmas.Result.{IfOk-weaker, IfErr-weaker}
use Rattle.trace_walk.specs.declared.asked.Asked.TheVariants as askeds
use Rattle.trace_walk.proofs.ToldLemmas.{merge_for_store}
use Rattle.trace_walk.proofs.walk.Walk.judge_merge.Goals as goal

pub returns-in-None-clause-goes : goal.returns-in-None-clause-goes
returns-in-None-clause-goes g c =
    let old = c.args.self.now in
    IfOk-weaker c.ask.result _ _
    (λ passed goes b pass x. goes b pass (askeds.Merge c.args.items)
    (merge_for_store old.header.format c.args.items old.entry.lines.line c.line.result.now c.len.result c.len.ensures c.line.ensures
    c.in-None.ensures.none x.may.0 c.requires) x) c.ask.ensures.goes

pub returns-in-None-clause-fails : goal.returns-in-None-clause-fails
returns-in-None-clause-fails g c =
    let old = c.args.self.now in
    IfErr-weaker c.ask.result _ _
    (λ fault fails b pass x. fails b pass (askeds.Merge c.args.items)
    (merge_for_store old.header.format c.args.items old.entry.lines.line c.line.result.now c.len.result c.len.ensures c.line.ensures
    c.in-None.ensures.none x.may.0 c.requires) x) c.ask.ensures.fails
