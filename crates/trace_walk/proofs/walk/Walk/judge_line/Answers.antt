use Rattle.std.proofs.Common.{◌∙◌, sym, subst}
use Rattle.std.proofs.lemmas.Result.{IfOk-weaker, IfErr-weaker}
use Rattle.script_commands.specs.declared.command.ScriptCommand.{ScriptCommand}
use Rattle.trace_walk.specs.declared.asked.Asked.TheVariants as askeds
use Rattle.trace_walk.specs.Steps.{HearsAt}
use Rattle.trace_walk.proofs.ToldLemmas.{older_is}
use Rattle.trace_walk.proofs.walk.Walk.judge_line.Goals as goal

pub returns-in-Some-clause-goes : goal.returns-in-Some-clause-goes
returns-in-Some-clause-goes g c =
    let old = c.args.self.now in
    let is = older_is old.header.format c.args.command c.in-Some.swept (sym c.older.ensures ∙ c.in-Some.is) in
    IfOk-weaker c.judge_sweep.result _ _
    (λ passed goes b x. goes b (subst (λ (k : ScriptCommand).
    HearsAt b old (g.R.Source.remaining c.args.reader.now) c.args.pass (askeds.Line k)) is.1 x)) c.judge_sweep.ensures.goes

pub returns-in-Some-clause-fails : goal.returns-in-Some-clause-fails
returns-in-Some-clause-fails g c =
    let old = c.args.self.now in
    let is = older_is old.header.format c.args.command c.in-Some.swept (sym c.older.ensures ∙ c.in-Some.is) in
    IfErr-weaker c.judge_sweep.result _ _
    (λ fault fails b x. fails b (subst (λ (k : ScriptCommand).
    HearsAt b old (g.R.Source.remaining c.args.reader.now) c.args.pass (askeds.Line k)) is.1 x)) c.judge_sweep.ensures.fails

pub judge_plain-requires-clause-plain : goal.judge_plain-requires-clause-plain
judge_plain-requires-clause-plain g c = sym c.older.ensures ∙ c.in-None.is

pub returns-in-None-clause-goes : goal.returns-in-None-clause-goes
returns-in-None-clause-goes g c = IfOk-weaker c.judge_plain.result _ _ (λ passed goes b x. goes b c.args.pass x) c.judge_plain.ensures.goes

pub returns-in-None-clause-fails : goal.returns-in-None-clause-fails
returns-in-None-clause-fails g c = IfErr-weaker c.judge_plain.result _ _ (λ fault fails b x. fails b c.args.pass x)
    c.judge_plain.ensures.fails
