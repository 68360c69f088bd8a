use Rattle.std.proofs.Common.{◌∙◌, refl, sym, subst}
use Rattle.std.proofs.lemmas.Result.{IfOk-weaker, IfErr-weaker}
use Rattle.trace_walk.specs.declared.asked.Asked.{Asked}
use Rattle.trace_walk.specs.declared.fault.WalkFault.{WalkFault}
use Rattle.trace_walk.specs.Walking.{IsFault}
use Rattle.trace_walk.specs.Steps.{HearsAt}
use Rattle.trace_walk.proofs.AskLemmas.{noroom_text, passed_over}
use Rattle.trace_walk.proofs.ReadLemmas.{refused_there}
use Rattle.trace_walk.proofs.WantedLemmas.{room_is_of_reply}
use Rattle.trace_walk.proofs.walk.Walk.answered.Goals as goal

pub returns-then-is_noroom-clause-goes : goal.returns-then-is_noroom-clause-goes
returns-then-is_noroom-clause-goes g c =
    let old = c.args.self.now in
    let w = c.judge_noroom.new.self in
    let from = g.R.Source.remaining c.args.reader.now in
    IfOk-weaker c.judge_noroom.result _ _
    (λ passed r b x.
    let text = r.reply ∙ sym (noroom_text b old.entry.lines old.store old.header from c.args.pass c.args.asked old.entry.text.items x) in
    passed_over b old.entry.lines old.store old.header from c.args.pass c.args.asked old.entry.text.items x
    (sym c.line.ensures ∙ c.if-is_noroom.ensures.0 refl) w passed r.lines r.store r.header r.asked_is text
    (λ one. r.becomes one b.state old.header.limits c.args.pass))
    c.judge_noroom.ensures.goes

pub returns-then-is_noroom-clause-fails : goal.returns-then-is_noroom-clause-fails
returns-then-is_noroom-clause-fails g c =
    IfErr-weaker c.judge_noroom.result _ _ (λ fault is b x. subst (λ (f : WalkFault). IsFault b.front b.bytes f) (sym is) tt)
    c.judge_noroom.ensures.fault

pub returns-in-Line-clause-goes : goal.returns-in-Line-clause-goes
returns-in-Line-clause-goes g c =
    IfOk-weaker c.judge_line.result _ _
    (λ passed goes b x. goes b (subst (λ (a : Asked). HearsAt b c.args.self.now (g.R.Source.remaining c.args.reader.now) c.args.pass a)
    c.in-Line.is x)) c.judge_line.ensures.goes

pub returns-in-Line-clause-fails : goal.returns-in-Line-clause-fails
returns-in-Line-clause-fails g c =
    IfErr-weaker c.judge_line.result _ _
    (λ fault fails b x. fails b (subst (λ (a : Asked). HearsAt b c.args.self.now (g.R.Source.remaining c.args.reader.now) c.args.pass a)
    c.in-Line.is x)) c.judge_line.ensures.fails

pub returns-in-Merge-clause-goes : goal.returns-in-Merge-clause-goes
returns-in-Merge-clause-goes g c =
    IfOk-weaker c.judge_merge.result _ _
    (λ passed goes b x. goes b c.args.pass (subst
    (λ (a : Asked). HearsAt b c.args.self.now (g.R.Source.remaining c.args.reader.now) c.args.pass a) c.in-Merge.is x))
    c.judge_merge.ensures.goes

pub returns-in-Merge-clause-fails : goal.returns-in-Merge-clause-fails
returns-in-Merge-clause-fails g c =
    IfErr-weaker c.judge_merge.result _ _
    (λ fault fails b x. fails b c.args.pass (subst
    (λ (a : Asked). HearsAt b c.args.self.now (g.R.Source.remaining c.args.reader.now) c.args.pass a) c.in-Merge.is x))
    c.judge_merge.ensures.fails

-- ---- reads and lines

pub returns-then-is_noroom-clause-reads : goal.returns-then-is_noroom-clause-reads
returns-then-is_noroom-clause-reads g c =
    refused_there g.R.Source c.judge_noroom.result c.args.self.now.entry.lines c.judge_noroom.new.self.entry.lines c.args.reader.now
    (IfOk-weaker c.judge_noroom.result _ _ (λ passed r. r.lines) c.judge_noroom.ensures.goes) c.judge_noroom.ensures.fault

pub returns-then-is_noroom-clause-kind : goal.returns-then-is_noroom-clause-kind
returns-then-is_noroom-clause-kind g c = IfErr-weaker c.judge_noroom.result _ _ room_is_of_reply c.judge_noroom.ensures.fault
