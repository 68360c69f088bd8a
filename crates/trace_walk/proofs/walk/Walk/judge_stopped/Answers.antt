use Rattle.std.proofs.Common.{refl, sym, subst}
use Rattle.std.proofs.lemmas.Result.{IfOk-weaker, IfErr-weaker}
use Rattle.script_answers.specs.Reply.{reply_lines}
use Rattle.script_answers.specs.declared.wording.Wording.TheVariants.{AsMerge}
use Rattle.ds_machine.specs.declared.command.Command.TheVariants.{Merge}
use Rattle.trace_walk.specs.declared.asked.Asked.TheVariants as askeds
use Rattle.trace_walk.specs.declared.passed.Passed.{Passed}
use Rattle.trace_walk.specs.declared.passed.Passed.TheVariants.{AsItStands}
use Rattle.trace_walk.specs.Passing.{HasPassed}
use Rattle.trace_walk.proofs.FaultLemmas.{carried}
use Rattle.trace_walk.proofs.ToldLemmas.{stop_step}
use Rattle.trace_walk.proofs.AskLemmas.{answered_fails, passes_said, stop_known, stop_fails}
use Rattle.trace_walk.specs.Reads.{Advances}
use Rattle.trace_walk.proofs.ReadLemmas.{carried_as, no_cause}
use Rattle.trace_walk.proofs.walk.Walk.judge_stopped.Goals as goal

pub returns-in_err-reply-clause-fails : goal.returns-in_err-reply-clause-fails
returns-in_err-reply-clause-fails g c =
    carried c.from_residual.result c.in_err-reply.field-0.0 _ c.from_residual.ensures.1
    (λ b pass x.
    let old = c.args.self.now in
    stop_fails b old.entry.lines old.store old.header (g.R.Source.remaining c.args.reader.now) pass c.args.items.now old.entry.text.items x
    c.args.done c.requires.few c.requires.line
    c.in_err-reply.field-0.0 c.count-number.result (c.in_err-reply.ensures.fails b.state x.stands x.may.0) c.count-number.ensures.value)

pub returns-clause-goes : goal.returns-clause-goes
returns-clause-goes g c =
    let old = c.args.self.now in
    let new = c.says.new.self in
    let to = g.R.Source.remaining c.says.new.reader in
    IfOk-weaker c.says.result _ _
    (λ passed says b pass x.
    let before = record old { store = c.stopped.new.store } in
    let from = g.R.Source.remaining c.args.reader.now in
    let reply = c.in_ok-reply.reply in
    let items = c.args.items.now in
    let st = c.in_ok-reply.ensures.stops b.state x.stands x.may.0 in
    subst (λ (p : Passed). HasPassed b old.header new to p) (sym says.0)
    (passes_said b old.entry.lines old.store old.header from pass (askeds.Merge items) old.entry.text.items x (Merge items) refl reply st.0
    (stop_step old.header.format b.state st.0 items reply c.args.done st.1) before new to AsItStands
    (reply_lines AsMerge reply old.header.limits) refl says.1 refl refl refl st.2 (λ one. refl)))
    c.says.ensures.goes

pub returns-clause-fails : goal.returns-clause-fails
returns-clause-fails g c =
    IfErr-weaker c.says.result _ _
    (λ fault fails b pass x.
    let old = c.args.self.now in
    let from = g.R.Source.remaining c.args.reader.now in
    let reply = c.in_ok-reply.reply in
    let items = c.args.items.now in
    let st = c.in_ok-reply.ensures.stops b.state x.stands x.may.0 in
    answered_fails b old.entry.lines old.store old.header from pass (askeds.Merge items) old.entry.text.items x (Merge items) refl reply
    st.0 (stop_step old.header.format b.state st.0 items reply c.args.done st.1)
    (reply_lines AsMerge reply old.header.limits) refl fault fails
    (λ m. stop_known b old.entry.lines old.store old.header from pass items old.entry.text.items x c.args.done c.requires.few
    c.requires.line reply st.0 st.1))
    c.says.ensures.fails

-- ---- reads and lines

pub returns-in_err-reply-clause-reads : goal.returns-in_err-reply-clause-reads
returns-in_err-reply-clause-reads g c =
    carried_as c.from_residual.result c.in_err-reply.field-0.0
    (λ r. Advances g.R.Source r c.args.self.now.entry.lines c.args.reader.now c.args.self.now.entry.lines c.args.reader.now)
    c.from_residual.ensures.1
    (λ first led. no_cause g.R.Source c.in_err-reply.field-0.0 first c.args.reader.now c.in_err-reply.ensures.blames)

pub returns-in_err-reply-clause-kind : goal.returns-in_err-reply-clause-kind
returns-in_err-reply-clause-kind g c = carried c.from_residual.result c.in_err-reply.field-0.0 _ c.from_residual.ensures.1
    c.in_err-reply.ensures.kind
