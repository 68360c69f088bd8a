use Rattle.std.proofs.Common.{refl, sym, subst}
use Rattle.std.proofs.lemmas.Result.{IfOk-weaker, IfErr-weaker}
use Rattle.script_answers.specs.Reply.{reply_lines}
use Rattle.script_answers.specs.declared.wording.Wording.TheVariants.{AsMerge}
use Rattle.ds_machine.specs.declared.command.Command.TheVariants.{Sweep}
use Rattle.trace_walk.specs.declared.header.Format.{Format}
use Rattle.trace_walk.specs.OneReply.{IsTraced}
use Rattle.trace_walk.specs.Sweep.{older_sweep}
use Rattle.trace_walk.specs.declared.passed.Passed.{Passed}
use Rattle.trace_walk.specs.declared.passed.Passed.TheVariants.{Swept}
use Rattle.trace_walk.specs.Passing.{HasPassed}
use Rattle.trace_walk.specs.Steps.{swept_line}
use Rattle.trace_walk.proofs.ToldLemmas.{sweep_step}
use Rattle.trace_walk.proofs.AskLemmas.{answered_fails, passes_said, sweep_known}
use Rattle.trace_walk.specs.Reads.{Advances}
use Rattle.trace_walk.proofs.ReadLemmas.{carried_as}
use Rattle.trace_walk.specs.declared.fault.WalkFault.TheVariants.{NoRoom}
use Rattle.trace_walk.proofs.walk.Walk.judge_sweep.Goals as goal

pub returns-clause-goes : goal.returns-clause-goes
returns-clause-goes g c =
    let old = c.args.self.now in
    let new = c.says.new.self in
    let to = g.R.Source.remaining c.says.new.reader in
    IfOk-weaker c.says.result _ _
    (λ passed says b x.
    let before = record old { store = c.sweep_older.new.store } in
    let from = g.R.Source.remaining c.args.reader.now in
    let swept = c.args.swept in
    let reply = c.in_ok-reply.reply in
    let traced = subst (λ (f : Format). IsTraced f b.state) c.requires.format x.past.traced in
    let r = c.in_ok-reply.ensures.0 b.state x.stands traced in
    let step = sweep_step old.header.format b.state swept.caller swept.owner swept.generation reply c.requires.format r.0 in
    let last = (older_sweep b.state swept.caller swept.owner swept.generation).1 in
    subst (λ (p : Passed). HasPassed b old.header new to p) (sym says.0)
    (passes_said b old.entry.lines old.store old.header from c.args.pass (swept_line swept) old.entry.text.items x
    (Sweep swept.caller swept.owner swept.generation) refl reply last step before new to (Swept c.in_ok-reply.merges)
    (reply_lines AsMerge reply old.header.limits) refl says.1 refl refl refl r.1 (λ one. c.in_ok-reply.ensures.1 b.state x.stands traced)))
    c.says.ensures.goes

pub returns-clause-fails : goal.returns-clause-fails
returns-clause-fails g c =
    IfErr-weaker c.says.result _ _
    (λ fault fails b x.
    let old = c.args.self.now in
    let from = g.R.Source.remaining c.args.reader.now in
    let swept = c.args.swept in
    let reply = c.in_ok-reply.reply in
    let traced = subst (λ (f : Format). IsTraced f b.state) c.requires.format x.past.traced in
    let r = c.in_ok-reply.ensures.0 b.state x.stands traced in
    answered_fails b old.entry.lines old.store old.header from c.args.pass (swept_line swept) old.entry.text.items x
    (Sweep swept.caller swept.owner swept.generation) refl reply (older_sweep b.state swept.caller swept.owner swept.generation).1
    (sweep_step old.header.format b.state swept.caller swept.owner swept.generation reply c.requires.format r.0)
    (reply_lines AsMerge reply old.header.limits) refl fault fails
    (sweep_known b old.entry.lines old.store old.header from c.args.pass swept.caller swept.owner swept.generation old.entry.text.items x
    c.requires.line reply c.requires.format r.0))
    c.says.ensures.fails

-- ---- reads and lines

pub returns-in_err-reply-clause-reads : goal.returns-in_err-reply-clause-reads
returns-in_err-reply-clause-reads g c =
    carried_as c.from_residual.result NoRoom (λ r.
    Advances g.R.Source r c.args.self.now.entry.lines c.args.reader.now c.args.self.now.entry.lines c.args.reader.now)
    c.from_residual.ensures.1 (λ first led. tt)
