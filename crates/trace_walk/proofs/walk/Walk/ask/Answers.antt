use Rattle.std.proofs.Common.{◌≡◌, ◌∙◌, false, is_some, refl, sym, ap, subst}
use Rattle.std.proofs.lemmas.Result.{IfOk-weaker, IfErr-weaker}
use Rattle.script_answers.specs.Reply.{reply_lines}
use Rattle.script_answers.specs.declared.wording.Wording.{Wording}
use Rattle.ds_machine.specs.OneStep.{room_wanted}
use Rattle.trace_walk.specs.declared.passed.Passed.{Passed}
use Rattle.trace_walk.specs.declared.passed.Passed.TheVariants.{AsItStands}
use Rattle.trace_walk.specs.Passing.{HasPassed}
use Rattle.trace_walk.proofs.AskLemmas.{answered_fails, known_by, passes_said}
use Rattle.trace_walk.proofs.walk.Walk.ask.Goals as goal

pub returns-clause-goes : goal.returns-clause-goes
returns-clause-goes g c =
    let old = c.args.self.now in
    let new = c.says.new.self in
    let to = g.R.Source.remaining c.says.new.reader in
    IfOk-weaker c.says.result _ _
    (λ passed says b pass asked f x.
    let before = record old { store = c.apply-reply.new.self } in
    let from = g.R.Source.remaining c.args.reader.now in
    let reply = c.apply-reply.result in
    let step = c.apply-reply.ensures.step b.state x.stands in
    subst (λ (p : Passed). HasPassed b old.header new to p) (sym says.0)
    (passes_said b old.entry.lines old.store old.header from pass asked old.entry.text.items x c.args.command f.asks reply step.0
    (f.steps b.state step.0 reply step.1) before new to AsItStands
    (reply_lines c.args.wording reply old.header.limits) (ap (λ (w : Wording). reply_lines w reply old.header.limits) f.words) says.1 refl
    refl refl step.2 (λ one. f.stays one b.state _)))
    c.says.ensures.goes

pub returns-clause-fails : goal.returns-clause-fails
returns-clause-fails g c =
    IfErr-weaker c.says.result _ _
    (λ fault fails b pass asked f x.
    let old = c.args.self.now in
    let from = g.R.Source.remaining c.args.reader.now in
    let reply = c.apply-reply.result in
    let step = c.apply-reply.ensures.step b.state x.stands in
    let room : is_some (room_wanted reply) ≡ false = sym c.wants_room.ensures ∙ c.if-wants_room.false in
    answered_fails b old.entry.lines old.store old.header from pass asked old.entry.text.items x c.args.command f.asks reply step.0
    (f.steps b.state step.0 reply step.1)
    (reply_lines c.args.wording reply old.header.limits) (ap (λ (w : Wording). reply_lines w reply old.header.limits) f.words) fault fails
    (known_by b old.entry.lines old.store old.header from pass asked old.entry.text.items x c.args.wording c.args.command reply step.0 f
    room
    step.1))
    c.says.ensures.fails

-- ---- reads and lines

pub returns-then-wants_room-clause-reads : goal.returns-then-wants_room-clause-reads
returns-then-wants_room-clause-reads g c = λ first led. tt
