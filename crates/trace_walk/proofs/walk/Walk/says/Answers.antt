use Rattle.std.proofs.Common.{◌++◌, ◌∙◌, List, ℕ, refl, ap, subst}
use Rattle.script_answers.specs.Reply.{reply_lines}
use Rattle.trace_walk.specs.Steps.{MissesReply, SaysAll}
use Rattle.trace_walk.specs.Reads.{Advances}
use Rattle.trace_walk.proofs.ReadLemmas.{carried_as}
use Rattle.trace_walk.specs.declared.fault.WalkFault.TheVariants.{NoRoom}
use Rattle.trace_walk.proofs.walk.Walk.says.Goals as goal

pub returns-in-Ok-clause-goes : goal.returns-in-Ok-clause-goes
returns-in-Ok-clause-goes g c =
    let old = c.args.self.now in
    let new = c.expect.new.lines in
    let from = g.R.Source.remaining c.args.reader.now in
    let to = g.R.Source.remaining c.expect.new.reader in
    let written = c.in_ok-append_reply.ensures.written ∙
    ap (λ (l : List ℕ). l ++ reply_lines c.args.wording c.args.reply.now old.header.limits) c.clear.ensures.items in
    let text = c.as_slice.ensures.value ∙ written in (
      refl,
      record {
        says = subst (λ (t : List ℕ). SaysAll old.entry.lines from new to t) text c.in-Ok.ensures.goes;
        store = refl;
        header =
            refl;
        asked = refl;
        reply = written;
      },
    )

pub returns-in-Err-clause-fails : goal.returns-in-Err-clause-fails
returns-in-Err-clause-fails g c =
    let old = c.args.self.now in
    let from = g.R.Source.remaining c.args.reader.now in
    let written = c.in_ok-append_reply.ensures.written ∙
    ap (λ (l : List ℕ). l ++ reply_lines c.args.wording c.args.reply.now old.header.limits) c.clear.ensures.items in
    let text = c.as_slice.ensures.value ∙ written in
    subst (λ (t : List ℕ). MissesReply old.entry.lines from t c.in-Err.fault) text c.in-Err.ensures.fails

-- ---- reads and lines

pub returns-in_err-append_reply-clause-reads : goal.returns-in_err-append_reply-clause-reads
returns-in_err-append_reply-clause-reads g c =
    carried_as c.from_residual.result NoRoom (λ r.
    Advances g.R.Source r c.args.self.now.entry.lines c.args.reader.now c.args.self.now.entry.lines c.args.reader.now)
    c.from_residual.ensures.1 (λ first led. tt)
