use Rattle.std.proofs.Common.{◌≡◌, ℕ, List, sym, ap, ◌∙◌}
use Rattle.std.proofs.lemmas.Result.{IfOk-weaker, on_err_weaker}
use Rattle.ds_line.specs.Spelling.{escaped}
use Rattle.script_answers.proofs.AppendLemmas.{on_each}
use Rattle.script_commands.specs.Query.{unescaped}
use Rattle.script_commands.proofs.QueryLemmas.{left_more, left_last, left_some, unescaped_is}
use Rattle.script_commands.proofs.query.unescape.Goals as goal

pub loop-byte-preserved : goal.loop-byte-preserved
loop-byte-preserved c = rw c.in_ok-push.ensures.items
    (left_more c.args.written.now c.loop-byte.text.items c.loop-byte.rest.now c.in-Some.after.now c.in-Some.byte c.loop-byte.invariant
    c.in-Some.ensures.found)

pub returns-clause-text : goal.returns-clause-text
returns-clause-text c =
    let all = left_last c.args.written.now c.loop-byte.text.items c.loop-byte.rest.now c.loop-byte.invariant c.in_default.ensures.none in
    IfOk-weaker c.of.result (λ (t : List ℕ). t ≡ c.deref.result.now) (λ (t : List ℕ). unescaped c.args.written.now ≡ t)
    (λ t same. unescaped_is c.args.written.now t (all ∙ ap escaped (sym (same ∙ c.deref.ensures.value)))) c.of.ensures.same

pub returns-clause-room : goal.returns-clause-room
returns-clause-room c =
    let all = left_last c.args.written.now c.loop-byte.text.items c.loop-byte.rest.now c.loop-byte.invariant c.in_default.ensures.none in
    on_err_weaker c.of.result
    (λ some none. some (c.deref.ensures.value ∙ sym (unescaped_is c.args.written.now c.loop-byte.text.items all) ∙ none)) c.of.ensures.room

pub returns-in_err-push-clause-room : goal.returns-in_err-push-clause-room
returns-in_err-push-clause-room c = on_each c.from_residual.result
    (left_some c.args.written.now c.loop-byte.text.items c.loop-byte.rest.now c.in-Some.after.now c.in-Some.byte c.loop-byte.invariant
    c.in-Some.ensures.found)
