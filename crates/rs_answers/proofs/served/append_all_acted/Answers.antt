use Rattle.std.proofs.Common.{◌≡◌, ℕ, ◌++◌, List, take, Some, sym, ap, subst, ◌∙◌, append_assoc}
use Rattle.std.specs.Prelude.{Option}
use Rattle.std.specs.List.{slice_get}
use Rattle.std.specs.Option.{option_copied}
use Rattle.ds_machine.specs.declared.reply.Reply.{Reply}
use Rattle.script_answers.specs.Actions.{action_line}
use Rattle.rs_answers.specs.Served.{acted_lines, reply_lines_if}
use Rattle.script_answers.proofs.AppendLemmas.{lines_after, on_each, some_after}
use Rattle.rs_answers.proofs.ServedLemmas.{acted_more}
use Rattle.rs_answers.proofs.served.append_all_acted.Goals as goal

pub returns-in_err-append_action-clause-some : goal.returns-in_err-append_action-clause-some
returns-in_err-append_action-clause-some c =
    on_each c.from_residual.result (
      acted_lines (take c.loop-index.index c.args.actions.now) c.args.replies.now,
      (c.in_err-append_action.ensures).unchanged ∙
          c.loop-index.invariant,
    )

pub returns-in_err-append_reply_if-clause-some : goal.returns-in_err-append_reply_if-clause-some
returns-in_err-append_reply_if-clause-some c =
    let line = action_line c.in-Some.action.now in
    let out = acted_lines (take c.loop-index.index c.args.actions.now) c.args.replies.now in
    on_each c.from_residual-in_err-append_reply_if.result (
      out ++ line,
      (c.in_err-append_reply_if.ensures).unchanged ∙ (c.in_ok-append_action.ensures).written ∙
          ap (λ (l : List ℕ). l ++ line) c.loop-index.invariant ∙ append_assoc c.args.buffer.now.items out line,
    )

pub loop-index-preserved : goal.loop-index-preserved
loop-index-preserved c =
    let acts = c.args.actions.now in
    let rs = c.args.replies.now in
    let i = c.loop-index.index in
    let x = c.in-Some.action.now in
    let start = c.args.buffer.now.items in
    let out = acted_lines (take i acts) rs in
    let first = reply_lines_if (option_copied c.get-in-loop-index.result) in
    let at : slice_get acts i ≡ Some x = sym (subst (λ o. option_copied o ≡ slice_get acts i) c.in-Some.is c.get.ensures) in
    let got : option_copied c.get-in-loop-index.result ≡ slice_get rs i = c.get-in-loop-index.ensures in
    lines_after start out (action_line x) first c.loop-index.buffer.items c.append_action.new.buffer.items
    c.append_reply_if.new.buffer.items
    c.loop-index.invariant (c.in_ok-append_action.ensures).written (c.in_ok-append_reply_if.ensures).written
    ∙ ap (λ (o : Option (Option Reply)). start ++ (out ++ (action_line x ++ reply_lines_if o))) got
    ∙ ap (λ (l : List ℕ). start ++ l) (sym (acted_more acts rs i x at))

pub returns-clause-some : goal.returns-clause-some
returns-clause-some c =
    some_after c.append_action_count.result c.args.buffer.now.items
    (acted_lines (take c.loop-index.index c.args.actions.now) c.args.replies.now) c.loop-index.buffer.items
    c.append_action_count.new.buffer.items c.loop-index.invariant c.append_action_count.ensures.unchanged
