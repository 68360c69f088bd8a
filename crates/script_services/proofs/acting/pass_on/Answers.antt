use Rattle.std.proofs.Common.{◌≡◌, ℕ, List, [], ◌++◌, length, take, Some, ◌+◌, refl, sym, ap, subst, ◌∙◌, append-nil, append_assoc, arith}
use Rattle.std.specs.List.{slice_get}
use Rattle.std.specs.Option.{option_copied}
use Rattle.std.proofs.lemmas.List.{take_all}
use Rattle.rs_core.specs.declared.action.Action.{Action}
use Rattle.script_answers.specs.Actions.{action_line, action_count_line}
use Rattle.script_answers.proofs.ResultLemmas.{on_ok}
use Rattle.script_services.specs.Services.{AnswersActions}
use Rattle.rs_to_store.proofs.ListLemmas.{next_taken}
use Rattle.script_answers.proofs.AppendLemmas.{lines_after, on_each, some_after}
use Rattle.script_services.proofs.ActionLemmas.{actions_more, first_sent, in_place_at}
use Rattle.script_services.proofs.acting.pass_on.Goals as goal

pub loop-index-init : goal.loop-index-init
loop-index-init c = ([], [], sym (append-nil c.args.output.now.items), (refl, refl, refl))

pub ask-requires : goal.ask-requires
ask-requires c =
    in_place_at c.args.actions.now c.loop-index.index c.in-Some.action.now c.requires
    (sym (subst (λ o. option_copied o ≡ slice_get c.args.actions.now c.loop-index.index) c.in-Some.is c.get.ensures))

pub loop-index-preserved : goal.loop-index-preserved
loop-index-preserved c =
    let acts = c.args.actions.now in
    let i = c.loop-index.index in
    let x = c.in-Some.action.now in
    let done = c.loop-index.invariant in
    let one = (c.in_ok-ask.ensures).asked in
    let at : slice_get acts i ≡ Some x = sym (subst (λ o. option_copied o ≡ slice_get acts i) c.in-Some.is c.get.ensures) in (
      done.0 ++ (action_line x ++ one.0),
      done.1 ++ one.1,
      lines_after c.args.output.now.items done.0 (action_line x) one.0 c.loop-index.output.items c.append_action.new.buffer.items
          c.ask.new.output.items done.2 (c.in_ok-append_action.ensures).written one.2,
      subst (λ (l : List Action). AnswersActions c.args.side l c.args.world.now (done.0 ++ (action_line x ++ one.0)) (done.1 ++ one.1)
          c.ask.new.world) (next_taken acts i x at)
          (actions_more c.args.side (take i acts) x c.args.world.now c.loop-index.world c.ask.new.world done.0 one.0 done.1 one.1 done.3
          one.3),
    )

pub returns-in_err-append_action-clause-some : goal.returns-in_err-append_action-clause-some
returns-in_err-append_action-clause-some c =
    on_each c.from_residual.result (c.loop-index.invariant.0, (c.in_err-append_action.ensures).unchanged ∙ c.loop-index.invariant.2)

pub returns-in_err-ask-clause-some : goal.returns-in_err-ask-clause-some
returns-in_err-ask-clause-some c =
    let line = action_line c.in-Some.action.now in
    on_each c.from_residual-in_err-ask.result (
      c.loop-index.invariant.0 ++ line,
      (c.in_err-ask.ensures).unanswered ∙ (c.in_ok-append_action.ensures).written ∙
          ap (λ (l : List ℕ). l ++ line) c.loop-index.invariant.2 ∙ append_assoc c.args.output.now.items c.loop-index.invariant.0 line,
    )

pub returns-clause-told : goal.returns-clause-told
returns-clause-told c =
    let acts = c.args.actions.now in
    let done = c.loop-index.invariant in
    let count = action_count_line (length acts) in
    let all : take c.loop-index.index acts ≡ acts = take_all c.loop-index.index acts (omega arith) in
    on_ok c.append_action_count.result
    (λ written. (
      done.0 ++ count,
      done.1,
      written ∙ ap (λ (l : List ℕ). l ++ action_count_line c.len.result) done.2 ∙
          append_assoc c.args.output.now.items done.0 (action_count_line c.len.result)
          ∙ ap (λ (n : ℕ). c.args.output.now.items ++ (done.0 ++ action_count_line n)) c.len.ensures,
      (
        done.0,
        subst (λ (l : List Action). AnswersActions c.args.side l c.args.world.now done.0 done.1 c.loop-index.world) all done.3,
        refl,
      ),
    ))
    c.append_action_count.ensures.written

pub returns-clause-some : goal.returns-clause-some
returns-clause-some c =
    some_after c.append_action_count.result c.args.output.now.items c.loop-index.invariant.0 c.loop-index.output.items
    c.append_action_count.new.buffer.items c.loop-index.invariant.2 c.append_action_count.ensures.unchanged

-- ---- what was sent when memory ran out

pub returns-in_err-append_action-clause-begun : goal.returns-in_err-append_action-clause-begun
returns-in_err-append_action-clause-begun c =
    on_each c.from_residual.result (first_sent c.args.side c.args.actions.now c.loop-index.index c.args.world.now c.loop-index.world
    c.loop-index.invariant.0 c.loop-index.invariant.1 c.loop-index.invariant.3)

pub returns-in_err-ask-clause-begun : goal.returns-in_err-ask-clause-begun
returns-in_err-ask-clause-begun c =
    let acts = c.args.actions.now in
    let i = c.loop-index.index in
    let x = c.in-Some.action.now in
    let done = c.loop-index.invariant in
    let one = (c.in_err-ask.ensures).sent in
    let at : slice_get acts i ≡ Some x = sym (subst (λ o. option_copied o ≡ slice_get acts i) c.in-Some.is c.get.ensures) in
    on_each c.from_residual-in_err-ask.result
    (first_sent c.args.side acts (i + 1) c.args.world.now c.ask.new.world (done.0 ++ (action_line x ++ one.0)) (done.1 ++ one.1)
    (subst (λ (l : List Action). AnswersActions c.args.side l c.args.world.now (done.0 ++ (action_line x ++ one.0)) (done.1 ++ one.1)
    c.ask.new.world) (next_taken acts i x at)
    (actions_more c.args.side (take i acts) x c.args.world.now c.loop-index.world c.ask.new.world done.0 one.0 done.1 one.1 done.3 one.2)))

pub returns-clause-begun : goal.returns-clause-begun
returns-clause-begun c =
    on_each c.append_action_count.result (first_sent c.args.side c.args.actions.now c.loop-index.index c.args.world.now c.loop-index.world
    c.loop-index.invariant.0 c.loop-index.invariant.1 c.loop-index.invariant.3)
