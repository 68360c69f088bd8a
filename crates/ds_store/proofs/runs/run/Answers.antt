use Rattle.std.proofs.Common.{◌≡◌, List, ap, subst, sym, ◌∙◌, ◌++◌, ◌∷◌, [], append_assoc}
use Rattle.ds_machine.specs.declared.reply.Reply.{Reply}
use Rattle.ds_store.specs.Run.{LastRun}
use Rattle.ds_store.proofs.RunLemmas.{run_more, run_first}
use Rattle.ds_store.proofs.runs.run.Goals as goal
use Rattle.ds_content.proofs.OpenLemmas.{on_err}

pub loop-command-preserved : goal.loop-command-preserved
loop-command-preserved c = record {
  all = append_assoc c.loop-command.yielded (c.in-Some.command ∷ []) c.next.new.self.rest.items ∙
      ap (λ l. c.loop-command.yielded ++ l) (sym c.in-Some.ensures.steps.0) ∙ c.loop-command.invariant.all;
  run = λ s stands.
      (let at = c.loop-command.invariant.run s stands in
      let next = c.apply-reply.ensures.step at.0 at.2 in
      let more = run_more c.loop-command.yielded c.loop-command.replies.items s at.0 next.0 c.in-Some.command c.apply-reply.result at.1
      next.1 (c.apply-reply.ensures.last at.0 at.2) in (
        next.0,
        subst (λ (replies : List Reply). LastRun s (c.loop-command.yielded ++ c.in-Some.command ∷ []) replies next.0)
            (sym {A = List Reply} c.in_ok-push.ensures.items) more,
        next.2,
      ));
}

pub returns-in_err-push-clause-stopped : goal.returns-in_err-push-clause-stopped
returns-in_err-push-clause-stopped c =
    let front = c.loop-command.yielded ++ c.in-Some.command ∷ [] in
    let rest = c.next.new.self.rest.items in
    let all : front ++ rest ≡ c.args.commands.items =
    append_assoc c.loop-command.yielded (c.in-Some.command ∷ []) rest ∙
    ap (λ l. c.loop-command.yielded ++ l) (sym c.in-Some.ensures.steps.0) ∙ c.loop-command.invariant.all in
    on_err c.from_residual.result _ (λ s stands.
    (let at = c.loop-command.invariant.run s stands in
    let next = c.apply-reply.ensures.step at.0 at.2 in
    let more = run_more c.loop-command.yielded c.loop-command.replies.items s at.0 next.0 c.in-Some.command c.apply-reply.result at.1
    next.1 (c.apply-reply.ensures.last at.0 at.2) in
    (next.0, run_first front rest c.args.commands.items _ s next.0 all more, next.2)))
