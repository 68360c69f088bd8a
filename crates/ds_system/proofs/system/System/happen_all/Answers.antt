use Rattle.std.proofs.Common.{◌≤◌, List, ap, subst, sym, ◌∙◌, ◌+◌, ◌++◌, ◌∷◌, [], length, append_assoc}
use Rattle.std.proofs.lemmas.List.{length_push}
use Rattle.ds_system.specs.declared.outcome.SystemOutcome.{SystemOutcome}
use Rattle.ds_system.specs.Since.{SystemRunLeads}
use Rattle.ds_system.proofs.RunLemmas.{run_more}
use Rattle.ds_system.proofs.system.System.happen_all.Goals as goal

pub loop-event-preserved : goal.loop-event-preserved
loop-event-preserved c =
    let before = c.loop-event.yielded in
    let outcomes = c.loop-event.outcomes.items in
    let push = c.push_reserved.ensures.items in
    let more = run_more c.args.self.now c.loop-event.self c.happen.new.self before outcomes c.in-Some.event c.happen.result
    c.loop-event.invariant.done c.happen.ensures in
    record {
      all = append_assoc before (c.in-Some.event ∷ []) c.next.new.self.rest.items ∙ ap (λ l. before ++ l) (sym c.in-Some.ensures.steps.0) ∙
          c.loop-event.invariant.all;
      one_each = ap length push ∙ length_push outcomes c.happen.result ∙ ap (λ n. n + 1) c.loop-event.invariant.one_each ∙
          sym (length_push before c.in-Some.event);
      room = subst (λ n. length c.args.events ≤ n) (sym c.push_reserved.ensures.capacity) c.loop-event.invariant.room;
      done = subst (λ (l : List SystemOutcome). SystemRunLeads (before ++ c.in-Some.event ∷ []) l c.args.self.now c.happen.new.self)
          (sym push) more;
    }
