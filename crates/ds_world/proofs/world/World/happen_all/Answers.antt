use Rattle.std.proofs.Common.{◌≡◌, refl, arith, ◌≤◌, List, ap, subst, sym, ◌∙◌, ◌+◌, ◌++◌, ◌∷◌, [], length, append_assoc}
use Rattle.std.proofs.lemmas.List.{length_push}
use Rattle.ds_replica.specs.declared.event.Event.{Event}
use Rattle.ds_replica.specs.declared.outcome.Outcome.{Outcome}
use Rattle.ds_world.specs.Run.{paired, RunLeads}
use Rattle.ds_world.specs.Told.{AreTold}
use Rattle.ds_world.proofs.RunLemmas.{all_happened, one_left, run_more, told_more}
use Rattle.ds_world.proofs.world.World.happen_all.Goals as goal

pub loop-event-preserved : goal.loop-event-preserved
loop-event-preserved c =
    let before = c.loop-event.yielded in
    let outcomes = c.loop-event.outcomes.items in
    let push = c.push_reserved.ensures.items in
    let more = run_more before outcomes c.args.self.now c.loop-event.self c.happen.new.self c.in-Some.event c.happen.result
    c.loop-event.invariant.one_each c.loop-event.invariant.done c.happen.ensures.leads in
    let told = told_more before outcomes c.args.self.now c.loop-event.self c.happen.new.self c.in-Some.event c.happen.result
    c.loop-event.invariant.one_each c.loop-event.invariant.told c.happen.ensures.leads c.happen.ensures.told in
    record {
      all = append_assoc before (c.in-Some.event ∷ []) c.next.new.self.rest.items ∙ ap (λ l. before ++ l) (sym c.in-Some.ensures.steps.0) ∙
          c.loop-event.invariant.all;
      one_each = ap length push ∙ length_push outcomes c.happen.result ∙ ap (λ n. n + 1) c.loop-event.invariant.one_each ∙
          sym (length_push before c.in-Some.event);
      room = subst (λ n. length c.args.events ≤ n) (sym c.push_reserved.ensures.capacity) c.loop-event.invariant.room;
      done = subst (λ (l : List Outcome). RunLeads (before ++ c.in-Some.event ∷ []) l c.args.self.now c.happen.new.self) (sym push) more;
      told = subst (λ (l : List Outcome). AreTold c.args.self.now (paired (before ++ c.in-Some.event ∷ []) l) c.happen.new.self) (sym push)
          told;
    }

pub loop-event-init : goal.loop-event-init
loop-event-init c = record {
  all = c.into_iter-event-iterator.ensures.into_iter_gives.0 ∙ c.into_list-event-items.ensures;
  one_each = ap length c.requires.none;
  room = c.requires.room;
  done = λ w s. (w, refl, s);
  told = refl;
}

pub returns-clause-one_each : goal.returns-clause-one_each
returns-clause-one_each c =
    let left = c.loop-event.event-iterator.rest in
    let none : length left.items ≡ 0 = omega (arith, left.ok.0, c.in-None.ensures.steps.0) in
    let all = all_happened c.loop-event.yielded left.items c.args.events c.loop-event.invariant.all none in
    ap length c.of.ensures ∙ c.loop-event.invariant.one_each ∙ ap length all

pub returns-clause-done : goal.returns-clause-done
returns-clause-done c =
    let left = c.loop-event.event-iterator.rest in
    let none : length left.items ≡ 0 = omega (arith, left.ok.0, c.in-None.ensures.steps.0) in
    let all = all_happened c.loop-event.yielded left.items c.args.events c.loop-event.invariant.all none in
    subst (λ (es : List Event). RunLeads es c.of.result c.args.self.now c.loop-event.self) all
    (subst (λ (os : List Outcome). RunLeads c.loop-event.yielded os c.args.self.now c.loop-event.self) (sym c.of.ensures)
    c.loop-event.invariant.done)

pub returns-clause-told : goal.returns-clause-told
returns-clause-told c =
    let left = c.loop-event.event-iterator.rest in
    let none : length left.items ≡ 0 = omega (arith, left.ok.0, c.in-None.ensures.steps.0) in
    let all = all_happened c.loop-event.yielded left.items c.args.events c.loop-event.invariant.all none in
    subst (λ (es : List Event). AreTold c.args.self.now (paired es c.of.result) c.loop-event.self) all
    (subst (λ (os : List Outcome). AreTold c.args.self.now (paired c.loop-event.yielded os) c.loop-event.self) (sym c.of.ensures)
    c.loop-event.invariant.told)

pub push_reserved-requires : goal.push_reserved-requires
push_reserved-requires c =
    let q = c.loop-event in
    let more = one_left q.yielded q.event-iterator.rest.items c.next.new.self.rest.items c.args.events c.in-Some.event q.invariant.all
    c.in-Some.ensures.steps.0 in
    omega (arith, more, q.invariant.one_each, q.invariant.room, q.outcomes.ok.0)
