use Rattle.std.proofs.Common.{◌≡◌, [], ◌∷◌, ◌++◌, Some, take, List, sym, subst, arith}
use Rattle.std.specs.List.{slice_get}
use Rattle.std.specs.Option.{option_copied}
use Rattle.ds_machine.specs.declared.reply.Reply.{Reply}
use Rattle.std.specs.Prelude.{Option}
use Rattle.rs_core.specs.declared.action.Action.{Action}
use Rattle.rs_store.specs.Serving.{TurnsFor}
use Rattle.rs_to_store.proofs.ListLemmas.{less_taken, next_taken}
use Rattle.rs_store.proofs.ServeLemmas.{turns_long, turns_more}
use Rattle.rs_store.proofs.serving.pass_on.Goals as goal

pub push_reserved-requires : goal.push_reserved-requires
push_reserved-requires c =
    let acts = c.args.actions.now in
    let long = turns_long (take c.loop-index.index acts) c.loop-index.replies.items c.args.store.now c.loop-index.store
    c.loop-index.invariant.turns in
    let less = less_taken acts c.loop-index.index in
    omega (arith, long, less, c.len-index-end.ensures, c.loop-index-test.true, c.requires.room, c.loop-index.invariant.space)

pub loop-index-preserved : goal.loop-index-preserved
loop-index-preserved c =
    let acts = c.args.actions.now in
    let i = c.loop-index.index in
    let x = c.in-Some.action.now in
    let at : slice_get acts i ≡ Some x = sym (subst (λ o. option_copied o ≡ slice_get acts i) c.in-Some.is c.get.ensures) in
    record {
      turns = subst (λ (l : List Action). TurnsFor c.args.store.now l c.push_reserved.new.self.items c.turn_for.new.store)
          (next_taken acts i x at)
          (subst (λ (l : List (Option Reply)). TurnsFor c.args.store.now (take i acts ++ x ∷ []) l c.turn_for.new.store)
          (sym c.push_reserved.ensures.items)
          (turns_more (take i acts) c.loop-index.replies.items c.args.store.now c.loop-index.store c.turn_for.new.store x c.turn_for.result
          c.loop-index.invariant.turns c.turn_for.ensures));
      space = cc;
    }
