use Rattle.std.proofs.Common.{◌≡◌, ◌≢◌, ◌+◌, ◌-◌, ◌<◌, ◌++◌, [], take, drop, length, map, Bool, true, Some, ap, sym, subst, ◌∙◌, arith}
use Rattle.std.proofs.lemmas.Option.{slice_get_within}
use Rattle.std.specs.List.{slice_get}
use Rattle.ds_names.specs.declared.key.Key.{Key}
use Rattle.ds_held.specs.Held.{change_item, held_changes}
use Rattle.ds_held.proofs.HeldLemmas.{count_is}
use Rattle.ds_content.specs.Paging.{admitted, more_after, given_change, ChangesArePaged}
use Rattle.ds_entry.specs.Change.{ChangeRecord}
use Rattle.ds_content.proofs.OpenLemmas.{on_err}
use Rattle.ds_content.proofs.PagingLemmas.{from_there, past_all, paged_starts, paged_all, paged_full, paged_stops, paged_more, kept_some}
use Rattle.ds_content.proofs.PagingLemmas.{taken_some}
use Rattle.ds_content.proofs.content.paging.add_changes.Goals as goal

pub loop-change-init : goal.loop-change-init
loop-change-init g c = record {
  low = omega arith;
  paged =
      subst (λ n. ChangesArePaged (g.S.KeyScope.keeps c.args.scope.now) (drop c.args.first (held_changes c.args.held.now)) n c.args.max
      c.args.max c.args.items.now c.args.items.now) {x = 0} {y = c.args.first - c.args.first} (omega arith)
      (paged_starts (g.S.KeyScope.keeps c.args.scope.now) (drop c.args.first (held_changes c.args.held.now)) c.args.max c.args.items.now);
  same = λ i. g.S.KeyScope.keeps c.args.scope.now;
}

pub overflow_add-index : goal.overflow_add-index
overflow_add-index g c =
    let cs = held_changes c.args.held.now in
    let within : c.loop-change.index < length cs =
    slice_get_within cs c.loop-change.index c.in-Some.change.now (sym c.in-Some.ensures.value) in
    let count = count_is c.args.held.now in
    omega (arith, within, count, c.len-count.ensures.count)

pub loop-change-smaller : goal.loop-change-smaller
loop-change-smaller g c =
    let cs = held_changes c.args.held.now in
    let within : c.loop-change.index < length cs =
    slice_get_within cs c.loop-change.index c.in-Some.change.now (sym c.in-Some.ensures.value) in
    omega (arith, within)

pub loop-change-preserved : goal.loop-change-preserved
loop-change-preserved g c =
    let keep = g.S.KeyScope.keeps c.args.scope.now in
    let cs = held_changes c.args.held.now in
    let all = drop c.args.first cs in
    let seen = c.loop-change.index - c.args.first in
    let change = c.in-Some.change.now in
    let there : slice_get all seen ≡ Some change =
    from_there c.args.first c.loop-change.index cs c.loop-change.invariant.low ∙ sym c.in-Some.ensures.value in
    let told = c.in_ok-more.ensures.more ∙ ap (λ (k : Key → Bool). more_after (k change.key) c.loop-change.left)
    c.loop-change.invariant.same in
    let added = c.in_ok-more.ensures.added ∙ ap
    (λ (k : Key → Bool). c.loop-change.items ++ map change_item (given_change (k change.key) c.loop-change.left change))
    c.loop-change.invariant.same in
    let low = c.loop-change.invariant.low in
    record {
      low = omega (arith, low);
      paged =
          subst (λ n. ChangesArePaged keep all n c.args.max c.in-Some-2.more c.args.items.now c.add_change.new.items) {x = seen + 1}
          {y = c.loop-change.index + 1 - c.args.first} (omega (arith, low))
          (paged_more keep all c.args.max c.args.items.now seen c.loop-change.left c.loop-change.items c.loop-change.invariant.paged change
          there (keep change.key) (λ i. keep change.key)
          c.in-Some-2.more (sym c.in-Some-2.is ∙ told) c.add_change.new.items added);
      same = c.in_ok-more.ensures.scope ∙ c.loop-change.invariant.same;
    }

pub returns-in-None-clause-added : goal.returns-in-None-clause-added
returns-in-None-clause-added g c =
    let keep = g.S.KeyScope.keeps c.args.scope.now in
    let cs = held_changes c.args.held.now in
    let all = drop c.args.first cs in
    let seen = c.loop-change.index - c.args.first in
    let change = c.in-Some.change.now in
    let there : slice_get all seen ≡ Some change =
    from_there c.args.first c.loop-change.index cs c.loop-change.invariant.low ∙ sym c.in-Some.ensures.value in
    let told = c.in_ok-more.ensures.more ∙ ap (λ (k : Key → Bool). more_after (k change.key) c.loop-change.left)
    c.loop-change.invariant.same in
    let added = c.in_ok-more.ensures.added ∙ ap
    (λ (k : Key → Bool). c.loop-change.items ++ map change_item (given_change (k change.key) c.loop-change.left change))
    c.loop-change.invariant.same in
    paged_stops keep all c.args.max c.args.items.now seen c.loop-change.left c.loop-change.items c.loop-change.invariant.paged change there
    (keep change.key)
    (λ i. keep change.key) (sym c.in-None.is ∙ told) c.add_change.new.items added

pub returns-in-None-clause-last : goal.returns-in-None-clause-last
returns-in-None-clause-last g c =
    let keep = g.S.KeyScope.keeps c.args.scope.now in
    let cs = held_changes c.args.held.now in
    let all = drop c.args.first cs in
    let seen = c.loop-change.index - c.args.first in
    let change = c.in-Some.change.now in
    let there : slice_get all seen ≡ Some change =
    from_there c.args.first c.loop-change.index cs c.loop-change.invariant.low ∙ sym c.in-Some.ensures.value in
    let told = c.in_ok-more.ensures.more ∙ ap (λ (k : Key → Bool). more_after (k change.key) c.loop-change.left)
    c.loop-change.invariant.same in
    sym (paged_full keep all c.args.max c.args.items.now seen c.loop-change.left c.loop-change.items c.loop-change.invariant.paged change
    there (keep change.key) (λ i. keep change.key) (sym c.in-None.is ∙ told)).1

pub returns-clause-added : goal.returns-clause-added
returns-clause-added g c =
    let cs = held_changes c.args.held.now in
    (paged_all (g.S.KeyScope.keeps c.args.scope.now) (drop c.args.first cs) c.args.max c.args.items.now
    (c.loop-change.index - c.args.first) c.loop-change.left c.loop-change.items
    c.loop-change.invariant.paged (past_all c.args.first c.loop-change.index cs c.loop-change.invariant.low
    (sym c.in_default.ensures.value))).0

pub returns-clause-last : goal.returns-clause-last
returns-clause-last g c =
    let cs = held_changes c.args.held.now in
    sym (paged_all (g.S.KeyScope.keeps c.args.scope.now) (drop c.args.first cs) c.args.max c.args.items.now
    (c.loop-change.index - c.args.first) c.loop-change.left c.loop-change.items
    c.loop-change.invariant.paged (past_all c.args.first c.loop-change.index cs c.loop-change.invariant.low
    (sym c.in_default.ensures.value))).1

-- the change that memory runs out for is one to return
pub returns-in_err-more-clause-lacks : goal.returns-in_err-more-clause-lacks
returns-in_err-more-clause-lacks g c =
    let keep = g.S.KeyScope.keeps c.args.scope.now in
    let cs = held_changes c.args.held.now in
    let all = drop c.args.first cs in
    let seen = c.loop-change.index - c.args.first in
    let change = c.in-Some.change.now in
    let there : slice_get all seen ≡ Some change =
    from_there c.args.first c.loop-change.index cs c.loop-change.invariant.low ∙ sym c.in-Some.ensures.value in
    let lack = c.in_err-more.ensures.lacks in
    let kept : keep change.key ≡ true = ap (λ (k : Key → Bool). k change.key) (sym c.loop-change.invariant.same) ∙ lack.0 in
    on_err c.from_residual.result (map change_item (take c.args.max (admitted keep all)) ≢ [])
    (taken_some c.args.max (admitted keep all) (omega (arith, lack.1, c.loop-change.invariant.paged.count))
    (kept_some (λ (x : ChangeRecord). keep x.key) all seen change there kept))
