use Rattle.std.proofs.Common.{rules, ◌≡◌, true, ◌+◌, ◌++◌, ◌∷◌, ◌-◌, [], length, drop, filter, Some, List, Bool, cond, ap, sym, ◌∙◌, subst}
use Rattle.std.proofs.Common.{arith}
use Rattle.std.specs.List.{slice_get}
use Rattle.std.specs.Option.{option_copied}
use Rattle.ds_names.specs.declared.key.Key.{Key}
use Rattle.ds_entry.specs.declared.item.Item.{Item}
use Rattle.ds_entry.specs.Item.{passes}
use Rattle.ds_feed.specs.Since.{prefix}
use Rattle.std.proofs.lemmas.Option.{slice_get_within}
use Rattle.ds_feed.specs.Kept.{Kept}
use Rattle.ds_feed.proofs.FeedLemmas.{prefix_next, given_more, nothing_wanted, nothing_left, all_given, some_given}
use Rattle.ds_feed.proofs.journal.Journal.since_under.Goals as goal
use Rattle.ds_feed.proofs.journal.Journal.since_under.Goals.{then-branch, else-branch, else-loop-left-test, then-loop-left-test+in_default}

pub overflow_add-result : goal.overflow_add-result
overflow_add-result g c =
    omega (
      arith,
      ap (λ (j : Kept). length j.items) c.self.view_is,
      c.loop-left.invariant.within,
      c.loop-left.invariant.forward,
      c.in_ok-start.ensures.room,
      c.in_ok-start.ensures.within,
    )

pub loop-left-preserved : goal.loop-left-preserved
loop-left-preserved g c =
    let test = passes (g.S.KeyScope.keeps c.args.scope.now) in
    let kept = c.self.inside.items.items in
    let x = c.in-Some.item.now in
    let left = c.loop-left.left in
    let same = c.loop-left.invariant.same in
    let told : c.in_ok-add.field-0 ≡ test x = c.in_ok-add.ensures.told ∙ ap (λ (keeps : Key → Bool). passes keeps x) same in
    let here : slice_get kept c.loop-left.next ≡ Some x = sym c.get.ensures ∙ ap option_copied c.in-Some.is in
    let after : c.if-branch.left ≡ cond (test x) (left - 1) left =
    elim c.if-branch.branch [
      | then-branch w ↦ w.left-is ∙ ap (λ (b : Bool). cond b (left - 1) left) (sym w.if-branch.true ∙ told)
      | else-branch w ↦ w.left-is ∙ ap (λ (b : Bool). cond b (left - 1) left) (sym w.if-branch.false ∙ told)
    ] in
    let rest = prefix test c.if-branch.left (drop (c.loop-left.next + 1) kept) in
    let next : prefix test left (drop c.loop-left.next kept) ≡ x ∷ rest =
    prefix_next test left kept c.loop-left.next x c.if-branch.left (omega (arith, c.loop-left-test.true)) here after in
    let all = filter test (prefix test c.args.max (drop c.in_ok-start.start kept)) in
    let longer = ap length next in
    let reach = c.loop-left.invariant.reach in
    let forward = c.loop-left.invariant.forward in
    let within = slice_get_within kept c.loop-left.next x here in
    let added : c.add.new.items ≡ c.loop-left.items ++ filter test (x ∷ []) =
    c.in_ok-add.ensures.added ∙ ap (λ (keeps : Key → Bool). c.loop-left.items ++ filter (passes keeps) (x ∷ [])) same in
    record {
      items = given_more test c.loop-left.items c.add.new.items x rest all
          (subst (λ (l : List Item). c.loop-left.items ++ filter test l ≡ all) next c.loop-left.invariant.items) added;
      reach = omega arith;
      forward = omega arith;
      within = omega arith;
      same = c.in_ok-add.ensures.scope ∙ same;
    }

pub returns-clause-given : goal.returns-clause-given
returns-clause-given g c = λ f k.
    let test = passes (g.S.KeyScope.keeps c.args.scope.now) in
    let kept = c.self.inside.items.items in
    let next = c.loop-left.next in
    let found = c.in_ok-start.ensures.found f k in
    let there = ap (λ (j : Kept). drop c.in_ok-start.start j.items) c.self.view_is ∙ found.1 in
    let none : prefix test c.loop-left.left (drop next kept) ≡ [] =
    elim c.loop-left-test.branch [
      | else-loop-left-test w ↦ nothing_wanted test c.loop-left.left (drop next kept) w.loop-left-test.false
      | then-loop-left-test+in_default w ↦ nothing_left test c.loop-left.left kept next
          (sym w.get.ensures ∙ ap option_copied w.in_default.is)
    ] in
    all_given f test c.args.cursor c.args.max c.loop-left.items _ c.in_ok-start.start next kept
    (prefix test c.loop-left.left (drop next kept)) found.0 there none c.loop-left.invariant.items c.loop-left.invariant.reach
    (search rules)

pub loop-left-smaller : goal.loop-left-smaller
loop-left-smaller g c =
    let kept = c.self.inside.items.items in
    let x = c.in-Some.item.now in
    let here : slice_get kept c.loop-left.next ≡ Some x = sym c.get.ensures ∙ ap option_copied c.in-Some.is in
    let within = slice_get_within kept c.loop-left.next x here in
    omega (arith, within)

-- the item that memory runs out for is one to return
pub returns-in_err-add-clause-lacks : goal.returns-in_err-add-clause-lacks
returns-in_err-add-clause-lacks g c = λ f k _ none.
    let test = passes (g.S.KeyScope.keeps c.args.scope.now) in
    let kept = c.self.inside.items.items in
    let next = c.loop-left.next in
    let left = c.loop-left.left in
    let x = c.in-Some.item.now in
    let here : slice_get kept next ≡ Some x = sym c.get.ensures ∙ ap option_copied c.in-Some.is in
    let kept_so : test x ≡ true = ap (λ (keeps : Key → Bool). passes keeps x) (sym c.loop-left.invariant.same) ∙
    c.in_err-add.ensures.lacks in
    let after = cond (test x) (left - 1) left in
    let rest = prefix test after (drop (next + 1) kept) in
    let first : prefix test left (drop next kept) ≡ x ∷ rest =
    prefix_next test left kept next x after (omega (arith, c.loop-left-test.true)) here (λ i. after) in
    let found = c.in_ok-start.ensures.found f k in
    let there = ap (λ (j : Kept). drop c.in_ok-start.start j.items) c.self.view_is ∙ found.1 in
    let all = subst (λ (l : List Item). c.loop-left.items ++ filter test l ≡ filter test
    (prefix test c.args.max (drop c.in_ok-start.start kept))) first c.loop-left.invariant.items in
    some_given test c.loop-left.items rest x kept_so (all ∙ ap (λ (l : List Item). filter test (prefix test c.args.max l)) there ∙ none)
