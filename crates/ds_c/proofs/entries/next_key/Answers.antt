use Rattle.std.proofs.Common.{◌≡◌, ◌≤◌, Option, Some, None, true, false, length, inl, inr, ap, sym, ◌∙◌, subst, arith, drop, filter}
use Rattle.std.specs.List.{find, slice_get}
use Rattle.std.specs.Option.{is_some, option_copied, option_map}
use Rattle.std.proofs.lemmas.Option.{slice_get_cases}
use Rattle.ds_entry.specs.Left.{leaves_value, value_in}
use Rattle.ds_entry.specs.Change.{ChangeRecord}
use Rattle.ds_entry.specs.declared.body.Body.{Body}
use Rattle.ds_held.specs.Held.{held_changes}
use Rattle.ds_join.specs.Reading.{comes_after}
use Rattle.ds_names.specs.declared.key.Key.{Key}
use Rattle.ds_held.proofs.HeldLemmas.{count_is}
use Rattle.ds_c.proofs.EntryLemmas.{none_left, rest_find}
use Rattle.ds_c.proofs.entries.next_key.Goals as goal

-- there is a change at each index below the number of keys
pub unreachable-requires : goal.unreachable-requires
unreachable-requires c =
    let held = held_changes c.args.held.now in
    let none : None ≡ slice_get held c.loop-index.index =
    subst (λ o. option_copied o ≡ slice_get held c.loop-index.index) c.in_default.is c.at.ensures.value in
    elim (slice_get_cases held c.loop-index.index).1 [
      | inl h ↦ (let no : None ≡ Some h.0 = none ∙ h.2 in absurd (cc))
      | inr h ↦ omega (arith, h.0, c.loop-index-test.true, c.len-index-end.ensures.count, count_is c.args.held.now)
    ]

pub loop-index-preserved : goal.loop-index-preserved
loop-index-preserved c =
    let all = held_changes c.args.held.now in
    let x = c.in-Some.change.now in
    let at : slice_get all c.loop-index.index ≡ Some x =
    sym (subst (λ o. option_copied o ≡ slice_get all c.loop-index.index) c.in-Some.is c.at.ensures.value) in
    let gone : leaves_value x ≡ false = ap (λ (b : Body). is_some (value_in b)) (sym c.body.ensures.value ∙ c.in_default-body.is) in
    sym (rest_find leaves_value all c.loop-index.index x false at gone) ∙ c.loop-index.invariant

pub returns-in-Put : goal.returns-in-Put
returns-in-Put c =
    let all = held_changes c.args.held.now in
    let x = c.in-Some.change.now in
    let at : slice_get all c.loop-index.index ≡ Some x =
    sym (subst (λ o. option_copied o ≡ slice_get all c.loop-index.index) c.in-Some.is c.at.ensures.value) in
    let put : leaves_value x ≡ true = ap (λ (b : Body). is_some (value_in b)) (sym c.body.ensures.value ∙ c.in-Put.is) in
    let begins : drop c.begin_after-begin.result all ≡ filter (comes_after c.args.after) all =
    c.begin_after-begin.ensures.begin ∙ ap (λ (o : Option Key). filter (comes_after o) all) c.as_ref.ensures.value in
    ap Some c.key.ensures.value ∙ ap (option_map (λ (x : ChangeRecord). x.key))
    (sym (ap (find leaves_value) (sym begins) ∙ sym c.loop-index.invariant
    ∙ rest_find leaves_value all c.loop-index.index x true at put))

pub returns : goal.returns
returns c =
    let all = held_changes c.args.held.now in
    let many : length all ≤ c.loop-index.index =
    omega (arith, c.loop-index-test.false, c.len-index-end.ensures.count, count_is c.args.held.now) in
    let begins : drop c.begin_after-begin.result all ≡ filter (comes_after c.args.after) all =
    c.begin_after-begin.ensures.begin ∙ ap (λ (o : Option Key). filter (comes_after o) all) c.as_ref.ensures.value in
    ap (option_map (λ (x : ChangeRecord). x.key))
    (sym (ap (find leaves_value) (sym begins) ∙ sym c.loop-index.invariant
    ∙ none_left leaves_value all c.loop-index.index many))
