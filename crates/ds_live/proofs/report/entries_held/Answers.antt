use Rattle.std.proofs.Common.{◌≡◌, ◌≤◌, ◌++◌, ◌∷◌, [], Some, None, true, false, length, inl, inr, ap, sym, ◌∙◌, subst, arith}
use Rattle.std.specs.List.{slice_get}
use Rattle.std.specs.Option.{is_some, option_copied}
use Rattle.std.proofs.lemmas.List.{take_all}
use Rattle.std.proofs.lemmas.Option.{slice_get_cases}
use Rattle.ds_entry.specs.declared.body.Body.{Body}
use Rattle.ds_entry.specs.declared.item.Item.TheVariants.{Change as Changed}
use Rattle.ds_entry.specs.Left.{value_in, leaves_value}
use Rattle.ds_held.specs.Held.{held_changes}
use Rattle.ds_held.proofs.HeldLemmas.{count_is}
use Rattle.ds_submap.proofs.EntryLemmas.{held_puts, put_added, puts_of, tombstone_passed}
use Rattle.ds_live.proofs.report.entries_held.Goals as goal
use Rattle.ds_live.proofs.report.entries_held.Goals.{In-Some, in-Put+in_ok-copy+in_ok-push, in_default-body}

-- there is a change at each index below the number of keys
pub unreachable-requires : goal.unreachable-requires
unreachable-requires c =
    let held = held_changes c.args.held.now in
    let none : None ≡ slice_get held c.loop-index.index =
    subst (λ o. option_copied o ≡ slice_get held c.loop-index.index) c.in_default.is c.at.ensures.value in
    elim (slice_get_cases held c.loop-index.index).1 [
      | inl h ↦ (let no : None ≡ Some h.0 = none ∙ h.2 in absurd (cc))
      | inr h ↦ omega (arith, h.0, c.loop-index-test.true, c.len-index-end.ensures.count, count_is c.args.held.now)
    ]

there : (c : In-Some) → slice_get (held_changes c.args.held.now) c.loop-index.index ≡ Some c.in-Some.change.now
there c = sym (subst (λ o. option_copied o ≡ slice_get (held_changes c.args.held.now) c.loop-index.index) c.in-Some.is c.at.ensures.value)

pub loop-index-preserved : goal.loop-index-preserved
loop-index-preserved c =
    let all = held_changes c.args.held.now in
    let i = c.loop-index.index in
    let x = c.in-Some.change.now in
    let at = there (goal.at.loop-index-preserved c).In-Some in
    let before = c.loop-index.invariant in
    elim c.match-body.branch [
      | in-Put+in_ok-copy+in_ok-push w ↦
          (let put : leaves_value x ≡ true = ap (λ (b : Body). is_some (value_in b)) (sym c.body.ensures.value ∙ w.in-Put.is) in
          let puts : c.match-body.puts ≡ c.loop-index.puts ++ Changed x ∷ [] =
          w.puts-is ∙ w.in_ok-push.ensures.ok ∙ ap (λ y. c.loop-index.puts ++ Changed y ∷ []) w.in_ok-copy.ensures.same in
          puts ∙ ap (λ l. l ++ Changed x ∷ []) before ∙ put_added all i x at put)
      | in_default-body w ↦
          (let gone : leaves_value x ≡ false = ap (λ (b : Body). is_some (value_in b)) (sym c.body.ensures.value ∙ w.in_default-body.is) in
          w.puts-is ∙ before ∙ tombstone_passed all i x at gone)
    ]

-- the loop ends with the puts of all
pub returns : goal.returns
returns c =
    let held = held_changes c.args.held.now in
    let many : length held ≤ c.loop-index.index =
    omega (arith, c.loop-index-test.false, c.len-index-end.ensures.count, count_is c.args.held.now) in
    c.loop-index.invariant ∙ ap puts_of (take_all c.loop-index.index held many) ∙ sym (held_puts c.args.held.now)
