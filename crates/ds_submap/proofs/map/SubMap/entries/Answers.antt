use Rattle.std.proofs.Common.{◌≡◌, ◌≤◌, ◌++◌, ◌∷◌, [], All, Some, None, true, false, length, inl, inr, ap, sym, ◌∙◌, subst, arith}
use Rattle.std.specs.List.{slice_get}
use Rattle.std.specs.Option.{is_some, option_copied}
use Rattle.std.proofs.lemmas.List.{take_all}
use Rattle.std.proofs.lemmas.List.Elements.{All-push}
use Rattle.std.proofs.lemmas.Option.{slice_get_cases}
use Rattle.ds_entry.specs.declared.body.Body.{Body}
use Rattle.ds_entry.specs.declared.item.Item.TheVariants.{Change as Changed}
use Rattle.ds_entry.specs.Item.{IsItem}
use Rattle.ds_held.specs.Held.{held_changes, held_items, IsSound}
use Rattle.ds_submap.specs.Floors.{AreSwept}
use Rattle.ds_submap.specs.Map.{SubMapRecord}
use Rattle.ds_submap.proofs.EntryLemmas.{held_puts, put_added, put_on_err, puts_of, tombstone_passed}
use Rattle.ds_submap.proofs.MapLemmas.{entries_swept}
use Rattle.ds_submap.proofs.map.SubMap.entries.Goals as goal
use Rattle.ds_submap.proofs.map.SubMap.entries.Goals.{After-loop-index, In-Some, in-Put+in_ok-copy+in_ok-push, in_default-body}
use Rattle.ds_entry.specs.Left.{value_in, leaves_value}
use Rattle.ds_entry.specs.Under.{entries_of}
use Rattle.ds_held.proofs.HeldLemmas.{count_is}

-- There is a change at each index below the number of keys.
pub unreachable-requires : goal.unreachable-requires
unreachable-requires c =
    let held = held_changes c.self.inside.held in
    let none : None ≡ slice_get held c.loop-index.index =
    subst (λ o. option_copied o ≡ slice_get held c.loop-index.index) c.in_default.is c.at.ensures.value in
    elim (slice_get_cases held c.loop-index.index).1 [
      | inl h ↦ (let no : None ≡ Some h.0 = none ∙ h.2 in absurd (cc))
      | inr h ↦ omega (arith, h.0, c.loop-index-test.true, c.len-index-end.ensures.count, count_is c.self.inside.held)
    ]

there : (c : In-Some) → slice_get (held_changes c.args.self.now.held) c.loop-index.index ≡ Some c.in-Some.change.now
there c =
    subst (λ (m : SubMapRecord). slice_get (held_changes m.held) c.loop-index.index ≡ Some c.in-Some.change.now) c.self.view_is
    (sym (subst (λ o. option_copied o ≡ slice_get (held_changes c.self.inside.held) c.loop-index.index) c.in-Some.is c.at.ensures.value))

pub loop-index-preserved : goal.loop-index-preserved
loop-index-preserved c =
    let all = held_changes c.args.self.now.held in
    let i = c.loop-index.index in
    let x = c.in-Some.change.now in
    let at = there (goal.at.loop-index-preserved c).In-Some in
    let before = c.loop-index.invariant in
    elim c.match-body.branch [
      | in-Put+in_ok-copy+in_ok-push w ↦
          (let put : leaves_value x ≡ true = ap (λ (b : Body). is_some (value_in b)) (sym c.body.ensures.value ∙ w.in-Put.is) in
          let puts : c.match-body.puts ≡ c.loop-index.puts ++ Changed x ∷ [] =
          w.puts-is ∙ w.in_ok-push.ensures.ok ∙ ap (λ y. c.loop-index.puts ++ Changed y ∷ []) w.in_ok-copy.ensures.same in
          record {
            kept = puts ∙ ap (λ l. l ++ Changed x ∷ []) before.kept ∙ put_added all i x at put;
            items = subst (All IsItem) (sym puts) (All-push IsItem c.loop-index.puts (Changed x) before.items c.body.ensures.change);
          })
      | in_default-body w ↦
          (let gone : leaves_value x ≡ false = ap (λ (b : Body). is_some (value_in b)) (sym c.body.ensures.value ∙ w.in_default-body.is) in
          record {
            kept = w.puts-is ∙ before.kept ∙ tombstone_passed all i x at gone;
            items = subst (All IsItem) (sym w.puts-is) before.items;
          })
    ]

-- the loop ends with the puts of all
all_puts : (c : After-loop-index) → c.loop-index.puts ≡ entries_of (held_items c.args.self.now.held)
all_puts c =
    let held = held_changes c.args.self.now.held in
    let many : length held ≤ c.loop-index.index =
    subst (λ (m : SubMapRecord). length (held_changes m.held) ≤ c.loop-index.index) c.self.view_is
    (omega (arith, c.loop-index-test.false, c.len-index-end.ensures.count, count_is c.self.inside.held)) in
    c.loop-index.invariant.kept ∙ ap puts_of (take_all c.loop-index.index held many) ∙ sym (held_puts c.args.self.now.held)

pub returns-clause-value : goal.returns-clause-value
returns-clause-value c = all_puts c

pub returns-clause-floors : goal.returns-clause-floors
returns-clause-floors c =
    let sound : IsSound c.args.self.now.held = subst (λ (m : SubMapRecord). IsSound m.held) c.self.view_is c.self.invariant.sound in
    subst (AreSwept (held_items c.args.self.now.held)) (sym (all_puts c)) (entries_swept c.args.self.now.held sound)

-- the body of the change is a put
is_put_there : (c : In-Some) (b : Body) → c.in-Some.change.now.body ≡ b → is_some (value_in b) ≡ true →
    leaves_value c.in-Some.change.now ≡ true
is_put_there c b is put = ap (λ (b : Body). is_some (value_in b)) is ∙ put

pub returns-in_err-copy-clause-room : goal.returns-in_err-copy-clause-room
returns-in_err-copy-clause-room c =
    let d = (goal.at.returns-in_err-copy-clause-room c).In-Some in
    put_on_err c.args.self.now.held c.loop-index.index c.in-Some.change.now (there d)
    (is_put_there d c.body.result.now (sym c.body.ensures.value) (ap (λ (b : Body). is_some (value_in b)) c.in-Put.is))
    c.from_residual.result

pub returns-in_err-push-clause-room : goal.returns-in_err-push-clause-room
returns-in_err-push-clause-room c =
    let d = (goal.at.returns-in_err-push-clause-room c).In-Some in
    put_on_err c.args.self.now.held c.loop-index.index c.in-Some.change.now (there d)
    (is_put_there d c.body.result.now (sym c.body.ensures.value) (ap (λ (b : Body). is_some (value_in b)) c.in-Put.is))
    c.from_residual-in_err-push.result
