use Rattle.std.proofs.Common.{rules, ◌≡◌, ◌≢◌, ◌+◌, ◌<◌, ◌≤◌, ◌++◌, ◌∙◌, [], length, sym, ap, subst, refl, arith, List, ℕ, true, append-nil}
use Rattle.std.proofs.lemmas.Bool.{eqb-false}
use Rattle.ds_entry.specs.declared.item.Item.{Item}
use Rattle.ds_content.specs.Stands.{ContentStands}
use Rattle.ds_feed.specs.declared.cursor.Cursor.{Cursor}
use Rattle.ds_line.proofs.AnswerLemmas.{most_at}
use Rattle.ds_machine.specs.declared.refusal.Refusal.TheVariants as refusals
use Rattle.ds_machine.specs.declared.reply.Reply.{Reply}
use Rattle.ds_machine.specs.declared.reply.Reply.TheVariants.{Swept}
use Rattle.ds_names.specs.Endpoint.{is_rs}
use Rattle.ds_names.specs.Limits.{last_place}
use Rattle.ds_machine.specs.State.{State, held, next_position, takes_effect, owed}
use Rattle.ds_machine.proofs.ReachedLemmas.{with_accepted}
use Rattle.ds_machine.specs.Batches.{AreFree}
use Rattle.ds_machine.proofs.OneStepLemmas.{nothing_owed}
use Rattle.trace_walk.proofs.TombstoneLemmas.{tombstones_are_free}
use Rattle.trace_walk.specs.declared.header.Format.TheVariants.{One}
use Rattle.trace_walk.specs.OneReply.{IsTraced}
use Rattle.trace_walk.specs.Sweep.{tombstones}
use Rattle.trace_walk.specs.Upgrade.{IsPart, IsFullPart}
use Rattle.trace_walk.proofs.SweepLemmas.{AreMerged, batch_free, caller_is, least_most, least_some, none_left, none_merged, none_swept}
use Rattle.trace_walk.proofs.SweepLemmas.{older_swept, one_batch, one_merged}
use Rattle.trace_walk.proofs.sweep.sweep_older.Goals as goal

pub loop-rest-init : goal.loop-rest-init
loop-rest-init c = record {
  some = λ more. omega (arith, c.new-merges.ensures.count, ap length c.as_slice-rest.ensures, c.in_ok-gone.ensures.few);
  few = omega (arith, c.new-merges.ensures.count, ap length c.as_slice-rest.ensures, c.in_ok-gone.ensures.few);
  taken =
      λ s stands free. (
        [],
        refl,
        subst (λ (l : List Item). ContentStands c.args.store.now (with_accepted s l)) (sym (append-nil s.feed.accepted)) stands,
        sym (nothing_owed s),
        none_merged s c.args.pass c.args.limits c.as_slice-rest.result.now c.new-merges.result c.new-merges.ensures,
      );
}

pub loop-rest-preserved : goal.loop-rest-preserved
loop-rest-preserved c =
    let whole = c.as_slice-rest.result.now in
    let rest = c.loop-rest.rest.now in
    let batch = c.split_at.result.0.now in
    let more = c.split_at.result.1.now in
    let some : length rest ≢ 0 = eqb-false (length rest) 0 (sym c.loop-rest-test.ensures) in
    let first : 0 < c.min.result = least_some (length rest) c.min.result some c.min.ensures in
    record {
      some = λ left.
          omega (
            arith,
            left,
            c.loop-rest.invariant.some (omega (arith, some)),
            c.split_at.ensures.back_len,
            c.min.ensures,
            c.in_ok-add.ensures.count,
          );
      few =
          omega
          (arith, c.loop-rest.invariant.some (omega (arith, some)), c.split_at.ensures.back_len, c.min.ensures, c.in_ok-add.ensures.count);
      taken = λ s stands free.
          let before = c.loop-rest.invariant.taken s stands free in
          let split = before.1 ∙ ap (λ (l : List Item). before.0 ++ l) c.split_at.ensures.by_index.0 in
          let merged = c.in_ok-mask.ensures (takes_effect s before.0) before.2 (batch_free s whole before.0 batch more split free) in
          let on = one_batch c.merge_part.new.store s whole before.0 batch more c.loop-rest.owed c.in_ok-mask.mask split before.3 merged.0
          merged.1 in
          let is : IsPart batch =
          record {
            some = omega (arith, first, c.split_at.ensures.front_len);
            few =
                omega (arith, c.split_at.ensures.front_len, least_most (length rest) c.min.result c.min.ensures);
          } in
          let fills : 0 < length more → IsFullPart batch = λ left.
          omega (arith, left, c.split_at.ensures.front_len, c.split_at.ensures.back_len, c.min.ensures) in (
            before.0 ++ batch,
            on.0,
            on.1,
            on.2,
            one_merged s c.args.pass c.args.limits before.0 batch rest more c.loop-rest.merges c.add.new.self c.in_ok-mask.mask is
                (omega (arith, some)) fills merged.0 before.4 c.in_ok-add.ensures.text c.in_ok-add.ensures.count,
          );
    }

pub returns : goal.returns
returns c = (
  λ s stands traced.
      let t = all_taken s stands traced in
      let same : c.in_ok-gone.gone ≡ gone s = same_gone s stands in
      let count : c.len-count.result ≡ length (gone s) = c.len-count.ensures ∙ ap length same in
      let caller : is_rs c.args.sweep.caller ≡ true = caller_is c.args.sweep.caller c.rs.result c.rs.ensures c.if-ne.ensures in
      let out = older_swept s c.args.sweep.caller c.args.sweep.owner c.args.sweep.generation caller
      (most_at (next_position s + length (gone s)) last_place (places_left s stands)) in (
        ap (λ (n : ℕ). Swept n c.loop-rest.owed) count ∙
            ap (λ (m : ℕ). Swept (length (gone s)) m) (t.3 ∙ ap (λ (l : List Item). owed s l) t.1) ∙
            sym (ap (λ (o : Reply × State). o.0) out),
        subst (λ (u : State). ContentStands c.loop-rest.store u) (sym (ap (λ (o : Reply × State). o.1) out))
            (subst (λ (l : List Item). ContentStands c.loop-rest.store (takes_effect s l)) t.1 t.2),
      ),
  λ s stands traced.
      let t = all_taken s stands traced in
      let m = subst (λ (l : List Item). AreMerged s c.args.pass c.args.limits l c.loop-rest.rest.now c.loop-rest.merges) t.1 t.4 in
      (m.new, m.merge, m.are),
)
  where
    gone : State → List Item
    gone s = tombstones (held s) c.args.sweep.owner c.args.sweep.generation

    same_gone : (s : State) → ContentStands c.args.store.now s → c.in_ok-gone.gone ≡ gone s
    same_gone s stands = c.in_ok-gone.ensures.all ∙
        ap (λ (l : List Item). tombstones l c.args.sweep.owner c.args.sweep.generation) (c.held.ensures.value ∙ stands.held)

    places_left : (s : State) → ContentStands c.args.store.now s → next_position s + length (gone s) ≤ last_place
    places_left s stands =
        let place : c.cursor.result.position ≡ next_position s =
        ap (λ (x : Cursor). x.position) c.cursor.ensures.value ∙ stands.journal.position in
        omega (arith, c.if-cursor-len-gt-LAST_PLACE.false, place, c.len.ensures, ap length (same_gone s stands))

    all_taken : (s : State) → ContentStands c.args.store.now s → IsTraced One s →
        (part : List Item) × (part ≡ gone s) × ContentStands c.loop-rest.store (takes_effect s part) × (c.loop-rest.owed ≡ owed s part) ×
        AreMerged s c.args.pass c.args.limits part c.loop-rest.rest.now c.loop-rest.merges
    all_taken s stands traced =
        let free : AreFree s (gone s) = tombstones_are_free s c.args.sweep.owner c.args.sweep.generation traced.reached traced.items
        traced.floors (places_left s stands) in
        let whole : c.as_slice-rest.result.now ≡ gone s = c.as_slice-rest.ensures ∙ same_gone s stands in
        let taken = c.loop-rest.invariant.taken s stands (subst (AreFree s) (sym whole) free) in
        let none : c.loop-rest.rest.now ≡ [] = none_left c.loop-rest.rest.now (sym c.loop-rest-test.ensures) in
        let all : taken.0 ≡ gone s = sym (append-nil taken.0) ∙ ap (λ (l : List Item). taken.0 ++ l) (sym none) ∙ sym taken.1 ∙ whole in
        (taken.0, all, taken.2, taken.3, taken.4)

pub returns-then-ne : goal.returns-then-ne
returns-then-ne c = (
  search rules,
  λ s stands traced. none_swept s c.args.pass c.args.limits c.args.sweep refusals.NotAllowed c.new-merges.result
      c.new-merges.ensures,
)

pub returns-then-cursor-len-gt-LAST_PLACE : goal.returns-then-cursor-len-gt-LAST_PLACE
returns-then-cursor-len-gt-LAST_PLACE c = (
  search rules,
  λ s stands traced. none_swept s c.args.pass c.args.limits c.args.sweep refusals.Worn c.new-merges.result
      c.new-merges.ensures,
)

pub add-requires : goal.add-requires
add-requires c =
    let rest = c.loop-rest.rest.now in
    let some : length rest ≢ 0 = eqb-false (length rest) 0 (sym c.loop-rest-test.ensures) in
    omega (arith, some, c.loop-rest.invariant.some (omega (arith, some)))
