use Rattle.std.proofs.Common.{◌≡◌, ◌<◌, false, get_or, subst, ◌≤◌, ◌+◌, ◌++◌, ◌∷◌, [], Some, true, cond, List, length, length-append, take}
use Rattle.std.proofs.Common.{filter, inl, inr, ap, sym, ◌∙◌, arith}
use Rattle.std.specs.List.{list_any, slice_get}
use Rattle.std.proofs.lemmas.Option.{slice_get_within}
use Rattle.ds_entry.specs.declared.item.Item.{Item}
use Rattle.ds_entry.proofs.Members.{list_any-from_Contains}
use Rattle.ds_held.specs.Held.{Holding, held_items}
use Rattle.ds_watch.specs.declared.masks.Masks.{Masks}
use Rattle.ds_content.specs.Shown.{is_to_show, AreFirst}
use Rattle.ds_content.proofs.FlagLemmas.{index_among, filter_more, few_taken}
use Rattle.ds_content.proofs.NextLemmas.{filter_past, not_pending, nothing_first}
use Rattle.ds_content.proofs.OpenLemmas.{on_err}
use Rattle.ds_content.proofs.content.showing.first_unseen.Goals as goal
use Rattle.ds_content.proofs.content.showing.first_unseen.Goals.{After-few_items_proof}

-- to a subscription that isn't pending, nothing is to be shown
pub returns-then-not-is_unseen-clause-first : goal.returns-then-not-is_unseen-clause-first
returns-then-not-is_unseen-clause-first c =
    let none : get_or c.args.pending c.args.sub false ≡ false =
    ap (λ (m : Masks). get_or m.unseen c.args.sub false) (sym c.fresh.ensures) ∙ sym c.is_unseen.ensures ∙ c.if-not-is_unseen.true in
    subst (λ (l : List Item). AreFirst c.args.held.now c.args.sub c.args.max l 0) (sym c.new.ensures)
    (nothing_first c.args.held.now c.args.pending c.args.sub c.requires.pending none c.args.max)

pub returns-then-not-is_unseen-clause-rest : goal.returns-then-not-is_unseen-clause-rest
returns-then-not-is_unseen-clause-rest c =
    let none : get_or c.args.pending c.args.sub false ≡ false =
    ap (λ (m : Masks). get_or m.unseen c.args.sub false) (sym c.fresh.ensures) ∙ sym c.is_unseen.ensures ∙ c.if-not-is_unseen.true in
    λ e k i at l. not_pending c.args.held.now c.args.pending c.args.sub c.requires.pending none k i at

-- an item that ran out of memory is one to show
pub returns-in_err-add_copy-clause-refused : goal.returns-in_err-add_copy-clause-refused
returns-in_err-add_copy-clause-refused c =
    let h = c.args.held.now in
    let r = c.in-Some.ensures.there.1 in
    on_err c.from_residual.result (list_any (is_to_show h c.args.sub) (held_items h.held) ≡ true)
    (list_any-from_Contains (is_to_show h c.args.sub) (held_items h.held) r.0 (index_among (held_items h.held) c.in-Some.index r.0 r.1) r.2)

few : (c : After-few_items_proof) → length (held_items c.args.held.now.held) ≤ 4160
few c = subst (λ (h : Holding). length (held_items h) ≤ 4160) c.held-content.ensures.value c.few_items_proof.ensures

-- where no more is to be shown, all of it is
pub returns-in_default-clause-first : goal.returns-in_default-clause-first
returns-in_default-clause-first c =
    let h = c.args.held.now in
    let hs = held_items h.held in
    let p = is_to_show h c.args.sub in
    record {
      shown = c.loop-content.invariant.shown;
      few = c.loop-content.invariant.few;
      enough = inr (c.loop-content.invariant.shown ∙
          sym (filter_past p c.loop-content.passed (length hs) hs c.loop-content.invariant.within
          (λ k i e l below. c.in_default.ensures.none_before k i e l tt))
          ∙ ap (λ (l : List Item). filter p l) (few_taken (length hs) hs (omega arith)));
    }

pub returns-clause-first : goal.returns-clause-first
returns-clause-first c = record {
  shown = c.loop-content.invariant.shown;
  few = c.loop-content.invariant.few;
  enough = inl (let few = c.loop-content.invariant.few in omega (arith, few));
}

pub overflow_add-passed : goal.overflow_add-passed
overflow_add-passed c =
    let hs = held_items c.args.held.now.held in
    let r = c.in-Some.ensures.there.1 in
    let within : c.in-Some.index < length hs = slice_get_within hs c.in-Some.index r.0 r.1 in
    let bound = few (goal.at.overflow_add-passed c).After-few_items_proof in
    omega (arith, within, bound)

pub loop-content-smaller : goal.loop-content-smaller
loop-content-smaller c =
    let hs = held_items c.args.held.now.held in
    let from = c.in-Some.ensures.there.0 in
    let r = c.in-Some.ensures.there.1 in
    let within : c.in-Some.index < length hs = slice_get_within hs c.in-Some.index r.0 r.1 in
    omega (arith, from, within)

pub loop-content-preserved : goal.loop-content-preserved
loop-content-preserved c =
    let h = c.args.held.now in
    let hs = held_items h.held in
    let p = is_to_show h c.args.sub in
    let next = c.in-Some.ensures in
    let index = c.in-Some.index in
    let i = next.there.1.0 in
    let here : slice_get hs index ≡ Some i = next.there.1.1 in
    let within : index < length hs = slice_get_within hs index i here in
    let added : c.add_copy.new.items ≡ c.loop-content.items ++ i ∷ [] =
    c.in_ok-add_copy.ensures i (ap (λ (x : Holding). slice_get (held_items x) index) c.held-content.ensures.value ∙ here) in
    let long = length-append c.loop-content.items (i ∷ []) in
    let room : length c.loop-content.items < c.args.max = omega (arith, c.len.ensures, c.loop-content-test.true) in
    let past : filter p (take index hs) ≡ filter p (take c.loop-content.passed hs) =
    filter_past p c.loop-content.passed index hs next.there.0 (λ k x e l below. next.none_before k x e l below) in
    let more : filter p (take (index + 1) hs) ≡ filter p (take index hs) ++ i ∷ [] =
    filter_more p index hs i here ∙ ap (λ b. filter p (take index hs) ++ cond b (i ∷ []) []) next.there.1.2 in
    record {
      shown = added ∙ ap (λ (l : List Item). l ++ i ∷ []) (c.loop-content.invariant.shown ∙ sym past) ∙ sym more;
      few = omega (arith, ap (λ (l : List Item). length l) added, long, room);
      within = omega (arith, within);
    }
