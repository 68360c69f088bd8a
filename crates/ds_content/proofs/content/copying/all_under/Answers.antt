use Rattle.std.proofs.Common.{◌≡◌, ◌≢◌, ◌<◌, ◌++◌, ◌∷◌, [], None, Bool, List, filter, length, ap, sym, ◌∙◌, arith}
use Rattle.std.specs.List.{slice_get}
use Rattle.std.proofs.lemmas.Option.{slice_get_within}
use Rattle.ds_names.specs.declared.key.Key.{Key}
use Rattle.ds_entry.specs.declared.item.Item.{Item}
use Rattle.ds_entry.specs.Item.{passes}
use Rattle.ds_held.specs.Held.{held_items}
use Rattle.ds_content.proofs.FlagLemmas.{past_end, filter_more, all_taken}
use Rattle.ds_content.proofs.IndexLemmas.{none_is, some_is}
use Rattle.ds_content.proofs.OpenLemmas.{on_err}
use Rattle.ds_content.proofs.PagingLemmas.{kept_some}
use Rattle.ds_content.proofs.content.copying.all_under.Goals as goal

pub overflow_add-index : goal.overflow_add-index
overflow_add-index g c =
    let hs = held_items c.args.held.now in
    let i = some_is (slice_get hs c.loop-items.index) (sym c.if-branch.true ∙ c.in_ok-add_at.ensures.there) in
    let within : c.loop-items.index < length hs = slice_get_within hs c.loop-items.index i.0 i.1 in
    omega (arith, within, c.few_items_proof.ensures)

pub loop-items-smaller : goal.loop-items-smaller
loop-items-smaller g c =
    let hs = held_items c.args.held.now in
    let i = some_is (slice_get hs c.loop-items.index) (sym c.if-branch.true ∙ c.in_ok-add_at.ensures.there) in
    let within : c.loop-items.index < length hs = slice_get_within hs c.loop-items.index i.0 i.1 in
    omega (arith, within)

pub loop-items-preserved : goal.loop-items-preserved
loop-items-preserved g c =
    let hs = held_items c.args.held.now in
    let test = passes (g.S.KeyScope.keeps c.args.scope.now) in
    let i = some_is (slice_get hs c.loop-items.index) (sym c.if-branch.true ∙ c.in_ok-add_at.ensures.there) in
    let within : c.loop-items.index < length hs = slice_get_within hs c.loop-items.index i.0 i.1 in
    let added = c.in_ok-add_at.ensures.added i.0 i.1 in
    record {
      kept =
          added ∙ ap (λ (keeps : Key → Bool). c.loop-items.items ++ filter (passes keeps) (i.0 ∷ [])) c.loop-items.invariant.same ∙
          ap (λ (l : List Item). l ++ filter test (i.0 ∷ [])) c.loop-items.invariant.kept
          ∙ sym (filter_more test c.loop-items.index hs i.0 i.1);
      within = omega (arith, within);
      same = c.in_ok-add_at.ensures.scope ∙ c.loop-items.invariant.same;
    }

pub returns-clause-items : goal.returns-clause-items
returns-clause-items g c =
    let hs = held_items c.args.held.now in
    let test = passes (g.S.KeyScope.keeps c.args.scope.now) in
    let none : slice_get hs c.loop-items.index ≡ None =
    none_is (slice_get hs c.loop-items.index) (sym c.if-branch.false ∙ c.in_ok-add_at.ensures.there) in
    c.in_ok-add_at.ensures.same none ∙ c.loop-items.invariant.kept ∙
    all_taken test c.loop-items.index hs (past_end hs c.loop-items.index none)

-- the item that memory runs out for is one to return
pub returns-in_err-add_at-clause-lacks : goal.returns-in_err-add_at-clause-lacks
returns-in_err-add_at-clause-lacks g c =
    let hs = held_items c.args.held.now in
    let i = c.in_err-add_at.ensures.lacks in
    on_err c.from_residual.result (filter (passes (g.S.KeyScope.keeps c.args.scope.now)) hs ≢ [])
    (kept_some (passes (g.S.KeyScope.keeps c.args.scope.now)) hs c.loop-items.index i.0 i.1
    (ap (λ (keeps : Key → Bool). passes keeps i.0) (sym c.loop-items.invariant.same) ∙ i.2))
