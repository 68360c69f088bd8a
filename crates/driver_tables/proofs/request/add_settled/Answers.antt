use Rattle.std.proofs.Common.{◌≡◌, ◌≢◌, ◌<◌, ◌++◌, [], subst, rules, List, Option, Some, length, ap, sym, ◌∙◌, append_assoc, take, arith}
use Rattle.std.specs.List.{slice_get, filter_map}
use Rattle.std.specs.Option.{option_to_list}
use Rattle.std.proofs.lemmas.Option.{slice_get-get_or}
use Rattle.driver_tables.specs.declared.moves.Move.{Move}
use Rattle.driver_tables.specs.Requests.{settled_in}
use Rattle.driver_tables.proofs.ListLemmas.{filter_map_more, filter_map_some}
use Rattle.driver_tables.proofs.request.add_settled.Goals as goal

pub loop-p-preserved : goal.loop-p-preserved
loop-p-preserved c =
    let f = settled_in c.args.devices.now.entries c.args.label.now c.args.state.now in
    let all = c.deref-p-items.result.now in
    let p = c.p-item.result in
    let before = filter_map f (take c.loop-p.p-index all) in
    let step = c.settled.result in
    let inside : c.loop-p.p-index < length all = omega arith in
    let there : slice_get all c.loop-p.p-index ≡ Some p =
    slice_get-get_or all c.loop-p.p-index p inside ∙ ap (λ x. Some x) (sym c.p-item.is) in
    c.in_ok-add.ensures.added ∙ (ap (λ (l : List Move). l ++ option_to_list step) c.loop-p.invariant ∙
    (append_assoc c.args.moves.now before (option_to_list step)
    ∙ ap (λ (l : List Move). c.args.moves.now ++ l)
    (ap (λ (o : Option Move). before ++ option_to_list o) c.settled.ensures ∙ sym (filter_map_more f all c.loop-p.p-index p there))))

pub returns-in_err-add-clause-room : goal.returns-in_err-add-clause-room
returns-in_err-add-clause-room c =
    let all = c.deref-p-items.result.now in
    let f = settled_in c.args.devices.now.entries c.args.label.now c.args.state.now in
    let p = c.p-item.result in
    let inside : c.loop-p.p-index < length all = omega arith in
    let there : slice_get all c.loop-p.p-index ≡ Some p =
    slice_get-get_or all c.loop-p.p-index p inside ∙ ap (λ x. Some x) (sym c.p-item.is) in
    let some : filter_map f c.args.pending.now.items ≢ [] =
    subst (λ l. filter_map f l ≢ []) c.deref-p-items.ensures.value
    (filter_map_some f all c.loop-p.p-index p there (λ n. c.in_err-add.ensures.room (c.settled.ensures ∙ n))) in
    search rules
