use Rattle.std.proofs.Common.{◌≡◌, ◌<◌, ◌==◌, List, Some, true, false, length, ap, sym, ◌∙◌, arith, rules}
use Rattle.std.specs.List.{slice_get, find}
use Rattle.std.specs.Option.{option_map}
use Rattle.std.proofs.lemmas.Option.{slice_get-get_or}
use Rattle.driver_tables.specs.declared.request.Pending.{Pending}
use Rattle.driver_tables.proofs.ListLemmas.{find_here, find_next}
use Rattle.driver_tables.proofs.request.sent_of.Goals as goal

pub returns-then-p-id : goal.returns-then-p-id
returns-then-p-id c =
    let all = c.deref-p-items.result.now in
    let p = c.p-item.result in
    let test : p.id == c.args.id ≡ true = search rules in
    let inside : c.loop-p.p-index < length all = omega arith in
    let there : slice_get all c.loop-p.p-index ≡ Some p =
    slice_get-get_or all c.loop-p.p-index p inside ∙ ap (λ x. Some x) (sym c.p-item.is) in
    sym (ap (λ (l : List Pending). option_map (λ (p : Pending). p.sent) (find (λ (p : Pending). p.id == c.args.id) l))
    (sym c.deref-p-items.ensures.value)
    ∙ ap (option_map (λ (p : Pending). p.sent))
    (find_here (λ (p : Pending). p.id == c.args.id) all c.loop-p.p-index p there c.loop-p.invariant test))

pub loop-p-preserved : goal.loop-p-preserved
loop-p-preserved c =
    let all = c.deref-p-items.result.now in
    let p = c.p-item.result in
    let test : p.id == c.args.id ≡ false = search rules in
    let inside : c.loop-p.p-index < length all = omega arith in
    let there : slice_get all c.loop-p.p-index ≡ Some p =
    slice_get-get_or all c.loop-p.p-index p inside ∙ ap (λ x. Some x) (sym c.p-item.is) in
    find_next (λ (p : Pending). p.id == c.args.id) all c.loop-p.p-index p there c.loop-p.invariant test
