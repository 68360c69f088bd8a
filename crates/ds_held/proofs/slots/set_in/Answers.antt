use Rattle.std.proofs.Common.{◌≡◌, ◌<◌, Some, sym, ap, ◌∙◌, subst}
use Rattle.std.proofs.lemmas.Option.{slice_get-get_or}
use Rattle.std.specs.List.{slice_get}
use Rattle.ds_held.proofs.RowLemmas.{slot_within, written, filled_written, listed_written}
use Rattle.ds_held.proofs.slots.set_in.Goals as goal

pub index_mut-requires : goal.index_mut-requires
index_mut-requires g c =
    let there : slice_get c.args.order.now c.args.index ≡ Some c.from.result =
    slice_get-get_or c.args.order.now c.args.index 0 c.requires.within ∙ ap (λ n. Some n) (sym c.from.ensures) in
    subst (λ n. c.from.result < n) (sym c.args.slots.now.ok.0)
    (slot_within c.args.order.now c.args.slots.now.items c.args.index c.from.result c.requires.filled there)

pub returns-clause-filled : goal.returns-clause-filled
returns-clause-filled g c =
    let there : slice_get c.args.order.now c.args.index ≡ Some c.from.result =
    slice_get-get_or c.args.order.now c.args.index 0 c.requires.within ∙ ap (λ n. Some n) (sym c.from.ensures) in
    filled_written c.args.order.now c.args.slots.now.items c.args.index c.from.result c.args.element c.requires.filled c.requires.apart
    there

pub returns-clause-listed : goal.returns-clause-listed
returns-clause-listed g c =
    let there : slice_get c.args.order.now c.args.index ≡ Some c.from.result =
    slice_get-get_or c.args.order.now c.args.index 0 c.requires.within ∙ ap (λ n. Some n) (sym c.from.ensures) in
    listed_written c.args.order.now c.args.slots.now.items c.args.index c.from.result c.args.element there c.requires.listed

pub returns-clause-set : goal.returns-clause-set
returns-clause-set g c =
    let there : slice_get c.args.order.now c.args.index ≡ Some c.from.result =
    slice_get-get_or c.args.order.now c.args.index 0 c.requires.within ∙ ap (λ n. Some n) (sym c.from.ensures) in
    written c.args.order.now c.args.slots.now.items c.args.index c.from.result c.args.element c.requires.filled c.requires.apart there
