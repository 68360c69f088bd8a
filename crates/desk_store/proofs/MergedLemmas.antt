-- What was merged stays held.
use Rattle.std.proofs.Common.{List, Contains, sym, subst}
use Rattle.std.proofs.lemmas.List.Elements.{Contains-append_left}
use Rattle.ds_entry.specs.declared.item.Item.{Item}
use Rattle.ds_entry.proofs.ItemLemmas.{covers-trans}
use Rattle.ds_machine.proofs.ReachedLemmas.{held_is_top}
use Rattle.desk_store.specs.Merged.{MergedStaysHeld}
use Rattle.desk_store.proofs.FollowLemmas.{later, stays_reached}

pub held_stays : MergedStaysHeld
held_stays es s t items r run holds i h =
    let goes = later es s t r run in
    let j = holds i h in
    let accepted = Contains-append_left s.feed.accepted goes.grown.0 j.0 ((held_is_top s r).among j.0 j.1) in
    let there = subst (λ (l : List Item). Contains l j.0) (sym goes.grown.2) accepted in
    let k = (held_is_top t (stays_reached es s t r run)).greatest j.0 there in
    (k.0, k.1, covers-trans k.0 j.0 i k.2 j.2)
