use Rattle.std.proofs.Common.{◌≡◌, ◌||◌, take, ap, sym, ◌∙◌, arith}
use Rattle.std.proofs.lemmas.List.{take_all}
use Rattle.std.specs.List.{list_any}
use Rattle.ds_submap.specs.Take.{needs_query}
use Rattle.ds_submap.proofs.take.is_any_packed_asked.Goals as goal

pub loop-item-init : goal.loop-item-init
loop-item-init c =
    let all : take c.len.result c.args.items.now ≡ c.args.items.now =
    take_all c.len.result c.args.items.now (omega (arith, c.len.ensures)) in
    record { same = ap (list_any (needs_query c.args.filter.now)) (c.in-Some.ensures.some.0 ∙ all) }

pub loop-item-preserved : goal.loop-item-preserved
loop-item-preserved c =
    let test = needs_query c.args.filter.now in
    let first = ap (list_any test) c.in-Some-next.ensures.some in
    let passed = ap (λ b. b || list_any test c.next.new.self) (sym c.is_asked.ensures ∙ c.if-is_asked.false) in
    record { same = sym passed ∙ sym first ∙ c.loop-item.invariant.same }
