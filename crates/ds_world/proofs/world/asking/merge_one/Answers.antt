use Rattle.std.proofs.Common.{◌∷◌, [], sym, subst}
use Rattle.ds_store.specs.Last.{IsLast}
use Rattle.ds_machine.specs.State.{State}
use Rattle.ds_machine.specs.Machine.{Step}
use Rattle.ds_machine.specs.declared.command.Command.TheVariants.{Merge}
use Rattle.ds_content.specs.Stands.{ContentStands}
use Rattle.ds_replica.specs.declared.event.Side.{Side}
use Rattle.ds_replica.specs.World.{store_at, with_state}
use Rattle.ds_world.proofs.world.asking.merge_one.Goals as goal

pub returns-in-A-clause-step : goal.returns-in-A-clause-step
returns-in-A-clause-step c =
    λ w first second.
    let t = c.merge_item.ensures.step w.a first in
    subst (λ (side : Side). (s : State) × Step (store_at w side) (Merge (c.args.item.now ∷ [])) c.merge_item.result s ×
    ContentStands c.merge_item.new.store (with_state w side s).a × ContentStands c.args.b.now (with_state w side s).b)
    (sym c.in-A.is) (t.0, t.1, t.2, second)

pub returns-in-B-clause-step : goal.returns-in-B-clause-step
returns-in-B-clause-step c =
    λ w first second.
    let t = c.merge_item-in-B.ensures.step w.b second in
    subst (λ (side : Side). (s : State) × Step (store_at w side) (Merge (c.args.item.now ∷ [])) c.merge_item-in-B.result s ×
    ContentStands c.args.a.now (with_state w side s).a
    × ContentStands c.merge_item-in-B.new.store (with_state w side s).b)
    (sym c.in-B.is) (t.0, t.1, first, t.2)

pub returns-in-A-clause-last : goal.returns-in-A-clause-last
returns-in-A-clause-last c = λ w first second.
    subst (λ (side : Side). IsLast (store_at w side) (Merge (c.args.item.now ∷ [])) c.merge_item.result) (sym c.in-A.is)
    (c.merge_item.ensures.last w.a first)

pub returns-in-B-clause-last : goal.returns-in-B-clause-last
returns-in-B-clause-last c =
    λ w first second. subst (λ (side : Side). IsLast (store_at w side) (Merge (c.args.item.now ∷ [])) c.merge_item-in-B.result)
    (sym c.in-B.is) (c.merge_item-in-B.ensures.last w.b second)

pub returns-in-A-clause-fits : goal.returns-in-A-clause-fits
returns-in-A-clause-fits c = c.merge_item.ensures.fits

pub returns-in-B-clause-fits : goal.returns-in-B-clause-fits
returns-in-B-clause-fits c = c.merge_item-in-B.ensures.fits
