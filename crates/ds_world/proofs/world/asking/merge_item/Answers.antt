use Rattle.std.proofs.Common.{List, subst}
use Rattle.ds_entry.specs.declared.item.Item.{Item}
use Rattle.ds_machine.specs.State.{State}
use Rattle.ds_machine.specs.Machine.{Step}
use Rattle.ds_machine.specs.Says.{IsReplyTo}
use Rattle.ds_machine.specs.declared.command.Command.TheVariants.{Merge}
use Rattle.ds_store.specs.Last.{IsLast}
use Rattle.ds_content.specs.Stands.{ContentStands}
use Rattle.ds_store.specs.Steps.{ContentSteps}
use Rattle.ds_world.proofs.world.asking.merge_item.Goals as goal

pub returns-clause-step : goal.returns-clause-step
returns-clause-step c =
    subst (λ (x : List Item). ContentSteps c.args.store.now (λ s t. Step s (Merge x) c.fast_merge.result t) c.fast_merge.new.self)
    c.from_ref-items.ensures.value c.fast_merge.ensures.step

pub returns-clause-last : goal.returns-clause-last
returns-clause-last c = subst (λ (x : List Item). (s : State) → ContentStands c.args.store.now s → IsLast s (Merge x) c.fast_merge.result)
    c.from_ref-items.ensures.value c.fast_merge.ensures.last

pub returns-clause-fits : goal.returns-clause-fits
returns-clause-fits c = subst (λ (x : List Item). IsReplyTo (Merge x) c.fast_merge.result) c.from_ref-items.ensures.value
    c.fast_merge.ensures.fits
