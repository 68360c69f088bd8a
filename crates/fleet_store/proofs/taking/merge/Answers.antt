use Rattle.std.proofs.Common.{subst, List}
use Rattle.ds_entry.specs.declared.item.Item.{Item}
use Rattle.ds_machine.specs.declared.command.Command.TheVariants.{Merge as Merges}
use Rattle.ds_store.specs.Turns.{Turn}
use Rattle.fleet_store.proofs.taking.merge.Goals as goal

pub returns : goal.returns
returns c =
    subst (λ (l : List Item). Turn c.args.store.now (Merges l) c.fast_merge.result c.fast_merge.new.self) c.from_ref.ensures.value
    (record { stood = c.cursor-state.ensures.stood; steps = c.fast_merge.ensures.step; last = c.fast_merge.ensures.last })
