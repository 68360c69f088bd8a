use Rattle.ds_replica.proofs.BringLemmas.{events_bring_items}
use Rattle.ds_replica.proofs.world.items_are_brought.Goals as goal

pub returns : goal.returns
returns c = record { events = events_bring_items }
