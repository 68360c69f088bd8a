use Rattle.ds_machine.proofs.BatchLemmas.{free_in_parts, free_are_answered, owed_in_parts}
use Rattle.ds_machine.proofs.TakenLemmas.{free_are_taken}
use Rattle.ds_machine.proofs.laws.free_items_are_taken.Goals as goal

pub returns : goal.returns
returns c = record { taken = free_are_taken; parts = free_in_parts; answered = free_are_answered; owed = owed_in_parts }
