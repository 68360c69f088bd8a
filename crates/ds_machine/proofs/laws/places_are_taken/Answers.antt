use Rattle.ds_machine.proofs.TakenLemmas.{places_are_free, places_are_taken}
use Rattle.ds_machine.proofs.laws.places_are_taken.Goals as goal

pub returns : goal.returns
returns c = record { free = places_are_free; taken = places_are_taken }
