use Rattle.ds_machine.proofs.GivenLemmas.{given_was_accepted, few_are_done}
use Rattle.ds_machine.proofs.laws.given_was_accepted.Goals as goal

pub returns : goal.returns
returns c = record { given = given_was_accepted; few = few_are_done }
