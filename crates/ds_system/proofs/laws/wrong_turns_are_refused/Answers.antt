use Rattle.ds_system.proofs.WrongLemmas.{wrong_turns as the_law}
use Rattle.ds_system.proofs.laws.wrong_turns_are_refused.Goals as goal

pub returns : goal.returns
returns c = the_law
