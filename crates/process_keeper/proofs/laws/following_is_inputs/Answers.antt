use Rattle.process_keeper.proofs.FollowLemmas.{following_is_inputs}
use Rattle.process_keeper.proofs.laws.following_is_inputs.Goals as goal

pub returns : goal.returns
returns c = following_is_inputs
