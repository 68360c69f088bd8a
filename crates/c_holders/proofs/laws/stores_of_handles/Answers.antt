use Rattle.c_holders.proofs.HandleLemmas.{handles_are_stores}
use Rattle.c_holders.proofs.laws.stores_of_handles.Goals as goal

pub returns : goal.returns
returns c = handles_are_stores c.pairs_take_turns.ensures.store
