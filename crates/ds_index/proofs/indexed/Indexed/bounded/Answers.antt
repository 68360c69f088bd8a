use Rattle.std.proofs.Common.{ap}
use Rattle.ds_index.proofs.IndexedLemmas.{nothing_indexed}
use Rattle.ds_index.proofs.indexed.Indexed.bounded.Goals as goal

pub invariant_of-result : goal.invariant_of-result
invariant_of-result g c = nothing_indexed c.bounded.result.held.changes c.new.result.names (ap (λ h. h.held.changes) c.bounded.ensures)
    c.new.ensures
